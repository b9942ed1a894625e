-- Why a run over bytes in memory gave no pages.
use Rattle.std.proofs.Common.{◌≡◌, ◌≢◌, ℕ, List, Option, Some, refl, subst, arith}
use Rattle.agg_segment.specs.declared.query.QueryTree.{QueryTree}
use Rattle.agg_pages.specs.declared.status.Status.{Status}
use Rattle.agg_pages.specs.declared.status.Status.TheVariants.{Ok, Refused, Usage}
use Rattle.agg_pages.specs.declared.status.Status.TheVariants.{Input as NotInput, ReadFault}
use Rattle.agg_pages.specs.declared.status.Status.TheVariants.{WriteFault, OutOfMemory}
use Rattle.agg_pages.specs.Commands.{walk_arguments}
use Rattle.agg_pages.specs.declared.command.Command.TheVariants.{Walk}
use Rattle.agg_pages.specs.Input.{Input, IsInput}
use Rattle.agg_pages.specs.Observed.{Observed, over}
use Rattle.agg_pages.specs.Run.{GaveInput, IsAnswered, invocation}
use Rattle.agg_embedding.specs.NoPages.{HaveNoPages}

-- bytes in memory, read without a fault
abbrev steady : List ℕ → List ℕ → Observed (List ℕ)
steady bytes left = over (λ source. Some source) (λ _. 0) bytes left

reads_input : {B : Type 0} (builders : List B) (name_of : B → List ℕ) (bytes left : List ℕ)
    (i : Input B)
    → GaveInput builders name_of (steady bytes left) i → IsInput builders name_of bytes i
reads_input builders name_of bytes left i (given, gives, is) =
    subst (λ all. IsInput builders name_of all i) (gives bytes refl).0 is

pub no_pages : {W B : Type 0} (builders : List B) (name_of : B → List ℕ)
    (tree_for : B → List (List ℕ) → Option QueryTree) (sink : Observed W) (bytes left : List ℕ)
    (words : List (List ℕ)) (status : Status) → words ≡ walk_arguments → status ≢ Ok
    → IsAnswered builders name_of tree_for (invocation words status) (steady bytes left) sink
    → HaveNoPages builders name_of tree_for bytes status
no_pages builders name_of tree_for sink bytes left words Ok walk other answered =
    absurd (other refl)
no_pages builders name_of tree_for sink bytes left words Refused walk other answered =
    let (i, gave, (text, refusal, appended)) = (answered.walked walk).refused refl in
    (i, reads_input builders name_of bytes left i gave, (text, refusal))
no_pages builders name_of tree_for sink bytes left words Usage walk other answered =
    absurd (answered.usage.0 refl Walk walk)
no_pages builders name_of tree_for sink bytes left words NotInput walk other answered =
    ((answered.walked walk).no_input refl bytes refl).0
no_pages builders name_of tree_for sink bytes left words ReadFault walk other answered =
    absurd (omega (arith, (answered.walked walk).read_fault refl))
no_pages builders name_of tree_for sink bytes left words WriteFault walk other answered =
    let (i, gave, written) = (answered.walked walk).prefix refl in
    (i, reads_input builders name_of bytes left i gave)
no_pages builders name_of tree_for sink bytes left words OutOfMemory walk other answered = tt
