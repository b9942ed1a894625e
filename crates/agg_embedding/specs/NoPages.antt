-- Why bytes in memory have no printed pages.
use Rattle.std.specs.Prelude.{ℕ, List, Option, ⊤}
use Rattle.agg_segment.specs.declared.query.QueryTree.{QueryTree}
use Rattle.agg_pages.specs.declared.status.Status.{Status}
use Rattle.agg_pages.specs.declared.status.Status.TheVariants.{Ok, Refused, Usage}
use Rattle.agg_pages.specs.declared.status.Status.TheVariants.{Input as NotInput, ReadFault}
use Rattle.agg_pages.specs.declared.status.Status.TheVariants.{WriteFault, OutOfMemory}
use Rattle.agg_pages.specs.Answer.{IsRefusal}
use Rattle.agg_pages.specs.Input.{AreNoInput, Input, IsInput}

-- bytes have no pages, and a status says why: they are no input, or one whose walk may be refused,
-- or, at a write fault, one; OutOfMemory needs no cause, and no other status comes
abbrev pub HaveNoPages : {B : Type 0} → List B → (B → List ℕ)
    → (B → List (List ℕ) → Option QueryTree) → List ℕ → Status → Type 0
HaveNoPages builders name_of tree_for bytes NotInput = AreNoInput builders name_of bytes
HaveNoPages {B = B} builders name_of tree_for bytes Refused =
    (i : Input B) × IsInput builders name_of bytes i × ((text : List ℕ) × IsRefusal tree_for i text)
HaveNoPages {B = B} builders name_of tree_for bytes WriteFault =
    (i : Input B) × IsInput builders name_of bytes i
HaveNoPages builders name_of tree_for bytes OutOfMemory = ⊤
HaveNoPages builders name_of tree_for bytes Ok = ⊥
HaveNoPages builders name_of tree_for bytes Usage = ⊥
HaveNoPages builders name_of tree_for bytes ReadFault = ⊥
