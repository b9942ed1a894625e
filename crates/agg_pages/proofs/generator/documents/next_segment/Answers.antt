use Rattle.std.proofs.Common.{◌≡◌, ◌+◌, ◌*◌, ◌∷◌, ◌++◌, [], Result, Ok, Err}
use Rattle.std.proofs.Common.{length, refl, ap, subst, ◌∙◌, arith}
use Rattle.std.specs.Prelude.{IsErrOf, IsOkUnless}
use Rattle.std.proofs.lemmas.Result.{IfOk-at_ok}
use Rattle.agg_segment.specs.storage.Document.{meaning}
use Rattle.agg_segment.specs.Segment.{gathered_documents}
use Rattle.agg_segment.specs.SegmentLimits.{IsMixed}
use Rattle.agg_segment.specs.declared.builder.BuildError.{BuildError}
use Rattle.agg_segment.specs.declared.builder.BuildError.TheVariants as error
use Rattle.agg_pages.specs.generator.Draws.{state_after}
use Rattle.agg_pages.specs.generator.Documents.{generated_documents}
use Rattle.agg_pages.proofs.lemmas.generator.DrawnDocuments.{generated_documents_next}
use Rattle.agg_pages.proofs.lemmas.generator.DrawnDocuments.{length-generated_documents}
use Rattle.agg_pages.proofs.lemmas.generator.NumbersDrawn.{generated_documents_fit}
use Rattle.agg_pages.proofs.lemmas.generator.States.{state_after-state_after}
use Rattle.agg_pages.proofs.generator.documents.next_segment.Goals as goal

-- where no number and no count is refused, memory is
memory_alone : {T : Type 0} (r : Result T BuildError) → ¬ IsErrOf r error.MixedNumbers
    → ¬ IsErrOf r error.TooManyDocuments → IsOkUnless r error.OutOfMemory
memory_alone (Ok x) fits few = tt
memory_alone (Err error.MixedNumbers) fits few = absurd (fits refl)
memory_alone (Err error.TooManyDocuments) fits few = absurd (few refl)
memory_alone (Err error.OutOfMemory) fits few = refl

pub loop-init : goal.loop-init
unfolding state_after generated_documents
loop-init c = record { documents = c.new-builder.ensures.documents; state = refl }

pub unless_refused-requires : goal.unless_refused-requires
unless_refused-requires c =
    let seed = c.args.generator.now in
    let count = c.loop.counter in
    let all = generated_documents_next seed count c.loop.generator c.in_ok-document.document _
    c.loop.invariant.state c.in_ok-document.ensures.values c.loop.invariant.documents in
    let before = ap length c.loop.invariant.documents ∙ length-generated_documents seed 0 count in
    memory_alone c.add_document.result
    (λ is. generated_documents_fit seed 0 (count + 1)
    (subst IsMixed all (c.add_document.ensures.mixed is)))
    (λ is. omega (arith, before, c.add_document.ensures.full.0 is))

pub loop-preserved : goal.loop-preserved
loop-preserved c =
    let seed = c.args.generator.now in
    let count = c.loop.counter in
    let document = c.in_ok-document.document in
    let added = IfOk-at_ok (λ _. gathered_documents c.add_document.new.self
    ≡ gathered_documents c.loop.builder ++ meaning document ∷ [])
    c.in_ok-unless_refused.ensures c.add_document.ensures.ok in
    record {
      documents = added ∙ generated_documents_next seed count c.loop.generator document _
          c.loop.invariant.state c.in_ok-document.ensures.values c.loop.invariant.documents;
      state = c.next_document.ensures.state ∙ ap (state_after 3) c.loop.invariant.state
          ∙ state_after-state_after 3 (3 * count) seed
          ∙ ap (λ n. state_after n seed) (omega arith);
    }
