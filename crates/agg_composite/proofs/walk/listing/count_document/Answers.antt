use Rattle.std.proofs.Common.{[], ◌∷◌, ◌∙◌, arith, ap, false, length, subst, sym}
use Rattle.agg_segment.specs.Segment.{document_at}
use Rattle.agg_composite.specs.Choices.{AreChoicesIn}
use Rattle.agg_composite.specs.Walk.{walked}
use Rattle.agg_composite.proofs.ChoicePairs.{past-document}
use Rattle.agg_composite.proofs.DocumentsInRow.{gathered-from}
use Rattle.agg_composite.proofs.ListedEntries.{one-row}
use Rattle.agg_composite.proofs.ListedTuples.{keys-answer}
use Rattle.agg_composite.specs.Listing.{past_of}
use Rattle.agg_composite.proofs.walk.listing.count_document.Goals as goal

pub returns : goal.returns
returns g c = λ segment after fit range.
    let req = c.args.req.now in
    let sources = req.req.now.sources in
    let accessors = req.composite_accessors in
    let doc = c.args.doc in
    let choices = c.as_slice-2.result.now in
    let sizes = c.gather.new.self.sizes.items in
    let gathered = c.in_ok-gather.ensures in
    let read = gathered-from c.as_slice-sources.result.now sources
    c.as_slice.result.now accessors doc sizes sizes
    c.gather.new.self.choices.items choices
    c.as_slice-sources.ensures c.as_slice.ensures (λ i. sizes)
    c.as_slice-2.ensures.value gathered.read in
    let row = one-row sizes choices
    (gathered.each ∙ ap length c.as_slice-sources.ensures ∙ c.requires.one)
    (gathered.whole ∙ ap length (sym c.as_slice-2.ensures.value)) in
    keys-answer req c.args.counts.now c.count_choices.new.counts c.args.steps.now
    c.count_choices.new.steps c.count_choices.result (walked (choices ∷ []) [] false)
    (past_of segment after req (doc ∷ []))
    (past-document segment after sources accessors doc (choices ∷ []) fit
    (range 0 (document_at segment doc) (omega arith))
    (subst (AreChoicesIn sources accessors doc) row read))
    c.count_choices.ensures
