use Rattle.std.proofs.Common.{◌-◌, ◌^◌, ◌∙◌, length, min, ap}
use Rattle.std.proofs.lemmas.List.{take_all}
use Rattle.agg_segment.specs.Segment.{documents_at}
use Rattle.agg_request_tree.specs.Occurrences.{occurrences_in}
use Rattle.agg_composite.proofs.lemmas.accessor.CutCounts.{cut-count}
use Rattle.agg_composite.proofs.accessor.occurrences.count_occurrences.Goals as goal

pub loop-doc-preserved : goal.loop-doc-preserved
loop-doc-preserved c segment after fit =
    let sum = cut-count c.args.sources.now segment c.args.docs.now c.loop-doc.doc-index
    c.loop-doc.count c.num_occurrences.result (2 ^ 64 - 1) c.loop-doc-test.true
    (c.loop-doc.invariant segment after fit) (c.num_occurrences.ensures segment after fit) in
    cc sum

pub returns : goal.returns
returns c segment after fit =
    c.loop-doc.invariant segment after fit
    ∙ ap (λ docs. min (length (occurrences_in c.args.sources.now (documents_at segment docs)))
    (2 ^ 64 - 1)) (take_all c.loop-doc.doc-index c.args.docs.now c.loop-doc-test.false)
