use Rattle.std.proofs.Common.{◌≡◌, ◌-◌, ◌^◌, ◌∙◌, length, min, ap, subst}
use Rattle.std.proofs.lemmas.List.{take_all}
use Rattle.agg_segment.specs.Segment.{document_at}
use Rattle.agg_request_tree.specs.Occurrences.{occurrences}
use Rattle.agg_request_tree.specs.Source.{source_values}
use Rattle.agg_composite.proofs.lemmas.accessor.CutCounts.{cut-occurrences-more}
use Rattle.agg_composite.proofs.lemmas.accessor.OccurrenceCounts.{fits-at}
use Rattle.agg_composite.proofs.accessor.occurrences.num_occurrences.Goals as goal

pub loop-index-preserved : goal.loop-index-preserved
loop-index-preserved c segment after fit =
    let sources = c.args.sources.now in
    let document = document_at segment c.args.doc in
    let i = c.loop-index.index in
    let source = c.index-sources-index.result in
    let a = c.index-accessors-index.result in
    let fits = fits-at segment after sources c.args.accessors.now i source a
    c.loop-index-test.true c.index-sources-index.is c.index-accessors-index.is fit in
    let own = c.num_keys.ensures segment fits.columns fits.least in
    let here = subst (λ s. c.num_keys.result ≡ min (length (source_values s document)) (2 ^ 64 - 1))
    c.index-sources-index.is own in
    let more = cut-occurrences-more sources i source document c.loop-index.product
    c.num_keys.result (2 ^ 64 - 1) c.loop-index-test.true
    (c.loop-index.invariant segment after fit) here in
    cc more

pub returns : goal.returns
returns c segment after fit =
    c.loop-index.invariant segment after fit
    ∙ ap (λ sources. min (length (occurrences sources (document_at segment c.args.doc)))
    (2 ^ 64 - 1)) (take_all c.loop-index.index c.args.sources.now c.loop-index-test.false)
