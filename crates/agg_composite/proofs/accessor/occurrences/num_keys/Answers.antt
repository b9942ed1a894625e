use Rattle.std.proofs.Common.{◌-◌, ◌^◌, ◌∙◌, min, sym, ap, arith}
use Rattle.agg_segment.specs.Segment.{document_at}
use Rattle.agg_request_tree.specs.Source.{min_of}
use Rattle.agg_composite.proofs.lemmas.accessor.OccurrenceCounts.{length-in_columns, source-bucket}
use Rattle.agg_composite.proofs.lemmas.accessor.OccurrenceCounts.{source-none}
use Rattle.agg_composite.proofs.accessor.occurrences.num_keys.Goals as goal

pub returns-then-missing_bucket : goal.returns-then-missing_bucket
returns-then-missing_bucket c segment of_field least =
    let source = c.args.source.now in
    c.max.ensures
    ∙ source-bucket source (document_at segment c.args.doc) c.num_values-num_values.result
    (2 ^ 64 - 1) (omega arith)
    (c.num_values-num_values.ensures (min_of source) least
    ∙ ap (λ n. min n (2 ^ 64 - 1))
    (length-in_columns segment source c.args.accessors.now.accessors of_field c.args.doc))
    (sym c.missing_bucket.ensures ∙ c.if-missing_bucket.true)

pub returns : goal.returns
returns c segment of_field least =
    let source = c.args.source.now in
    source-none source (document_at segment c.args.doc) c.num_values-num_values.result
    (2 ^ 64 - 1) (omega arith)
    (c.num_values-num_values.ensures (min_of source) least
    ∙ ap (λ n. min n (2 ^ 64 - 1))
    (length-in_columns segment source c.args.accessors.now.accessors of_field c.args.doc))
    (sym c.missing_bucket.ensures ∙ c.if-missing_bucket.false)
