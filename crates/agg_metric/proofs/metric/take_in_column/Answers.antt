use Rattle.std.proofs.Common.{◌∙◌, sym, ap, subst, ℕ, ◌+◌, List, [], ◌∷◌, take, drop, get_or}
use Rattle.std.specs.List.{flat_map}
use Rattle.std.proofs.lemmas.List.{get_or_default, take_all}
use Rattle.std.proofs.lemmas.List.Concat.{flat_map_single}
use Rattle.agg_values.specs.TypedKey.{CompositeIntermediateKey}
use Rattle.agg_segment.specs.storage.Columns.{column_keys, encoded_key}
use Rattle.agg_results.proofs.lemmas.metric_results.Exits.{on_err}
use Rattle.agg_metric.specs.Metric.{TakesIn}
use Rattle.agg_metric.proofs.ListParts.{both-parts, next-part}
use Rattle.agg_metric.proofs.TakenValues.{many-both}
use Rattle.agg_metric.proofs.metric.take_in_column.Goals as goal

pub returns-in_err-take_value-clause-err : goal.returns-in_err-take_value-clause-err
returns-in_err-take_value-clause-err c =
    let values = c.values_for_doc-values.result.now in
    let keys = c.args.column.now.keys in
    let i = c.loop-value.value-index in
    let value = get_or values i 0 in
    let give : ℕ → List CompositeIntermediateKey = λ n. encoded_key keys n ∷ [] in
    on_err c.from_residual.result
    (many-both (flat_map give (take i values)) (give value) (flat_map give (take (i + 1) values))
    (flat_map give (drop (i + 1) values)) (column_keys c.args.column.now c.args.doc)
    c.args.metric.now c.loop-value.metric
    (next-part give values i value c.loop-value-test.true
    (get_or_default values i 0 value c.loop-value-test.true))
    (both-parts give values (i + 1)
    ∙ flat_map_single (encoded_key keys) values ∙ c.values_for_doc-values.ensures.keys)
    c.loop-value.invariant
    (c.in_err-take_value.ensures.err (encoded_key keys value) (sym c.number_in.ensures)))

pub returns-clause-ok : goal.returns-clause-ok
returns-clause-ok c =
    let values = c.values_for_doc-values.result.now in
    let keys = c.args.column.now.keys in
    subst (λ vs. TakesIn vs c.args.metric.now c.loop-value.metric)
    (ap (flat_map (λ n. encoded_key keys n ∷ []))
    (take_all c.loop-value.value-index values c.loop-value-test.false)
    ∙ flat_map_single (encoded_key keys) values ∙ c.values_for_doc-values.ensures.keys)
    c.loop-value.invariant
