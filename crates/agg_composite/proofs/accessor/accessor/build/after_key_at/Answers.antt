use Rattle.std.proofs.Common.{◌≡◌, sym, subst}
use Rattle.agg_values.specs.KeyOrder.{key_order}
use Rattle.agg_values.specs.declared.order.MissingOrder.{MissingOrder}
use Rattle.agg_values.specs.declared.order.Order.{Order}
use Rattle.agg_segment.specs.storage.Columns.{StandsForKey, encoded_key}
use Rattle.agg_segment.specs.declared.storage.keys.ColumnKeys.{ColumnKeys}
use Rattle.agg_composite.specs.accessor.AfterKey.{projected_side}
use Rattle.agg_composite.proofs.lemmas.accessor.LaneKeys.{numbers-lane}
use Rattle.agg_composite.proofs.accessor.accessor.build.after_key_at.Goals as goal

pub returns-in-Histogram : goal.returns-in-Histogram
returns-in-Histogram c = λ number l stands.
    let place = c.precompute_among_starts.result in
    let lane = numbers-lane c.args.source.now c.in-Histogram.field-0 c.in-Histogram.is
    c.args.accessors.now c.args.index l in
    subst (λ (p : Order × MissingOrder × ColumnKeys). projected_side p.0 place number
    ≡ key_order p.0 p.1 (encoded_key p.2 number) c.args.after.now)
    (λ x. (c.order-order.ensures x, c.missing_order-missing_order.ensures x, sym lane x))
    (c.precompute_among_starts.ensures number
    (subst (λ (k : ColumnKeys). StandsForKey k number) lane stands))
