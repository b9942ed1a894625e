use Rattle.std.proofs.Common.{◌≡◌, ◌<◌, ◌∙◌, ℕ, Some, length, refl, sym, ap, subst}
use Rattle.std.specs.Option.{is_some}
use Rattle.agg_segment.specs.storage.Columns.{StandsForKey, encoded_key}
use Rattle.agg_request_tree.specs.Source.{order_of}
use Rattle.agg_composite.specs.accessor.Accessors.{accessors_before, side_to}
use Rattle.agg_composite.specs.accessor.AfterKey.{projected_side}
use Rattle.agg_composite.specs.accessor.Lanes.{keys_at, lane_of, lanes}
use Rattle.agg_composite.proofs.lemmas.accessor.AfterAccessors.{after_accessors, null_by_class}
use Rattle.agg_composite.proofs.accessor.accessor.build.going_on.Goals as goal

pub returns : goal.returns
returns c segment of_field least =
    let source = c.args.source.now in
    let index : ℕ = c.lane_of-after_key_accessor_idx.result in
    after_accessors segment source c.args.accessors of_field c.args.after.now _ refl least
    (c.lane_of-after_key_accessor_idx.ensures.lane
    ∙ ap (lane_of source) (c.count_before-before.ensures
    ∙ ap (accessors_before source c.args.after.now) c.as_slice.ensures))
    c.null_comes_before.ensures
    (null_by_class c.args.after.now c.is_none.result
    (ap is_some (sym c.column_pagination_order.ensures) ∙ c.is_none.ensures))
    (subst (λ xs. (number : ℕ) → index < length (lanes source xs)
    → StandsForKey (keys_at source xs index) number
    → projected_side (order_of source) c.after_key_at-after_key.result number
    ≡ side_to source (Some c.args.after.now) (encoded_key (keys_at source xs index) number))
    c.as_slice-2.ensures c.after_key_at-after_key.ensures)
