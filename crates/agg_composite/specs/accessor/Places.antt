-- Places of after keys among the numbers of columns.
use Rattle.std.specs.Prelude.{◌≡◌, ◌+ℤ◌, ◌^◌, ℕ, ℤ, pos, unsigned_abs}
use Rattle.agg_values.specs.KeyOrder.{ascending_order}
use Rattle.agg_values.specs.TypedKey.{CompositeIntermediateKey}
use Rattle.agg_values.specs.declared.number.ProjectedNumber.{ProjectedNumber}
use Rattle.agg_values.specs.declared.number.ProjectedNumber.TheVariants as number
use Rattle.agg_values.specs.declared.order.Order.TheVariants.{Asc}
use Rattle.agg_segment.specs.storage.Columns.{StandsForKey, encoded_key}
use Rattle.agg_segment.specs.declared.storage.hit.OrdHit.{OrdHit}
use Rattle.agg_segment.specs.declared.storage.hit.OrdHit.TheVariants as hit
use Rattle.agg_segment.specs.declared.storage.keys.ColumnKeys.{ColumnKeys}
use Rattle.agg_composite.specs.accessor.AfterKey.{projected_side}
use Rattle.agg_composite.specs.declared.accessor.after_key.PrecomputedAfterKey.{PrecomputedAfterKey}
use Rattle.agg_composite.specs.declared.accessor.after_key.PrecomputedAfterKey.TheVariants.{
  AfterLast,
}
use Rattle.agg_composite.specs.declared.accessor.after_key.PrecomputedAfterKey.TheVariants.{Exact}
use Rattle.agg_composite.specs.declared.accessor.after_key.PrecomputedAfterKey.TheVariants.{Next}

-- the place of a hit in a list, at the ordinal of an item
abbrev pub hit_place : OrdHit → PrecomputedAfterKey
hit_place (hit.Exact ordinal) = Exact ordinal
hit_place (hit.Next ordinal) = Next ordinal
hit_place hit.AfterLast = AfterLast

-- the place of a number, among unsigned numbers
abbrev pub unsigned_place : ProjectedNumber ℕ → PrecomputedAfterKey
unsigned_place (number.Exact n) = Exact n
unsigned_place (number.Next n) = Next n
unsigned_place number.AfterLast = AfterLast

-- a signed number moved up by 2^63
abbrev pub moved_up : ℤ → ℕ
moved_up n = unsigned_abs (n +ℤ pos (2 ^ 63))

-- the place of a number, among signed numbers that are moved up
abbrev pub signed_place : ProjectedNumber ℤ → PrecomputedAfterKey
signed_place (number.Exact n) = Exact (moved_up n)
signed_place (number.Next n) = Next (moved_up n)
signed_place number.AfterLast = AfterLast

-- a place is that of a key among the numbers of a column, in ascending order
abbrev pub IsPlaceOf : ColumnKeys → CompositeIntermediateKey → PrecomputedAfterKey → Type 0
IsPlaceOf keys k place =
    (number : ℕ) → StandsForKey keys number
    → projected_side Asc place number ≡ ascending_order (encoded_key keys number) k
