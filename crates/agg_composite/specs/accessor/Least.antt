-- Least values, beside the numbers of columns.
use Rattle.std.specs.Prelude.{◌≡◌, ℕ, List, [], Bool, Option, None, Some, filter, get_or, not}
use Rattle.std.specs.List.{AllZip}
use Rattle.agg_values.specs.TypedKey.{CompositeIntermediateKey}
use Rattle.agg_segment.specs.storage.Columns.{StandsForKey, encoded_key}
use Rattle.agg_segment.specs.declared.storage.keys.ColumnKeys.{ColumnKeys}
use Rattle.agg_request_tree.specs.Source.{is_from}
use Rattle.agg_composite.specs.accessor.AfterKey.{is_above}
use Rattle.agg_composite.specs.declared.accessor.accessor.CompositeAccessor.{CompositeAccessor}
use Rattle.agg_composite.specs.declared.accessor.after_key.PrecomputedAfterKey.{PrecomputedAfterKey}
use Rattle.agg_composite.specs.declared.accessor.after_key.PrecomputedAfterKey.TheVariants.{Next}

-- whether a number isn't below a place
abbrev pub is_number_from : PrecomputedAfterKey → ℕ → Bool
is_number_from place number = not (is_above place number)

-- the numbers that aren't
abbrev pub numbers_from : PrecomputedAfterKey → List ℕ → List ℕ
numbers_from place numbers = filter (is_number_from place) numbers

-- a place is that of a least value among the numbers of a column: those that aren't below it are of
-- values that aren't below the least one
abbrev pub IsLeastIn : ColumnKeys → Option CompositeIntermediateKey → PrecomputedAfterKey → Type 0
IsLeastIn keys min place =
    (number : ℕ) → StandsForKey keys number
    → is_number_from place number ≡ is_from min (encoded_key keys number)

-- places of a least value in the columns of accessors, or none where there is no least value
abbrev pub AreLeastIn : Option CompositeIntermediateKey → List CompositeAccessor
    → List PrecomputedAfterKey → Type 0
AreLeastIn None accessors places = places ≡ []
AreLeastIn (Some least) accessors places =
    AllZip (λ a place. IsLeastIn a.column.now.keys (Some least) place) accessors places

-- the place for the accessor at an index, which no number is below where there is none
abbrev pub least_at : List PrecomputedAfterKey → ℕ → PrecomputedAfterKey
least_at places index = get_or places index (Next 0)
