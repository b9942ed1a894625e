-- The choices that a document gives for sources.
use Rattle.std.specs.Prelude.{◌≡◌, ◌-◌, ◌++◌, ℕ, List, [], ◌∷◌, Bool, ⊤}
use Rattle.std.specs.Prelude.{length, map, sum, if◌then◌else◌}
use Rattle.std.specs.List.{All, AllZip}
use Rattle.std.specs.declared.cmp.Ordering.{Ordering}
use Rattle.std.specs.declared.cmp.Ordering.TheVariants.{Less, Equal, Greater}
use Rattle.agg_values.specs.TypedKey.{CompositeIntermediateKey}
use Rattle.agg_values.specs.declared.order.Order.{Order}
use Rattle.agg_values.specs.declared.order.Order.TheVariants.{Asc, Desc}
use Rattle.agg_request_tree.specs.Faults.{HasInterval}
use Rattle.agg_request_tree.specs.Ranges.{IsInRange}
use Rattle.agg_request_tree.specs.Source.{Sources, min_of, missing_bucket_of, or_missing}
use Rattle.agg_request_tree.specs.Source.{order_of}
use Rattle.agg_request_tree.specs.declared.source.CompositeAggregationSource as kind
use kind.{CompositeAggregationSource}
use Rattle.agg_composite.specs.accessor.Accessors.{IsAccessorOf, keys_in_columns, keys_read}
use Rattle.agg_composite.specs.accessor.Accessors.{side_at}
use Rattle.agg_composite.specs.accessor.Encoding.{IsItemOf, encoded_at, encoded_null}
use Rattle.agg_composite.specs.accessor.Lanes.{lane_of}
use Rattle.agg_composite.specs.accessor.Least.{AreLeastIn}
use Rattle.agg_composite.specs.accessor.Ranges.{divisor_at}
use Rattle.agg_composite.specs.accessor.Starts.{lane_number}
use Rattle.agg_composite.specs.Walk.{parts}
use Rattle.agg_composite.specs.declared.accessor.accessor.CompositeAccessor.{CompositeAccessor}
use Rattle.agg_composite.specs.declared.accessor.accessor.CompositeSourceAccessors.{
  CompositeSourceAccessors,
}
use Rattle.agg_composite.specs.declared.walk.choice.Choice.{Choice}

-- ---- a choice

-- how Null stands to the after value: below where it comes before, at where the value is Null
abbrev pub missing_standing : Bool → Bool → Ordering
missing_standing before same = if before then Less else (if same then Equal else Greater)

-- Null as a choice
abbrev pub null_choice : CompositeAggregationSource → CompositeSourceAccessors → Choice
null_choice source a =
    record {
      value = encoded_null source a.accessors;
      side = missing_standing a.skip_missing a.is_after_key_explicit_missing;
    }

-- a number of the lane at an index as a choice
abbrev pub choice_at : Order → CompositeSourceAccessors → ℕ → ℕ → Choice
choice_at order a i number =
    record { value = encoded_at order i number; side = side_at order a i number }

-- a choice is that of a key: of Null, or of the key of a number of a lane
abbrev pub IsChoiceOf : CompositeAggregationSource → CompositeSourceAccessors → Choice
    → CompositeIntermediateKey → Type 0
IsChoiceOf source a =
    IsItemOf source a.accessors (null_choice source a) (choice_at (order_of source) a)

-- ---- the choices of a source

-- the index of the accessor that is read in a turn, of so many
abbrev pub index_in : Order → ℕ → ℕ → ℕ
index_in Asc accessors turn = turn
index_in Desc accessors turn = accessors - 1 - turn

-- accessors can be read in a document: they are those of a source that has what it divides values
-- by, with the places of its least value, and the starts of the keys that it reads lie within i64
pub record CanRead (source : CompositeAggregationSource) (a : CompositeSourceAccessors) (doc : ℕ)
    : Type 0 where
  pub interval : HasInterval source
  pub each : All (IsAccessorOf source) a.accessors
  pub least : AreLeastIn (min_of source) a.accessors a.min
  pub range : All (IsInRange source) (keys_in_columns source a.accessors doc)

-- the keys that a source gives for what accessors read in a document, by class ascending, or Null
-- where there is none and a missing value has a bucket
abbrev pub values_read : CompositeAggregationSource → CompositeSourceAccessors → ℕ
    → List CompositeIntermediateKey
values_read source a doc =
    or_missing (missing_bucket_of source) (keys_read source a.accessors doc)

-- choices of a source, of these keys in order
abbrev pub AreChoicesOf : CompositeAggregationSource → CompositeSourceAccessors → List Choice
    → List CompositeIntermediateKey → Type 0
AreChoicesOf source a = AllZip (IsChoiceOf source a)

-- choices stand after those that were there, of these keys where the document can be read
abbrev pub AddsChoices : CompositeAggregationSource → CompositeSourceAccessors → ℕ
    → List CompositeIntermediateKey → List Choice → List Choice → Type 0
AddsChoices source a doc keys before choices =
    (added : List Choice) × (choices ≡ before ++ added)
    × (CanRead source a doc → AreChoicesOf source a added keys)

-- the numbers of a column of the accessor at an index as choices, divided
abbrev pub divided_choices : CompositeAggregationSource → CompositeSourceAccessors
    → CompositeAccessor → ℕ → List ℕ → List Choice
divided_choices source a accessor index numbers =
    map
    (λ n. choice_at (order_of source) a (lane_of source index)
    (lane_number (divisor_at source accessor) accessor.column.now.keys n))
    numbers

-- ---- the choices of all sources

-- choices of each source, of the keys that it reads in a document where it can be read
abbrev pub AreChoicesIn : Sources → List CompositeSourceAccessors → ℕ → List (List Choice) → Type 0
AreChoicesIn [] [] doc [] = ⊤
AreChoicesIn (source ∷ sources) (a ∷ accessors) doc (choices ∷ rows) =
    (CanRead source a doc → AreChoicesOf source a choices (values_read source a doc))
    × AreChoicesIn sources accessors doc rows
AreChoicesIn _ _ doc _ = ⊥

-- the choices of all sources in a document, end to end, with the size of each source's part
pub record AreGathered (sources : Sources) (accessors : List CompositeSourceAccessors) (doc : ℕ)
    (sizes : List ℕ) (choices : List Choice) : Type 0 where
  pub whole : sum sizes ≡ length choices
  pub each : length sizes ≡ length sources
  pub read : AreChoicesIn sources accessors doc (parts sizes choices)
