-- The numbers of a column are choices of the keys that the source gives for them.
use Rattle.std.proofs.Common.{◌≡◌, ℕ, suc, ◌<◌, ◌^◌, List, [], ◌∷◌, length, get_or, map, refl, sym}
use Rattle.std.proofs.Common.{ap, ◌∙◌, subst, inr, arith, All}
use Rattle.std.specs.List.{AllByRecursion}
use Rattle.std.proofs.lemmas.List.{get_or-map}
use Rattle.std.proofs.lemmas.List.Elements.{recursion_from_All}
use Rattle.agg_values.specs.TypedKey.{CompositeIntermediateKey}
use Rattle.agg_segment.specs.storage.Columns.{StandsForKey, encoded_key}
use Rattle.agg_segment.specs.declared.storage.keys.ColumnKeys.{ColumnKeys}
use Rattle.agg_segment.specs.declared.storage.keys.ColumnKeys.TheVariants.{Bools}
use Rattle.agg_request_tree.specs.Faults.{HasInterval}
use Rattle.agg_request_tree.specs.Ranges.{IsInRange}
use Rattle.agg_request_tree.specs.Source.{keys_in, order_of}
use Rattle.agg_request_tree.specs.declared.source.CompositeAggregationSource as kind
use kind.{CompositeAggregationSource}
use kind.TheVariants.{DateHistogram, Histogram, Terms}
use Rattle.agg_request_tree.proofs.Faults.{HasInterval-large}
use Rattle.agg_composite.specs.accessor.Accessors.{IsAccessorOf}
use Rattle.agg_composite.specs.accessor.Lanes.{column_at, column_keys_of, keys_at, lanes}
use Rattle.agg_composite.specs.declared.accessor.accessor.CompositeAccessor.{CompositeAccessor}
use Rattle.agg_composite.specs.declared.accessor.accessor.CompositeSourceAccessors.{
  CompositeSourceAccessors,
}
use Rattle.agg_composite.proofs.lemmas.accessor.LaneKeys.{columns-many, numbers-some}
use Rattle.agg_composite.specs.Choices.{AreChoicesOf, choice_at, divided_choices}
use Rattle.agg_composite.proofs.ChosenStarts.{counted-chosen, dates-chosen}

-- numbers of a lane are choices of their keys
numbers-chosen : (source : CompositeAggregationSource) (a : CompositeSourceAccessors) (i : ℕ)
    → i < length (lanes source a.accessors) → (numbers : List ℕ)
    → ((j : ℕ) → get_or numbers j 0 < 2 ^ 64)
    → AllByRecursion (StandsForKey (keys_at source a.accessors i)) numbers
    → AreChoicesOf source a (map (choice_at (order_of source) a i) numbers)
    (map (encoded_key (keys_at source a.accessors i)) numbers)
numbers-chosen source a i l [] fits stand = tt
numbers-chosen source a i l (n ∷ numbers) fits stand = (
  inr (i, n, l, fits 0, stand.0, refl, refl),
  numbers-chosen source a i l numbers (λ j. fits (suc j)) stand.1,
)

-- what the column of the accessor at an index stands for
column-at : (accessors : List CompositeAccessor) (i : ℕ) (accessor : CompositeAccessor)
    → i < length accessors → accessor ≡ get_or accessors i accessor
    → column_at accessors i ≡ accessor.column.now.keys
column-at accessors i accessor l is =
    get_or-map (λ (x : CompositeAccessor). x.column.now.keys) accessors i accessor Bools l
    ∙ ap (λ (x : CompositeAccessor). x.column.now.keys) (sym is)

-- what the lane of the accessor at an index stands for, where each column has a lane
lane-at : (accessors : List CompositeAccessor) (i : ℕ) (accessor : CompositeAccessor)
    → i < length accessors → accessor ≡ get_or accessors i accessor
    → (i < length (column_keys_of accessors)) × (column_at accessors i ≡ accessor.column.now.keys)
lane-at accessors i accessor l is =
    let long = columns-many accessors in
    (omega (arith, l, long), column-at accessors i accessor l is)

-- numbers of the accessor at an index are choices of the keys that the source gives for what they
-- stand for
pub column-chosen : (source : CompositeAggregationSource) (a : CompositeSourceAccessors) (i : ℕ)
    (accessor : CompositeAccessor) (numbers : List ℕ) (read : List CompositeIntermediateKey)
    → i < length a.accessors → accessor ≡ get_or a.accessors i accessor
    → ((j : ℕ) → get_or numbers j 0 < 2 ^ 64)
    → All (StandsForKey accessor.column.now.keys) numbers
    → map (encoded_key accessor.column.now.keys) numbers ≡ read
    → HasInterval source → IsAccessorOf source accessor
    → AllByRecursion (IsInRange source) (map (encoded_key accessor.column.now.keys) numbers)
    → AreChoicesOf source a (divided_choices source a accessor i numbers)
    (keys_in source read)
column-chosen (Terms s) a i accessor numbers read l is fits stand keys interval own range =
    let lane = lane-at a.accessors i accessor l is in
    subst (AreChoicesOf (Terms s) a (map (choice_at s.order a i) numbers))
    (ap (λ (k : ColumnKeys). map (encoded_key k) numbers) lane.1 ∙ keys)
    (numbers-chosen (Terms s) a i lane.0 numbers fits
    (subst (λ (k : ColumnKeys). AllByRecursion (StandsForKey k) numbers) (sym lane.1)
    (recursion_from_All (StandsForKey accessor.column.now.keys) numbers stand)))
column-chosen (Histogram s) a i accessor numbers read l is fits stand keys interval own range =
    let lane = numbers-some a.accessors (omega (arith, l)) in
    subst (λ ks. AreChoicesOf (Histogram s) a
    (divided_choices (Histogram s) a accessor i numbers) (keys_in (Histogram s) ks)) keys
    (counted-chosen a accessor.column.now.keys numbers s (HasInterval-large s interval)
    (subst (λ (ks : List ColumnKeys). 0 < length ks) (sym lane) (omega arith)) own.reads range)
column-chosen (DateHistogram s) a i accessor numbers read l is fits stand keys interval own range =
    let lane = lane-at a.accessors i accessor l is in
    subst (λ ks. AreChoicesOf (DateHistogram s) a
    (divided_choices (DateHistogram s) a accessor i numbers) (keys_in (DateHistogram s) ks)) keys
    (dates-chosen a accessor.column.now.keys numbers s i accessor.date_histogram_interval
    accessor.date_offset_ns own.division.0 own.division.1 lane.0 lane.1 own.reads range)
