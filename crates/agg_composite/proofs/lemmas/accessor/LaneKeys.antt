-- The lanes of a source, beside the columns of its accessors.
use Rattle.std.proofs.Common.{◌≡◌, ◌<◌, ◌≤◌, ℕ, List, [], ◌∷◌, length, refl, sym}
use Rattle.std.proofs.Common.{subst, get_or, arith}
use Rattle.std.proofs.lemmas.Bool.Decides.{nat_tests}
use Rattle.std.proofs.lemmas.Int.{ints}
use Rattle.std.proofs.lemmas.List.{length-map}
use Rattle.std.specs.Ordering.{nat_cmp}
use Rattle.agg_values.specs.declared.order.Order.{Order}
use Rattle.agg_values.specs.declared.order.Order.TheVariants.{Asc, Desc}
use Rattle.agg_segment.specs.storage.Columns.{AreInKeyOrder, keys_rank}
use Rattle.agg_segment.specs.declared.storage.keys.ColumnKeys.{ColumnKeys}
use Rattle.agg_segment.specs.declared.storage.keys.ColumnKeys.TheVariants.{Bools, Signed}
use Rattle.agg_request_tree.specs.declared.source.CompositeAggregationSource as kind
use kind.{CompositeAggregationSource}
use kind.TheVariants.{Histogram}
use Rattle.agg_request_tree.specs.declared.source.HistogramCompositeAggregationSource as numbers
use numbers.{HistogramCompositeAggregationSource as Counted}
use Rattle.agg_composite.specs.accessor.Lanes.{class_order, column_keys_of, keys_at}
use Rattle.agg_composite.specs.accessor.Lanes.{lane_of_numbers, lanes}
use Rattle.agg_composite.specs.declared.accessor.accessor.CompositeAccessor.{CompositeAccessor}

-- where each column has a lane, there are as many lanes as accessors
pub columns-many : (accessors : List CompositeAccessor)
    → length (column_keys_of accessors) ≡ length accessors
columns-many accessors = length-map accessors (λ a. a.column.now.keys)

-- ---- the one lane of numbers

-- it is the only one
pub numbers-one : (accessors : List CompositeAccessor) → length (lane_of_numbers accessors) ≤ 1
numbers-one [] = omega arith
numbers-one (a ∷ accessors) = omega arith

-- where there is an accessor, it is there, and is of signed numbers
pub numbers-some : (accessors : List CompositeAccessor) → 0 < length accessors
    → lane_of_numbers accessors ≡ Signed ∷ []
numbers-some [] some = absurd (omega arith)
numbers-some (a ∷ accessors) some = refl

-- an accessor at an index of a lane of numbers is of signed numbers
pub numbers-at : (accessors : List CompositeAccessor) (i : ℕ)
    → i < length (lane_of_numbers accessors)
    → get_or (lane_of_numbers accessors) i Bools ≡ Signed
numbers-at [] i l = absurd (omega arith)
numbers-at (a ∷ accessors) i l =
    let first : 0 ≡ i = omega (arith, l) in
    subst (λ j. get_or (Signed ∷ []) j Bools ≡ Signed) first refl

-- an accessor at an index of the lanes of a histogram is of signed numbers
pub numbers-lane : (source : CompositeAggregationSource) (s : Counted) → source ≡ Histogram s
    → (accessors : List CompositeAccessor) (i : ℕ) → i < length (lanes source accessors)
    → keys_at source accessors i ≡ Signed
numbers-lane source s is accessors i l =
    subst (λ (x : CompositeAggregationSource). i < length (lanes x accessors)
    → keys_at x accessors i ≡ Signed) (sym is) (numbers-at accessors i) l

-- signed numbers are in the order of their keys
pub signed-order : AreInKeyOrder Signed
signed-order left right l r = grind (arith, ints, nat_tests)

same-class : (order : Order) → class_order order 3 3 ≡ nat_cmp 0 0
same-class Asc = refl
same-class Desc = refl

-- its class compares as its index does
pub numbers-classes : (order : Order) (accessors : List CompositeAccessor) (i j : ℕ)
    → i < length (lane_of_numbers accessors) → j < length (lane_of_numbers accessors)
    → class_order order (keys_rank (get_or (lane_of_numbers accessors) i Bools))
    (keys_rank (get_or (lane_of_numbers accessors) j Bools))
    ≡ nat_cmp i j
numbers-classes order accessors i j l m =
    let one = numbers-one accessors in
    let first : 0 ≡ i = omega (arith, l, one) in
    let second : 0 ≡ j = omega (arith, m, one) in
    subst (λ (p : ℕ × ℕ). class_order order
    (keys_rank (get_or (lane_of_numbers accessors) i Bools))
    (keys_rank (get_or (lane_of_numbers accessors) j Bools))
    ≡ nat_cmp p.0 p.1) (λ x. (first x, second x))
    (subst (λ (p : ColumnKeys × ColumnKeys). class_order order (keys_rank p.0) (keys_rank p.1)
    ≡ nat_cmp 0 0)
    (λ x. (sym (numbers-at accessors i l) x, sym (numbers-at accessors j m) x))
    (same-class order))
