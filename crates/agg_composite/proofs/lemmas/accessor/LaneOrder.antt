-- Lanes stand by class in the requested order, and their numbers in the order of their keys.
use Rattle.std.proofs.Common.{◌≡◌, ℕ, zero, suc, ◌-◌, ◌<◌, List, [], ◌∷◌, length, get_or, reverse}
use Rattle.std.proofs.Common.{refl, sym, ap, ◌∙◌, subst, arith}
use Rattle.std.proofs.lemmas.Bool.Decides.{nat_tests}
use Rattle.std.proofs.lemmas.Cmp.{by_ranked, ranked, tied_itself, nat_cmp_total}
use Rattle.std.proofs.lemmas.List.{get_or-map, get_or-reverse, length-map, length-reverse}
use Rattle.std.specs.List.{All}
use Rattle.std.specs.Ordering.{nat_cmp}
use Rattle.agg_values.specs.declared.order.Order.{Order}
use Rattle.agg_values.specs.declared.order.Order.TheVariants.{Asc, Desc}
use Rattle.agg_segment.specs.storage.Columns.{AreInKeyOrder, ClassesAscend, StoredColumn, keys_rank}
use Rattle.agg_segment.specs.declared.storage.keys.ColumnKeys.{ColumnKeys}
use Rattle.agg_segment.specs.declared.storage.keys.ColumnKeys.TheVariants.{Bools}
use Rattle.agg_segment.specs.Segment.{Stored}
use Rattle.agg_request_tree.specs.Source.{order_of}
use Rattle.agg_request_tree.specs.declared.source.CompositeAggregationSource as kind
use kind.{CompositeAggregationSource}
use kind.TheVariants.{DateHistogram, Histogram, Terms}
use Rattle.agg_composite.specs.accessor.Accessors.{AreOfField}
use Rattle.agg_composite.specs.accessor.Lanes.{class_order, column_at, columns_of, in_requested}
use Rattle.agg_composite.specs.accessor.Lanes.{keys_at, lanes}
use Rattle.agg_composite.specs.declared.accessor.accessor.CompositeAccessor.{CompositeAccessor}
use Rattle.agg_composite.proofs.lemmas.accessor.LaneKeys.{columns-many, numbers-at, numbers-classes}
use Rattle.agg_composite.proofs.lemmas.accessor.LaneKeys.{signed-order}
use Rattle.agg_composite.proofs.lemmas.accessor.NumberOrder.{greater, less}

-- a column with no keys
abbrev no_column : StoredColumn
no_column = record { field = 0; keys = Bools; cells = [] }

column_at-column : (accessors : List CompositeAccessor) (i : ℕ)
    → column_at accessors i ≡ (get_or (columns_of accessors) i no_column).keys
column_at-column [] i = refl
column_at-column (a ∷ accessors) zero = refl
column_at-column (a ∷ accessors) (suc i) = column_at-column accessors i

-- what holds of each accessor's keys holds of those at an index
pub each_keys : (P : ColumnKeys → Type 0) (accessors : List CompositeAccessor)
    → All (λ a. P a.column.now.keys) accessors → (i : ℕ) → i < length accessors
    → P (column_at accessors i)
each_keys P [] all i l = absurd (omega arith)
each_keys P (a ∷ accessors) all i l =
    subst P (sym (get_or-map (λ a. a.column.now.keys) (a ∷ accessors) i a Bools l)) (all i a l)

-- ranks compare as the indices do
ranks-in_order : (columns : List StoredColumn) → ClassesAscend columns → (d : StoredColumn)
    → (i j : ℕ) → i < length columns → j < length columns
    → nat_cmp (keys_rank (get_or columns i d).keys) (keys_rank (get_or columns j d).keys)
    ≡ nat_cmp i j
ranks-in_order columns ascend d i j l_i l_j =
    by_ranked (i < j) (i ≡ j) (j < i) (nat_cmp i j) (ranked i j (nat_cmp i j) refl)
    (λ o l. less _ _ (ascend i j d l l_j) ∙ sym o)
    (λ o e. (λ x. nat_cmp (keys_rank (get_or columns (e x) d).keys)
    (keys_rank (get_or columns j d).keys))
    ∙ tied_itself nat_cmp_total (keys_rank (get_or columns j d).keys) ∙ sym o)
    (λ o l. greater _ _ (ascend j i d l l_i) ∙ sym o)

-- the index from the end
from_end : (columns : List StoredColumn) (d : StoredColumn) (i : ℕ) → i < length columns
    → get_or columns i d ≡ get_or (reverse columns) (length columns - 1 - i) d
from_end columns d i l =
    let twice : length columns - 1 - (length columns - 1 - i) ≡ i = omega (arith, l) in
    sym (get_or-reverse columns (length columns - 1 - i) d (omega (arith, l))
    ∙ ap (λ k. get_or columns k d) twice)

-- the classes of columns compare in the requested order as their indices do
requested-ranks : (order : Order) (columns : List StoredColumn)
    → ClassesAscend (in_requested order columns) → (d : StoredColumn) (i j : ℕ)
    → i < length columns → j < length columns
    → class_order order (keys_rank (get_or columns i d).keys) (keys_rank (get_or columns j d).keys)
    ≡ nat_cmp i j
requested-ranks Asc columns ascend d i j l_i l_j = ranks-in_order columns ascend d i j l_i l_j
requested-ranks Desc columns ascend d i j l_i l_j =
    let long : length (reverse columns) ≡ length columns = length-reverse columns in
    (λ x. nat_cmp (keys_rank (from_end columns d j l_j x).keys)
    (keys_rank (from_end columns d i l_i x).keys))
    ∙ ranks-in_order (reverse columns) ascend d (length columns - 1 - j) (length columns - 1 - i)
    (omega (arith, l_j, long)) (omega (arith, l_i, long))
    ∙ turned (length columns) i j l_i l_j
  where
    turned : (n i j : ℕ) → i < n → j < n → nat_cmp (n - 1 - j) (n - 1 - i) ≡ nat_cmp i j
    turned n i j l_i l_j = grind (arith, nat_tests)

-- the classes of accessors do so
pub classes-in_order : (order : Order) (accessors : List CompositeAccessor)
    → ClassesAscend (in_requested order (columns_of accessors)) → (i j : ℕ)
    → i < length accessors → j < length accessors
    → class_order order (keys_rank (column_at accessors i))
    (keys_rank (column_at accessors j))
    ≡ nat_cmp i j
classes-in_order order accessors ascend i j l_i l_j =
    let long : length (columns_of accessors) ≡ length accessors =
    length-map accessors (λ a. a.column.now) in
    (λ x. class_order order (keys_rank (column_at-column accessors i x))
    (keys_rank (column_at-column accessors j x)))
    ∙ requested-ranks order (columns_of accessors) ascend no_column i j (omega (arith, l_i, long))
    (omega (arith, l_j, long))

-- lanes stand by class in the requested order, and their numbers are in the order of their keys
pub record AreLanesInOrder (source : CompositeAggregationSource)
    (accessors : List CompositeAccessor) : Type 0 where
  pub classes : (i j : ℕ) → i < length (lanes source accessors)
      → j < length (lanes source accessors)
      → class_order (order_of source) (keys_rank (keys_at source accessors i))
      (keys_rank (keys_at source accessors j))
      ≡ nat_cmp i j
  pub order : (i : ℕ) → i < length (lanes source accessors)
      → AreInKeyOrder (keys_at source accessors i)

-- those of a source do, for the accessors of its field
pub lanes-in_order : (segment : Stored) (source : CompositeAggregationSource)
    (accessors : List CompositeAccessor) → AreOfField segment source accessors
    → AreLanesInOrder source accessors
lanes-in_order segment (Terms s) accessors of_field =
    let long = columns-many accessors in
    record {
      classes = λ i j l_i l_j.
          classes-in_order s.order accessors of_field.classes i j (omega (arith, l_i, long))
          (omega (arith, l_j, long));
      order = λ i l.
          each_keys AreInKeyOrder accessors (λ j d within. (of_field.each j d within).order) i
          (omega (arith, l, long));
    }
lanes-in_order segment (Histogram s) accessors of_field = record {
  classes = numbers-classes s.order accessors;
  order = λ i l. subst AreInKeyOrder (sym (numbers-at accessors i l)) signed-order;
}
lanes-in_order segment (DateHistogram s) accessors of_field =
    let long = columns-many accessors in
    record {
      classes = λ i j l_i l_j.
          classes-in_order s.order accessors of_field.classes i j (omega (arith, l_i, long))
          (omega (arith, l_j, long));
      order = λ i l.
          each_keys AreInKeyOrder accessors (λ j d within. (of_field.each j d within).order) i
          (omega (arith, l, long));
    }
