-- How the classes of accessors stand to that of an after value.
use Rattle.std.proofs.Common.{◌≡◌, ◌≢◌, ◌<◌, ℕ, List, [], ◌∷◌, length, get_or, Bool, true, false}
use Rattle.std.proofs.Common.{Ordering, Less, Equal, Greater, refl, sym, ap, ◌∙◌, arith}
use mathlib.Core.Bool.{true≢false}
use Rattle.std.proofs.lemmas.Cmp.{back_total, nat_cmp_total}
use Rattle.std.proofs.lemmas.List.{get_or-map}
use Rattle.std.specs.Cmp.{IsTotalOrder}
use Rattle.std.specs.Ordering.{is_lt, ordering_reverse}
use Rattle.std.specs.Prelude.{count_by}
use Rattle.agg_values.specs.Column.{class_rank}
use Rattle.agg_values.specs.KeyOrder.{key_order}
use Rattle.agg_values.specs.TypedKey.{CompositeIntermediateKey}
use Rattle.agg_values.specs.declared.order.MissingOrder.{MissingOrder}
use Rattle.agg_values.specs.declared.order.Order.{Order}
use Rattle.agg_values.specs.declared.order.Order.TheVariants.{Asc, Desc}
use Rattle.agg_segment.specs.storage.Columns.{ClassesAscend, encoded_key, keys_rank}
use Rattle.agg_segment.specs.declared.storage.keys.ColumnKeys.{ColumnKeys}
use Rattle.agg_segment.specs.declared.storage.keys.ColumnKeys.TheVariants.{Bools}
use Rattle.agg_composite.specs.accessor.Classes.{is_of_class_before}
use Rattle.agg_composite.specs.accessor.Lanes.{class_order, column_at, columns_of, in_requested}
use Rattle.agg_composite.specs.declared.accessor.accessor.CompositeAccessor.{CompositeAccessor}
use Rattle.agg_composite.proofs.lemmas.accessor.FrontCounts.{count_front}
use Rattle.agg_composite.proofs.lemmas.accessor.KeyClasses.{encoded-rank, some_rank}
use Rattle.agg_composite.proofs.lemmas.accessor.KeyComparisons.{by_class, values-order}
use Rattle.agg_composite.proofs.lemmas.accessor.LaneOrder.{classes-in_order}
use Rattle.agg_composite.proofs.lemmas.accessor.NumberOrder.{less}

-- any accessor of those
some_accessor : (accessors : List CompositeAccessor) (i : ℕ) → i < length accessors
    → CompositeAccessor
some_accessor [] i l = absurd (omega arith)
some_accessor (a ∷ accessors) i l = a

class_order-total : (order : Order) → IsTotalOrder (class_order order)
class_order-total Asc = nat_cmp_total
class_order-total Desc = back_total nat_cmp_total

less_by_test : (o : Ordering) → is_lt o ≡ true → o ≡ Less
less_by_test Less is = refl
less_by_test Equal is = absurd (true≢false (sym is))
less_by_test Greater is = absurd (true≢false (sym is))

-- what is after something that isn't before a rank is after the rank
after_rank : (order : Order) (first rank here : ℕ) (o : Ordering)
    → class_order order first here ≡ Less → class_order order first rank ≡ o → is_lt o ≡ false
    → class_order order here rank ≡ Greater
after_rank order first rank here Less later is not_less = absurd (true≢false not_less)
after_rank order first rank here Equal later is not_less =
    let total = class_order-total order in
    total.antisymm here rank
    ∙ ap ordering_reverse (sym (total.congr first rank here is) ∙ later)
after_rank order first rank here Greater later is not_less =
    let total = class_order-total order in
    let before : class_order order rank first ≡ Less =
    total.antisymm rank first ∙ ap ordering_reverse is in
    total.antisymm here rank
    ∙ ap ordering_reverse (total.trans rank first here before later)

-- a key of another class stands to a value as its class does
pub class_side : (order : Order) (missing : MissingOrder) (keys : ColumnKeys) (n : ℕ)
    (k : CompositeIntermediateKey) (o : Ordering) → 0 < class_rank k
    → class_order order (keys_rank keys) (class_rank k) ≡ o → (o ≢ Equal)
    → key_order order missing (encoded_key keys n) k ≡ o
class_side order missing keys n k o some is other =
    values-order order missing (encoded_key keys n) k
    (rw (encoded-rank keys n) (some_rank keys)) some
    ∙ by_class order (encoded_key keys n) k o
    ((λ x. class_order order (encoded-rank keys n x) (class_rank k)) ∙ is) other

module _ (order : Order) (accessors : List CompositeAccessor)
    (classes : ClassesAscend (in_requested order (columns_of accessors)))
    (k : CompositeIntermediateKey) where
  abbrev is_before : CompositeAccessor → Bool
  is_before a = is_of_class_before order k a.column.now.keys

  at_index : (i : ℕ) (d : CompositeAccessor) → i < length accessors
      → is_before (get_or accessors i d) ≡ is_of_class_before order k (column_at accessors i)
  at_index i d l =
      ap (is_of_class_before order k)
      (sym (get_or-map (λ a. a.column.now.keys) accessors i d Bools l))

  later : (i j : ℕ) → i < j → j < length accessors
      → class_order order (keys_rank (column_at accessors i)) (keys_rank (column_at accessors j))
      ≡ Less
  later i j l m =
      classes-in_order order accessors classes i j (omega (arith, l, m)) m ∙ less i j l

  front : (i j : ℕ) (d : CompositeAccessor) → i < j → j < length accessors
      → is_before (get_or accessors j d) ≡ true → is_before (get_or accessors i d) ≡ true
  front i j d l m passes =
      let there : class_order order (keys_rank (column_at accessors j)) (class_rank k) ≡ Less =
      less_by_test _ (sym (at_index j d m) ∙ passes) in
      at_index i d (omega (arith, l, m))
      ∙ ap is_lt ((class_order-total order).trans _ _ _ (later i j l m) there)

  -- accessors before the count are of classes before
  pub before_index : (i : ℕ) → i < count_by is_before accessors → i < length accessors
      → class_order order (keys_rank (column_at accessors i)) (class_rank k) ≡ Less
  before_index i below l =
      let d : CompositeAccessor = some_accessor accessors i l in
      less_by_test _ (sym (at_index i d l)
      ∙ (count_front is_before accessors front i d l).0 below)

  -- accessors after the count are of classes after
  pub after_index : (i : ℕ) → count_by is_before accessors < i → i < length accessors
      → class_order order (keys_rank (column_at accessors i)) (class_rank k) ≡ Greater
  after_index i above l =
      let index : ℕ = count_by is_before accessors in
      let d : CompositeAccessor = some_accessor accessors i l in
      let within : index < length accessors = omega (arith, above, l) in
      after_rank order (keys_rank (column_at accessors index)) (class_rank k)
      (keys_rank (column_at accessors i)) _ (later index i above l) refl
      (sym (at_index index d within)
      ∙ (count_front is_before accessors front index d within).1 (omega arith))
