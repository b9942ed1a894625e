-- Columns that are sorted by field and class.
use Rattle.std.proofs.Common.{◌≡◌, ◌≢◌, ◌≤◌, ℕ, List, get_or, Ordering}
use Rattle.std.proofs.Common.{true, false, refl, sym, ap, ◌∙◌, [], zero, suc, map}
use Rattle.std.proofs.Common.{◌∷◌, ◌++◌, inl, inr, arith}
use Rattle.std.specs.Prelude.{Bool, ◌==◌, ◌&&◌, nat_lt, nat_eq, not, filter}
use Rattle.std.specs.Ordering.{nat_cmp, ordering_then, is_lt}
use Rattle.std.specs.Cmp.{IsStrictWeakOrder}
use Rattle.std.specs.List.{All}
use Rattle.std.specs.List.Sorted.{IsSortedBy, IsStableBy, ties}
use Rattle.std.proofs.lemmas.List.Sorted.{sorted_far, ranks_by}
use Rattle.std.proofs.lemmas.Cmp.{then_total, on_total, nat_cmp_total}
use Rattle.std.proofs.lemmas.Bool.{cases_order, cases_eq, eq-eqb, ne_eqb, cases_Bool}
use Rattle.std.proofs.lemmas.Bool.Decides.{nat_tests}
use Rattle.std.proofs.lemmas.List.Elements.{filter_agree, filter-append}
use Rattle.agg_values.specs.declared.column.ColumnPaginationOrder.{ColumnPaginationOrder}
use Rattle.agg_values.specs.declared.column.ColumnPaginationOrder.TheVariants as class
use Rattle.agg_values.specs.Column.{order_rank}
use Rattle.agg_segment.specs.Gatherings.{Raw, raws, column_raws, is_raw_of, is_column, AreAlike}
use Rattle.agg_segment.specs.Gatherings.{AreSorted, column_cmp}
use Rattle.agg_segment.specs.declared.gatherings.Gathering.{Gathering}
use Rattle.agg_segment.proofs.Raws.{filter_none}

-- what comes first in a comparison
less_then : (f g : ℕ) (o : Ordering) → is_lt (ordering_then (nat_cmp g f) o) ≡ false
    → (f ≤ g) × (f ≡ g → is_lt o ≡ false)
less_then f g o below = elim (cases_order f g) [
  | inl same ↦ (omega (arith, same), λ _. grind (arith, nat_tests))
  | inr (inl low) ↦ (omega (arith, low), λ same. absurd (omega (arith, low, same)))
  | inr (inr high) ↦ absurd (grind (arith, nat_tests))
]

less_last : (d e : ℕ) → is_lt (nat_cmp e d) ≡ false → d ≤ e
less_last d e below = grind (arith, nat_tests)

tie_then : (f g : ℕ) (o p : Ordering)
    → not (is_lt (ordering_then (nat_cmp f g) o)) && not (is_lt (ordering_then (nat_cmp g f) p))
    ≡ (g == f) && (not (is_lt o) && not (is_lt p))
tie_then f g o p = elim (cases_order f g) [
  | inl same ↦ rw (same, eq-eqb g g refl) (let none : nat_lt g g ≡ false =
      grind (arith, nat_tests) in rw none refl)
  | inr (inl low) ↦ let less : nat_lt f g ≡ true = grind (arith, nat_tests) in
      let apart : nat_eq g f ≡ false = grind (arith, nat_tests) in rw (less, apart) refl
  | inr (inr high) ↦ let less : nat_lt g f ≡ true = grind (arith, nat_tests) in
      let apart : nat_eq g f ≡ false = grind (arith, nat_tests) in
      rw (less, apart) (both_false (not (is_lt (ordering_then (nat_cmp f g) o))))
]
  where
    both_false : (b : Bool) → b && false ≡ false
    both_false true = refl
    both_false false = refl

tie_last : (d e : ℕ) → not (is_lt (nat_cmp d e)) && not (is_lt (nat_cmp e d)) ≡ (e == d)
tie_last d e = elim (cases_order d e) [
  | inl same ↦ rw (same, eq-eqb e e refl) (let none : nat_lt e e ≡ false =
      grind (arith, nat_tests) in rw none refl)
  | inr (inl low) ↦ let less : nat_lt d e ≡ true = grind (arith, nat_tests) in
      let apart : nat_eq e d ≡ false = grind (arith, nat_tests) in rw (less, apart) refl
  | inr (inr high) ↦ let less : nat_lt e d ≡ true = grind (arith, nat_tests) in
      let apart : nat_eq e d ≡ false = grind (arith, nat_tests) in
      rw (less, apart) (both_false (not (is_lt (nat_cmp d e))))
]
  where
    both_false : (b : Bool) → b && false ≡ false
    both_false true = refl
    both_false false = refl

-- columns that tie are of one field and class
tie_is : (c d : Gathering) → ties (λ x y. is_lt (column_cmp x y)) c d
    ≡ is_column c.field (order_rank c.class) d
tie_is c d =
    tie_then c.field d.field (nat_cmp (order_rank c.class) (order_rank d.class))
    (nat_cmp (order_rank d.class) (order_rank c.class))
    ∙ ap (λ r. (d.field == c.field) && r) (tie_last (order_rank c.class) (order_rank d.class))

pub column_order : IsStrictWeakOrder (λ x y. is_lt (column_cmp x y))
column_order = ranks_by (then_total (on_total (λ (c : Gathering). c.field) nat_cmp_total)
    (on_total (λ (c : Gathering). order_rank c.class) nat_cmp_total)) (λ (c : Gathering). c)

no_class : (rank : ℕ) → rank ≢ 1 → rank ≢ 2 → rank ≢ 3 → rank ≢ 4 → rank ≢ 5
    → (k : ColumnPaginationOrder) → order_rank k ≢ rank
no_class rank a b c d e class.Bool is = a (sym is)
no_class rank a b c d e class.Str is = b (sym is)
no_class rank a b c d e class.Numeric is = c (sym is)
no_class rank a b c d e class.IpAddr is = d (sym is)
no_class rank a b c d e class.DateTime is = e (sym is)

-- ---- the numbers of a field and a class are those of its columns

one_column : (field rank doc : ℕ) (c : Gathering) → is_column field rank c ≡ false
    → filter (is_raw_of field rank doc) (column_raws c) ≡ []
one_column field rank doc c other = filter_none (is_raw_of field rank doc) (column_raws c)
    (of_rows c.rows)
  where
    of_rows : (rows : List (ℕ × ℕ)) → All (λ r. is_raw_of field rank doc r ≡ false)
        (map (λ s. let t : Raw = record {
          field = c.field;
          class = c.class;
          doc = s.0;
          number = s.1;
        } in t) rows)
    of_rows [] k d l = absurd (omega (arith, l))
    of_rows (s ∷ rows) zero d l = rw other refl
    of_rows (s ∷ rows) (suc k) d l = of_rows rows k d (omega (arith, l))

raws_of : (field rank doc : ℕ) (columns : List Gathering)
    → filter (is_raw_of field rank doc) (raws columns)
    ≡ filter (is_raw_of field rank doc) (raws (filter (is_column field rank) columns))
raws_of field rank doc [] = refl
raws_of field rank doc (c ∷ columns) = elim (cases_Bool (is_column field rank c)) [
  | inl here ↦
      let p : Raw → Bool = is_raw_of field rank doc in
      rw here (filter-append p (column_raws c) (raws columns)
      ∙ ap (λ rs. filter p (column_raws c) ++ rs) (raws_of field rank doc columns)
      ∙ sym (filter-append p (column_raws c) (raws (filter (is_column field rank) columns))))
  | inr other ↦
      let p : Raw → Bool = is_raw_of field rank doc in
      rw other (filter-append p (column_raws c) (raws columns)
      ∙ ap (λ rs. rs ++ filter p (raws columns)) (one_column field rank doc c other)
      ∙ raws_of field rank doc columns)
]

pub keys_sorted : (columns : List Gathering)
    → IsSortedBy (λ x y. is_lt (column_cmp x y)) columns → AreSorted columns
keys_sorted columns sorted i j d low within =
    let c = get_or columns i d in
    let e = get_or columns j d in
    let first = less_then c.field e.field (nat_cmp (order_rank e.class) (order_rank c.class))
    (sorted_far (λ x y. is_lt (column_cmp x y)) column_order columns sorted i j d low within) in
    (first.0, λ same. less_last (order_rank c.class) (order_rank e.class) (first.1 same))

-- ties are those of a column of the class
of_class : (field : ℕ) (k : ColumnPaginationOrder) (old new : List Gathering)
    → IsStableBy (λ x y. is_lt (column_cmp x y)) old new
    → filter (is_column field (order_rank k)) new ≡ filter (is_column field (order_rank k)) old
of_class field k old new stable =
    let w : Gathering = record { field = field; class = k; before = 0; rows = [] } in
    sym (filter_agree _ (is_column field (order_rank k)) (tie_is w) new) ∙ stable w
    ∙ filter_agree _ (is_column field (order_rank k)) (tie_is w) old

none_of_rank : (field rank : ℕ) (columns : List Gathering)
    → ((k : ColumnPaginationOrder) → order_rank k ≢ rank)
    → filter (is_column field rank) columns ≡ []
none_of_rank field rank columns none = filter_none (is_column field rank) columns (λ k d l.
    rw (ne_eqb (order_rank (get_or columns k d).class) rank (none (get_or columns k d).class))
    (both_no ((get_or columns k d).field == field)))
  where
    both_no : (b : Bool) → b && false ≡ false
    both_no true = refl
    both_no false = refl

pub columns_stable : (old new : List Gathering)
    → IsStableBy (λ x y. is_lt (column_cmp x y)) old new
    → (field rank : ℕ) → filter (is_column field rank) new ≡ filter (is_column field rank) old
columns_stable old new stable field rank = elim (cases_eq rank 1) [
  | inl one ↦ rw one (of_class field class.Bool old new stable)
  | inr not1 ↦ elim (cases_eq rank 2) [
    | inl two ↦ rw two (of_class field class.Str old new stable)
    | inr not2 ↦ elim (cases_eq rank 3) [
      | inl three ↦ rw three (of_class field class.Numeric old new stable)
      | inr not3 ↦ elim (cases_eq rank 4) [
        | inl four ↦ rw four (of_class field class.IpAddr old new stable)
        | inr not4 ↦ elim (cases_eq rank 5) [
          | inl five ↦ rw five (of_class field class.DateTime old new stable)
          | inr not5 ↦
              let none = no_class rank not1 not2 not3 not4 not5 in
              none_of_rank field rank new none ∙ sym (none_of_rank field rank old none)
        ]
      ]
    ]
  ]
]

-- sorted columns have the same numbers of each document, in the same order
pub keys_alike : (old new : List Gathering)
    → IsStableBy (λ x y. is_lt (column_cmp x y)) old new
    → AreAlike (raws new) (raws old)
keys_alike old new stable field rank doc =
    raws_of field rank doc new
    ∙ ap (λ cs. filter (is_raw_of field rank doc) (raws cs))
    (columns_stable old new stable field rank)
    ∙ sym (raws_of field rank doc old)
