-- Columns that are sorted, one for each field and class.
use Rattle.std.proofs.Common.{◌≡◌, ◌≢◌, ◌<◌, ◌≤◌, ℕ, zero, suc, List, [], ◌∷◌, length}
use Rattle.std.proofs.Common.{get_or}
use Rattle.std.proofs.Common.{true, refl, sym, ap, ◌∙◌, inl, inr, arith}
use Rattle.std.specs.Prelude.{Bool, filter}
use Rattle.std.proofs.lemmas.Bool.{cases_Bool, eq-eqb}
use Rattle.std.proofs.lemmas.Bool.Decides.{nat_tests}
use Rattle.std.proofs.lemmas.List.{get_or-map, length-map}
use Rattle.agg_values.specs.declared.column.ColumnPaginationOrder.TheVariants as class
use Rattle.agg_values.specs.Column.{order_rank}
use Rattle.agg_segment.specs.storage.Columns.{StoredColumn, keys_rank, AreInOrder}
use Rattle.agg_segment.specs.Gatherings.{is_column}
use Rattle.agg_segment.specs.Gatherings.{AreLinked, AreSorted}
use Rattle.agg_segment.specs.Gatherings.{gathering_classes, column_classes}
use Rattle.agg_segment.specs.declared.gatherings.Gathering.{Gathering}
use Rattle.agg_segment.proofs.Raws.{filter_none, rank_apart}

-- ---- no two of a field and a class

some_kept : {X : Type 0} (p : X → Bool) (xs : List X) (j : ℕ) (d : X) → j < length xs
    → p (get_or xs j d) ≡ true → 1 ≤ length (filter p xs)
some_kept p [] j d l is = absurd (omega (arith, l))
some_kept p (x ∷ xs) zero d l is = rw is (omega arith)
some_kept p (x ∷ xs) (suc j) d l is = elim (cases_Bool (p x)) [
  | inl here ↦ rw here (omega arith)
  | inr other ↦ rw other (some_kept p xs j d (omega (arith, l)) is)
]

two_kept : {X : Type 0} (p : X → Bool) (xs : List X) (i j : ℕ) (d : X) → i < j → j < length xs
    → p (get_or xs i d) ≡ true → p (get_or xs j d) ≡ true → 2 ≤ length (filter p xs)
two_kept p [] i j d low l first second = absurd (omega (arith, l))
two_kept p (x ∷ xs) i zero d low l first second = absurd (omega (arith, low))
two_kept p (x ∷ xs) zero (suc j) d low l first second =
    let one = some_kept p xs j d (omega (arith, l)) second in rw first (omega (arith, one))
two_kept p (x ∷ xs) (suc i) (suc j) d low l first second = elim (cases_Bool (p x)) [
  | inl here ↦
      let two = two_kept p xs i j d (omega (arith, low)) (omega (arith, l)) first second in
      rw here (omega (arith, two))
  | inr other ↦ rw other (two_kept p xs i j d (omega (arith, low)) (omega (arith, l)) first second)
]

one_kept : {X : Type 0} (p : X → Bool) (xs : List X)
    → ((i j : ℕ) (d : X) → i < j → j < length xs → p (get_or xs i d) ≡ true
    → p (get_or xs j d) ≡ true → ⊥) → length (filter p xs) ≤ 1
one_kept p [] apart = omega arith
one_kept {X} p (x ∷ xs) apart = elim (cases_Bool (p x)) [
  | inl here ↦
      let none : filter p xs ≡ [] = filter_none p xs (λ k d l. elim (cases_Bool (p
      (get_or xs k d))) [
        | inl also ↦ absurd (apart 0 (suc k) d (omega arith) (omega (arith, l)) here also)
        | inr out ↦ out
      ]) in
      rw (here, none) (omega arith)
  | inr other ↦ rw other (one_kept p xs (λ i j d low l. apart (suc i) (suc j) d
      (omega (arith, low)) (omega (arith, l))))
]

module _ (olds news : List Gathering) (lasts : List ℕ) (linked : AreLinked lasts olds)
    (stable : (field rank : ℕ)
    → filter (is_column field rank) news ≡ filter (is_column field rank) olds) where
  old_apart : (field rank : ℕ) (i j : ℕ) (d : Gathering) → i < j → j < length olds
      → is_column field rank (get_or olds i d) ≡ true
      → is_column field rank (get_or olds j d) ≡ true → ⊥
  old_apart field rank i j d low l first second =
      let c = get_or olds i d in
      let e = get_or olds j d in
      let cf : c.field ≡ field = grind (arith, nat_tests) in
      let ef : e.field ≡ field = grind (arith, nat_tests) in
      let cr : order_rank c.class ≡ rank = grind (arith, nat_tests) in
      let er : order_rank e.class ≡ rank = grind (arith, nat_tests) in
      linked.apart i j d low l (cf ∙ sym ef) (rank_apart c.class e.class (cr ∙ sym er))

  pub new_apart : (i j : ℕ) (d : Gathering) → i < j → j < length news
      → (get_or news i d).field ≡ (get_or news j d).field
      → order_rank (get_or news i d).class ≡ order_rank (get_or news j d).class → ⊥
  new_apart i j d low l fields ranks =
      let c = get_or news i d in
      let e = get_or news j d in
      let p : Gathering → Bool = is_column e.field (order_rank e.class) in
      let first : p c ≡ true =
      rw (
        eq-eqb c.field e.field fields,
        eq-eqb (order_rank c.class)
            (order_rank e.class) ranks,
      ) refl
      in
      let second : p e ≡ true =
      rw (eq-eqb e.field e.field refl, eq-eqb (order_rank e.class) (order_rank e.class) refl) refl
      in
      let two = two_kept p news i j d low l first second in
      let one = one_kept p olds (old_apart e.field (order_rank e.class)) in
      omega (arith, two, one, ap length (stable e.field (order_rank e.class)))

  -- ---- their order is that of the columns made of them

  pub in_order : (columns : List StoredColumn) → AreSorted news
      → column_classes columns ≡ gathering_classes news → AreInOrder columns
  in_order columns sorted same i j d low l =
      let none : Gathering = record { field = 0; class = class.Bool; before = 0; rows = [] } in
      let class_of : Gathering → ℕ × ℕ = λ g. (g.field, order_rank g.class) in
      let mark : StoredColumn → ℕ × ℕ = λ c. (c.field, keys_rank c.keys) in
      let len : length columns ≡ length news =
      sym (length-map columns mark) ∙ ap length same ∙ length-map news class_of in
      let within : j < length news = omega (arith, l, len) in
      let at : (k : ℕ) → k < length columns → mark (get_or columns k d) ≡ class_of
      (get_or news k none) =
      λ k in'. sym (get_or-map mark columns k d (mark (get_or columns k d)) in')
      ∙ ap (λ ps. get_or ps k (mark (get_or columns k d))) same
      ∙ get_or-map class_of news k none (mark (get_or columns k d)) (omega (arith, in', len)) in
      let ai = at i (omega (arith, low, l)) in
      let aj = at j l in
      let fi : (get_or columns i d).field ≡ (get_or news i none).field =
      ap (λ (p : ℕ × ℕ). p.0) ai in
      let fj : (get_or columns j d).field ≡ (get_or news j none).field =
      ap (λ (p : ℕ × ℕ). p.0) aj in
      let ri : keys_rank (get_or columns i d).keys ≡ order_rank (get_or news i none).class =
      ap (λ (p : ℕ × ℕ). p.1) ai in
      let rj : keys_rank (get_or columns j d).keys ≡ order_rank (get_or news j none).class =
      ap (λ (p : ℕ × ℕ). p.1) aj in
      let s = sorted i j none (omega (arith, low)) within in (
        omega (arith, s.0, fi, fj),
        λ same.
            let fields : (get_or news i none).field ≡ (get_or news j none).field =
            sym fi ∙ same ∙ fj in
            let apart : order_rank (get_or news i none).class
            ≢ order_rank (get_or news j none).class = new_apart i j none low within fields in
            omega (arith, s.1 fields, apart, ri, rj),
      )
