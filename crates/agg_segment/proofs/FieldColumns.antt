-- The columns of a field.
use Rattle.std.proofs.Common.{◌≡◌, ◌≢◌, ◌+◌, ◌-◌, ◌<◌, ◌≤◌, ℕ, zero, suc, List, [], ◌∷◌, ◌++◌}
use Rattle.std.proofs.Common.{length, get_or, take, drop, map, cond, true, false, refl, sym, ap}
use Rattle.std.proofs.Common.{◌∙◌, inl, inr, arith, length-take, length-drop}
use Rattle.std.specs.Prelude.{Bool, nat_lt, nat_le, ◌⊎◌, ◌==◌, ◌&&◌, filter, flat_map}
use Rattle.std.specs.List.{All, slice_range}
use Rattle.std.specs.List.Sorted.{IsNonDecreasingBy}
use borrow.Author.Tests.{ltb-true, ltb-false, leb-true, leb-false}
use Rattle.agg_segment.specs.declared.storage.keys.ColumnKeys.TheVariants.{Signed}
use Rattle.std.proofs.lemmas.Bool.{cases_lt, cases_eq, eq-eqb, ne_eqb}
use Rattle.std.proofs.lemmas.List.{append-nil, get_or-take, get_or-drop, take-append-drop}
use Rattle.std.proofs.lemmas.List.{drop-drop, length-take-le}
use Rattle.std.proofs.lemmas.List.Elements.{filter-append, All-tail, All-head, All-cons}
use Rattle.std.proofs.lemmas.Bool.Decides.{nat_tests}
use Rattle.agg_segment.specs.storage.Cells.{Placed, is_at, keys_at}
use Rattle.agg_segment.specs.storage.Columns.{StoredColumn, column_cells, column_keys, all_keys}
use Rattle.agg_segment.specs.storage.Columns.{numbers_at, encoded_key, keys_rank, IsColumnBefore}
use Rattle.agg_segment.specs.storage.Columns.{AreInOrder, ClassesAscend}
use Rattle.agg_segment.proofs.DocumentKeys.{keys_split}
use Rattle.agg_segment.proofs.lemmas.storage.Filters.{filter_map_is}

-- ---- a part of a list that holds what passes

filter_none : {X : Type 0} (p : X → Bool) (xs : List X) → All (λ x. p x ≡ false) xs
    → filter p xs ≡ []
filter_none p [] none = refl
filter_none p (x ∷ xs) none = rw (All-head (λ x. p x ≡ false) x xs none)
    (filter_none p xs (All-tail (λ x. p x ≡ false) x xs none))

filter_all : {X : Type 0} (p : X → Bool) (xs : List X) → All (λ x. p x ≡ true) xs → filter p xs ≡ xs
filter_all p [] all = refl
filter_all p (x ∷ xs) all = rw (All-head (λ x. p x ≡ true) x xs all)
    (ap (λ r. x ∷ r) (filter_all p xs (All-tail (λ x. p x ≡ true) x xs all)))

pub part_passes : {X : Type 0} (p : X → Bool) (xs : List X) (from to : ℕ) → from ≤ to
    → to ≤ length xs → ((k : ℕ) (d : X) → k < from → p (get_or xs k d) ≡ false) → ((k : ℕ) (d : X)
    → from ≤ k → k < to → p (get_or xs k d) ≡ true)
    → ((k : ℕ) (d : X) → to ≤ k → k < length xs → p (get_or xs k d) ≡ false)
    → slice_range xs from to ≡ filter p xs
part_passes p xs from to up within before here after =
    let there : from + (to - from) ≡ to = omega (arith, up) in
    let front : filter p (take from xs) ≡ [] = filter_none p (take from xs) (λ k d l.
    let low : k < from = omega (arith, l, length-take-le from xs (omega (arith, up, within))) in
    rw (get_or-take from xs k d low) (before k d low)) in
    let middle : filter p (take (to - from) (drop from xs)) ≡ take (to - from) (drop from xs) =
    filter_all p (take (to - from) (drop from xs)) (λ k d l.
    let low : k < to - from = grind (arith, l, length-take (to - from) (drop from xs)) in
    rw (get_or-take (to - from) (drop from xs) k d low, get_or-drop from xs k d) (here (from + k) d
    (omega arith) (omega (arith, low, up))))
    in
    let back : filter p (drop to xs) ≡ [] = filter_none p (drop to xs) (λ k d l.
    rw (get_or-drop to xs k d) (after (to + k) d (omega arith)
    (omega (arith, l, length-drop to xs)))) in
    let rest : filter p (drop from xs) ≡ take (to - from) (drop from xs) =
    ap (filter p) (sym (take-append-drop (to - from) (drop from xs)))
    ∙ filter-append p (take (to - from) (drop from xs)) (drop (to - from) (drop from xs))
    ∙ ap (λ r. r ++ filter p (drop (to - from) (drop from xs))) middle
    ∙ ap (λ r. take (to - from) (drop from xs) ++ filter p r) (drop-drop (to - from) from xs
    ∙ ap (λ k. drop k xs) there) ∙ ap (λ r. take (to - from) (drop from xs) ++ r) back
    ∙ append-nil (take (to - from) (drop from xs))
    in
    sym (ap (filter p) (sym (take-append-drop from xs)) ∙ filter-append p (take from xs)
    (drop from xs) ∙ ap (λ r. r ++ filter p (drop from xs)) front ∙ rest)

-- ---- the keys of a document in the columns of a field

map_map : {X Y Z : Type 0} (f : X → Y) (g : Y → Z) (xs : List X)
    → map g (map f xs) ≡ map (λ x. g (f x)) xs
map_map f g [] = refl
map_map f g (x ∷ xs) = ap (λ r. g (f x) ∷ r) (map_map f g xs)

of_column : (column : StoredColumn) (field doc : ℕ) → keys_at (column_cells column) field doc
    ≡ cond (column.field == field) (column_keys column doc) []
of_column column field doc =
    let place : ℕ × ℕ → Placed = λ c. record {
      field = column.field;
      doc = c.0;
      key =
          encoded_key column.keys c.1;
    } in
    ap (map (λ (p : Placed). p.key)) (filter_map_is place (is_at field doc) column.cells)
    ∙ map_map place (λ (p : Placed). p.key) (filter (λ c. is_at field doc (place c))
    column.cells)
    ∙ by_field (column.field == field) column.cells
  where
    by_field : (b : Bool) (cells : List (ℕ × ℕ))
        → map (λ c. encoded_key column.keys c.1) (filter (λ (c : ℕ × ℕ). b && (c.0 == doc)) cells)
        ≡ cond b (map (encoded_key column.keys) (numbers_at cells doc)) []
    by_field true cells = sym (map_map (λ (c : ℕ × ℕ). c.1) (encoded_key column.keys)
        (filter (λ c. c.0 == doc) cells))
    by_field false [] = refl
    by_field false (c ∷ cells) = by_field false cells

pub field_keys : (columns : List StoredColumn) (field doc : ℕ)
    → all_keys (filter (λ c. c.field == field) columns) doc
    ≡ keys_at (flat_map column_cells columns) field doc
field_keys [] field doc = refl
field_keys (c ∷ columns) field doc =
    by_field (c.field == field) (field_keys columns field doc)
    ∙ sym (keys_split (column_cells c) (flat_map column_cells columns) field doc
    ∙ ap (λ ks. ks ++ keys_at (flat_map column_cells columns) field doc)
    (of_column c field doc))
  where
    by_field : (b : Bool) → all_keys (filter (λ c. c.field == field) columns) doc
        ≡ keys_at (flat_map column_cells columns) field doc
        → all_keys (cond b (c ∷ filter (λ c. c.field == field) columns) (filter (λ c. c.field ==
        field) columns)) doc ≡ cond b (column_keys c doc) [] ++ keys_at (flat_map column_cells
        columns) field doc
    by_field true ih = ap (λ ks. column_keys c doc ++ ks) ih
    by_field false ih = ih

-- ---- the columns of a field are by class

order_tail : (c : StoredColumn) (columns : List StoredColumn) → AreInOrder (c ∷ columns)
    → AreInOrder columns
order_tail c columns order i j d up l = order (suc i) (suc j) d (omega (arith, up))
    (omega (arith, l))

order_head : (c : StoredColumn) (columns : List StoredColumn) → AreInOrder (c ∷ columns)
    → All (IsColumnBefore c) columns
order_head c columns order k d l = order 0 (suc k) d (omega arith) (omega (arith, l))

pub classes_ascend : (columns : List StoredColumn) (field : ℕ) → AreInOrder columns
    → ClassesAscend (filter (λ c. c.field == field) columns)
classes_ascend [] field order i j d up l = absurd (omega (arith, l))
classes_ascend (c ∷ columns) field order i j d up l = by_field (c.field == field) refl
    (classes_ascend columns field (order_tail c columns order))
    (higher columns (order_head c columns order)) i j d up l
  where
    higher : (rest : List StoredColumn) → All (IsColumnBefore c) rest → c.field ≡ field
        → All (λ e. keys_rank c.keys < keys_rank e.keys) (filter (λ e. e.field == field) rest)
    higher [] before here k d l = absurd (omega (arith, l))
    higher (e ∷ rest) before here k d l = step (cases_eq e.field field)
        (higher rest (All-tail (IsColumnBefore c) e rest before) here) k d l
      where
        step : (e.field ≡ field) ⊎ (e.field ≢ field)
            → All (λ e. keys_rank c.keys < keys_rank e.keys) (filter (λ e. e.field == field) rest)
            → All (λ e. keys_rank c.keys < keys_rank e.keys) (filter (λ e. e.field == field) (e
            ∷ rest))
        step (inl same) ih = rw (eq-eqb e.field field same) (All-cons (λ e.
            keys_rank c.keys < keys_rank e.keys) e (filter (λ e. e.field == field) rest)
            ((All-head (IsColumnBefore c) e rest before).1 (here ∙ sym same)) ih)
        step (inr other) ih = rw (ne_eqb e.field field other) ih

    by_field : (b : Bool) → (c.field == field) ≡ b
        → ClassesAscend (filter (λ c. c.field == field) columns) → (c.field ≡ field
        → All (λ e. keys_rank c.keys < keys_rank e.keys) (filter (λ e. e.field == field) columns))
        → ClassesAscend (cond b (c ∷ filter (λ c. c.field == field) columns)
        (filter (λ c. c.field == field) columns))
    by_field false is ih above = ih
    by_field true is ih above = by_place
      where
        here : c.field ≡ field
        here = grind (arith, nat_tests)

        by_place : ClassesAscend (c ∷ filter (λ c. c.field == field) columns)
        by_place zero zero d up l = absurd (omega (arith, up))
        by_place zero (suc j) d up l = above here j d (omega (arith, l))
        by_place (suc i) zero d up l = absurd (omega (arith, up))
        by_place (suc i) (suc j) d up l = ih i j d (omega (arith, up)) (omega (arith, l))

pub fields_rise : (columns : List StoredColumn) → AreInOrder columns
    → IsNonDecreasingBy (λ c. c.field) columns
fields_rise columns order i j d low within = elim (cases_eq i j) [
  | inl same ↦ let there : (get_or columns i d).field ≡ (get_or columns j d).field =
      ap (λ k. (get_or columns k d).field) same in omega (arith, there)
  | inr other ↦ (order i j d (omega (arith, low, other)) within).0
]

module _ (columns : List StoredColumn) (field from to : ℕ) (order : AreInOrder columns)
    (most : to ≤ length columns) (within : from ≤ length columns)
    (low : (k : ℕ) (d : StoredColumn) → k < from → nat_lt (get_or columns k d).field field ≡ true)
    (not_low : (k : ℕ) (d : StoredColumn) → from ≤ k → k < length columns
    → nat_lt (get_or columns k d).field field ≡ false)
    (upto : (k : ℕ) (d : StoredColumn) → k < to → nat_le (get_or columns k d).field field ≡ true)
    (above : (k : ℕ) (d : StoredColumn) → to ≤ k → k < length columns
    → nat_le (get_or columns k d).field field ≡ false) where
  none : StoredColumn
  none = record { field = 0; keys = Signed; cells = [] }

  pub part_up : from ≤ to
  part_up = elim (cases_lt to from) [
    | inl short ↦
        let one : nat_lt (get_or columns to none).field field ≡ true = low to none short in
        let two : nat_le (get_or columns to none).field field ≡ false = above to none (omega arith)
        (omega (arith, short, within)) in
        absurd (omega (arith, ltb-true _ _ one, leb-false _ _ two))
    | inr up ↦ up
  ]

  pub part_is : slice_range columns from to ≡ filter (λ c. c.field == field) columns
  part_is =
      part_passes (λ (c : StoredColumn). c.field == field) columns from to part_up most
      (λ k d l. ne_eqb (get_or columns k d).field field (let less = ltb-true _ _ (low k d l) in
      λ is. omega (arith, less, is)))
      (λ k d up l. eq-eqb (get_or columns k d).field field (let least =
      ltb-false _ _ (not_low k d up (omega (arith, l, most))) in
      let greatest = leb-true _ _ (upto k d l) in omega (arith, least, greatest)))
      (λ k d up l. ne_eqb (get_or columns k d).field field (let more =
      leb-false _ _ (above k d up l) in λ is. omega (arith, more, is)))
