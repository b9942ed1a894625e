-- The names of columns.
use Rattle.std.proofs.Common.{◌≡◌, ◌≢◌, ◌<◌, ◌≤◌, ◌+◌, ◌++◌, ℕ, zero, suc, List, [], ◌∷◌, Bool}
use Rattle.std.proofs.Common.{true, false}
use Rattle.std.proofs.Common.{Some, ap, arith, get_or, inl, inr, length, refl, subst, sym, take}
use Rattle.std.proofs.Common.{◌∙◌}
use Rattle.std.proofs.Common.{map}
use Rattle.std.specs.Prelude.{◌||◌, slice_get}
use Rattle.std.specs.Str.{bytes_eq}
use Rattle.std.proofs.lemmas.Bool.{cases_Bool, false≢true}
use Rattle.std.proofs.lemmas.List.{take_all, take_more}
use Rattle.std.proofs.lemmas.List.Quantifiers.{all_pairs_push}
use Rattle.std.proofs.lemmas.Slice.Eq.{bytes_eq-Decides}
use Rattle.peslumok_front.specs.tables.Columns.{header_of}
use Rattle.peslumok_front.specs.declared.tables.columns.TableColumn.{TableColumn}
use Rattle.peslumok_front.specs.front.Columns.{HaveOwnHeaders, ShareHeader, has_header}

-- what a list has at a place
pub get-at : (columns : List TableColumn) (i : ℕ) (column : TableColumn) → i < length columns
    → column ≡ get_or columns i column
    → slice_get (map header_of columns) i ≡ Some (header_of column)
get-at [] i column within is = absurd (omega arith)
get-at (c ∷ columns) zero column within is = ap (λ x. Some (header_of x)) (sym is)
get-at (c ∷ columns) (suc i) column within is = get-at columns i column (omega arith) is

-- a column before has the name
found : (name : List ℕ) (columns : List TableColumn) (i : ℕ)
    → has_header name (take i columns) ≡ true
    → (k : ℕ) × (k < i) × (slice_get (map header_of columns) k ≡ Some name)
found name columns zero is = absurd (false≢true is)
found name [] (suc i) is = absurd (false≢true is)
found name (c ∷ columns) (suc i) is = elim (cases_Bool (bytes_eq (header_of c) name)) [
  | inl same ↦ (0, omega arith, ap Some ((bytes_eq-Decides (header_of c) name).0 same))
  | inr other ↦
      let later = found name columns i (subst (λ b. (b || has_header name (take i columns)) ≡ true)
      other is) in
      (suc later.0, omega (arith, later.1), later.2)
]

-- so two columns have it
pub shared : (columns : List TableColumn) (i : ℕ) (column : TableColumn) → i < length columns
    → column ≡ get_or columns i column → has_header (header_of column) (take i columns) ≡ true
    → ShareHeader (header_of column) columns
shared columns i column within is has =
    let before = found (header_of column) columns i has in
    (before.0, i, before.1, before.2, get-at columns i column within is)

or-left : (a b : Bool) → (a || b) ≡ false → a ≡ false
or-left false b e = refl
or-left true b e = cc e

or-right : (a b : Bool) → (a || b) ≡ false → b ≡ false
or-right false b e = e
or-right true b e = cc e

-- no column before has the name
none-before : (name : List ℕ) (columns : List TableColumn) → has_header name columns ≡ false
    → (k : ℕ) (d : TableColumn) → k < length columns → header_of (get_or columns k d) ≢ name
none-before name [] is k d within same = absurd (omega arith)
none-before name (c ∷ columns) is zero d within same =
    false≢true (sym (or-left (bytes_eq (header_of c) name) (has_header name columns) is)
    ∙ (bytes_eq-Decides (header_of c) name).1 same)
none-before name (c ∷ columns) is (suc k) d within same =
    none-before name columns
    (or-right (bytes_eq (header_of c) name) (has_header name columns) is) k d (omega arith) same

-- one more column of its own name
pub apart-more : (columns : List TableColumn) (i : ℕ) (column : TableColumn) → i < length columns
    → column ≡ get_or columns i column → has_header (header_of column) (take i columns) ≡ false
    → HaveOwnHeaders (take i columns) → HaveOwnHeaders (take (i + 1) columns)
apart-more columns i column within is none own =
    subst HaveOwnHeaders
    (sym (take_more columns i column within ∙ ap (λ c. take i columns ++ c ∷ []) (sym is)))
    (all_pairs_push (λ c d. header_of c ≢ header_of d) (take i columns) column own
    (none-before (header_of column) (take i columns) none))

-- as many as there are
pub apart-all : (columns : List TableColumn) (i : ℕ) → length columns ≤ i
    → HaveOwnHeaders (take i columns) → HaveOwnHeaders columns
apart-all columns i over own = subst HaveOwnHeaders (take_all i columns over) own

-- of no columns
pub apart-none : (columns : List TableColumn) → HaveOwnHeaders (take 0 columns)
apart-none columns i j d before within = absurd (omega arith)
