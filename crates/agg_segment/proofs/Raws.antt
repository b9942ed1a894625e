-- The numbers of columns, in the order of the columns.
use Rattle.std.proofs.Common.{◌≡◌, ◌<◌, ◌≤◌, ℕ, zero, suc, List, [], ◌∷◌, ◌++◌}
use Rattle.std.proofs.Common.{length, get_or, set, map, true, false, refl, sym, ap}
use Rattle.std.proofs.Common.{subst, ◌∙◌, inl, inr, arith}
use Rattle.std.specs.Prelude.{Bool, filter, nat_lt, ◌==◌, ◌&&◌}
use Rattle.std.specs.List.{All}
use mathlib.Core.Bool.{true≢false}
use Rattle.std.proofs.lemmas.Bool.{cases_Bool, eq-eqb}
use Rattle.std.proofs.lemmas.Bool.Decides.{nat_tests}
use Rattle.std.proofs.lemmas.List.{append-nil, append_assoc, map-append}
use Rattle.std.proofs.lemmas.List.Elements.{All-append, All-head, All-tail, filter-append}
use Rattle.agg_values.specs.declared.column.ColumnPaginationOrder.{ColumnPaginationOrder}
use Rattle.agg_values.specs.declared.column.ColumnPaginationOrder.TheVariants as class
use Rattle.agg_values.specs.Column.{order_rank}
use Rattle.agg_segment.specs.Gatherings.{Raw, column_raws, raws, is_raw_of, forgotten}
use Rattle.agg_segment.specs.Gatherings.{AreAlike, IsOfColumn, ArePutInto}
use Rattle.agg_segment.specs.storage.Growing.{doc_rows}
use Rattle.agg_segment.specs.declared.gatherings.Gathering.{Gathering}

-- ---- classes by their ranks

pub rank_apart : (c d : ColumnPaginationOrder) → order_rank c ≡ order_rank d → c ≡ d
rank_apart class.Bool class.Bool is = refl
rank_apart class.Bool class.Str is = absurd (omega (arith, is))
rank_apart class.Bool class.Numeric is = absurd (omega (arith, is))
rank_apart class.Bool class.IpAddr is = absurd (omega (arith, is))
rank_apart class.Bool class.DateTime is = absurd (omega (arith, is))
rank_apart class.Str class.Bool is = absurd (omega (arith, is))
rank_apart class.Str class.Str is = refl
rank_apart class.Str class.Numeric is = absurd (omega (arith, is))
rank_apart class.Str class.IpAddr is = absurd (omega (arith, is))
rank_apart class.Str class.DateTime is = absurd (omega (arith, is))
rank_apart class.Numeric class.Bool is = absurd (omega (arith, is))
rank_apart class.Numeric class.Str is = absurd (omega (arith, is))
rank_apart class.Numeric class.Numeric is = refl
rank_apart class.Numeric class.IpAddr is = absurd (omega (arith, is))
rank_apart class.Numeric class.DateTime is = absurd (omega (arith, is))
rank_apart class.IpAddr class.Bool is = absurd (omega (arith, is))
rank_apart class.IpAddr class.Str is = absurd (omega (arith, is))
rank_apart class.IpAddr class.Numeric is = absurd (omega (arith, is))
rank_apart class.IpAddr class.IpAddr is = refl
rank_apart class.IpAddr class.DateTime is = absurd (omega (arith, is))
rank_apart class.DateTime class.Bool is = absurd (omega (arith, is))
rank_apart class.DateTime class.Str is = absurd (omega (arith, is))
rank_apart class.DateTime class.Numeric is = absurd (omega (arith, is))
rank_apart class.DateTime class.IpAddr is = absurd (omega (arith, is))
rank_apart class.DateTime class.DateTime is = refl

-- ---- what is filtered

pub filter_none : {X : Type 0} (p : X → Bool) (xs : List X) → All (λ x. p x ≡ false) xs
    → filter p xs ≡ []
filter_none p [] none = refl
filter_none {X} p (x ∷ xs) none = rw (All-head (λ (y : X). p y ≡ false) x xs none)
    (filter_none p xs (All-tail (λ (y : X). p y ≡ false) x xs none))

pub filter_every : {X : Type 0} (p : X → Bool) (xs : List X) → All (λ x. p x ≡ true) xs
    → filter p xs ≡ xs
filter_every p [] every = refl
filter_every {X} p (x ∷ xs) every = rw (All-head (λ (y : X). p y ≡ true) x xs every)
    (ap (λ r. x ∷ r) (filter_every p xs (All-tail (λ (y : X). p y ≡ true) x xs every)))

-- ---- numbers put after those of their column

-- the numbers of other columns
apart_raws : (field : ℕ) (c : ColumnPaginationOrder) (columns : List Gathering)
    → ((k : ℕ) (g : Gathering) → k < length columns
    → (get_or columns k g).field ≡ field → (get_or columns k g).class ≡ c → ⊥)
    → All (λ r. IsOfColumn field c r → ⊥) (raws columns)
apart_raws field c [] apart = λ k d l. absurd (omega (arith, l))
apart_raws field c (g ∷ columns) apart =
    All-append (λ (r : Raw). IsOfColumn field c r → ⊥) (column_raws g) (raws columns)
    (of_column g.rows) (apart_raws field c columns (λ k h l. apart (suc k) h (omega (arith, l))))
  where
    of_column : (rows : List (ℕ × ℕ)) → All (λ r. IsOfColumn field c r → ⊥) (map (λ s.
        let t : Raw = record {
          field = g.field;
          class = g.class;
          doc = s.0;
          number = s.1;
        } in t) rows)
    of_column [] k d l = absurd (omega (arith, l))
    of_column (s ∷ rows) zero d l = λ of. apart 0 g (omega arith) of.0 of.1
    of_column (s ∷ rows) (suc k) d l = of_column rows k d (omega (arith, l))

-- the numbers of a document in a column
abbrev pub doc_raws : ℕ → ColumnPaginationOrder → ℕ → List ℕ → List Raw
doc_raws field c doc numbers =
    map (λ n. record { field = field; class = c; doc = doc; number = n }) numbers

own_raws : (field : ℕ) (c : ColumnPaginationOrder) (doc : ℕ) (numbers : List ℕ)
    → All (IsOfColumn field c) (doc_raws field c doc numbers)
own_raws field c doc [] k d l = absurd (omega (arith, l))
own_raws field c doc (n ∷ numbers) zero d l = (refl, refl)
own_raws field c doc (n ∷ numbers) (suc k) d l = own_raws field c doc numbers k d (omega (arith, l))

doc_rows_raws : (field : ℕ) (c : ColumnPaginationOrder) (doc : ℕ) (numbers : List ℕ)
    → map (λ (s : ℕ × ℕ). let t : Raw = record {
      field = field;
      class = c;
      doc = s.0;
      number = s.1;
    } in t) (doc_rows doc numbers) ≡ doc_raws field c doc numbers
doc_rows_raws field c doc [] = refl
doc_rows_raws field c doc (n ∷ numbers) =
    ap (λ rs. let t : Raw = record { field = field; class = c; doc = doc; number = n } in t ∷ rs)
    (doc_rows_raws field c doc numbers)

pub put_into : (columns : List Gathering) (i : ℕ) (x : Gathering) (rows : List (ℕ × ℕ))
    (doc : ℕ) (numbers : List ℕ) → i < length columns → x ≡ get_or columns i x
    → rows ≡ x.rows ++ doc_rows doc numbers
    → ((j : ℕ) (g : Gathering) → i < j → j < length columns
    → (get_or columns j g).field ≡ x.field → (get_or columns j g).class ≡ x.class → ⊥)
    → ArePutInto (raws columns) x.field x.class (doc_raws x.field x.class doc numbers)
    (raws (set columns i (record {
      field = x.field;
      class = x.class;
      before = x.before;
      rows = rows;
    })))
put_into [] i x rows doc numbers l is more apart = absurd (omega (arith, l))
put_into (c ∷ columns) zero x rows doc numbers l is more apart =
    let mk : ℕ × ℕ → Raw = λ s. record { field = x.field; class = x.class; doc = s.0; number = s.1 }
    in
    record {
      before = column_raws x;
      after = raws columns;
      was = ap (λ g. column_raws g ++ raws columns) (sym is);
      is = ap (λ rs. map mk rs ++ raws columns) more
          ∙ ap (λ rs. rs ++ raws columns) (map-append mk x.rows (doc_rows doc numbers)
          ∙ ap (λ rs. map mk x.rows ++ rs) (doc_rows_raws x.field x.class doc numbers))
          ∙ append_assoc (map mk x.rows) (doc_raws x.field x.class doc numbers) (raws columns);
      own = own_raws x.field x.class doc numbers;
      apart = apart_raws x.field x.class columns
          (λ k g in'. apart (suc k) g (omega arith) (omega (arith, in')));
    }
put_into (c ∷ columns) (suc i) x rows doc numbers l is more apart =
    let rest = put_into columns i x rows doc numbers (omega (arith, l)) is more
    (λ j g low in'. apart (suc j) g (omega (arith, low)) (omega (arith, in'))) in
    record {
      before = column_raws c ++ rest.before;
      after = rest.after;
      was = ap (λ rs. column_raws c ++ rs) rest.was
          ∙ sym (append_assoc (column_raws c) rest.before rest.after);
      is = ap (λ rs. column_raws c ++ rs) rest.is
          ∙ sym (append_assoc (column_raws c) rest.before _);
      own = rest.own;
      apart = rest.apart;
    }

module _ (old : List Raw) (column : ℕ) (c : ColumnPaginationOrder) (rs new : List Raw)
    (put : ArePutInto old column c rs new) where
  -- what isn't of them stays
  pub put_filtered : (p : Raw → Bool) → filter p rs ≡ [] → filter p new ≡ filter p old
  put_filtered p out =
      ap (filter p) put.is ∙ filter-append p put.before (rs ++ put.after)
      ∙ ap (λ ts. filter p put.before ++ ts) (filter-append p rs put.after
      ∙ ap (λ ts. ts ++ filter p put.after) out)
      ∙ sym (ap (filter p) put.was ∙ filter-append p put.before put.after)

  -- the numbers of each document are those of before, and then the new ones
  pub put_alike : AreAlike new (old ++ rs)
  put_alike field rank doc = elim (cases_Bool (is_there field rank)) [
    | inl here ↦
        let p : Raw → Bool = is_raw_of field rank doc in
        let none : filter p put.after ≡ [] = filter_none p put.after (λ k d l.
        of_other field rank doc (get_or put.after k d) here (put.apart k d l)) in
        let first : filter p old ≡ filter p put.before =
        ap (filter p) put.was ∙ filter-append p put.before put.after
        ∙ ap (λ ts. filter p put.before ++ ts) none ∙ append-nil (filter p put.before) in
        ap (filter p) put.is ∙ filter-append p put.before (rs ++ put.after)
        ∙ ap (λ ts. filter p put.before ++ ts) (filter-append p rs put.after
        ∙ ap (λ ts. filter p rs ++ ts) none ∙ append-nil (filter p rs))
        ∙ sym (filter-append p old rs ∙ ap (λ ts. ts ++ filter p rs) first)
    | inr other ↦
        let p : Raw → Bool = is_raw_of field rank doc in
        let gone : filter p rs ≡ [] = filter_none p rs (λ k d l.
        of_own field rank doc (get_or rs k d) other (put.own k d l)) in
        put_filtered p gone ∙ sym (filter-append p old rs
        ∙ ap (λ ts. filter p old ++ ts) gone ∙ append-nil (filter p old))
  ]
    where
      is_there : ℕ → ℕ → Bool
      is_there field rank = (column == field) && (order_rank c == rank)

      of_other : (field rank doc : ℕ) (s : Raw) → is_there field rank ≡ true
          → (IsOfColumn column c s → ⊥) → is_raw_of field rank doc s ≡ false
      of_other field rank doc s here apart = elim (cases_Bool (is_raw_of field rank doc s)) [
        | inl also ↦
            let rf : column ≡ field = grind (arith, nat_tests) in
            let sf : s.field ≡ field = grind (arith, nat_tests) in
            let rr : order_rank c ≡ rank = grind (arith, nat_tests) in
            let sr : order_rank s.class ≡ rank = grind (arith, nat_tests) in
            absurd (apart (sf ∙ sym rf, rank_apart s.class c (sr ∙ sym rr)))
        | inr out ↦ out
      ]

      of_own : (field rank doc : ℕ) (s : Raw) → is_there field rank ≡ false
          → IsOfColumn column c s → is_raw_of field rank doc s ≡ false
      of_own field rank doc s other own = elim (cases_Bool (is_raw_of field rank doc s)) [
        | inl also ↦
            let sf : s.field ≡ field = grind (arith, nat_tests) in
            let sr : order_rank s.class ≡ rank = grind (arith, nat_tests) in
            absurd (true≢false (sym (rw (
              eq-eqb column field (sym own.0 ∙ sf),
              eq-eqb (order_rank c) rank (ap order_rank (sym own.1) ∙ sr),
            ) refl) ∙ other))
        | inr out ↦ out
      ]

-- ---- the rows of one column

pub rows_below : (columns : List Gathering) (i : ℕ) (x : Gathering) (doc : ℕ)
    → i < length columns → x ≡ get_or columns i x → All (λ r. r.doc ≤ doc) (raws columns)
    → All (λ s. s.0 ≤ doc) x.rows
rows_below [] i x doc l is all = absurd (omega (arith, l))
rows_below (c ∷ columns) zero x doc l is all =
    subst (λ (g : Gathering). All (λ s. s.0 ≤ doc) g.rows) (sym is) (of_column c.rows all)
  where
    of_column : (rows : List (ℕ × ℕ)) → All (λ r. r.doc ≤ doc) (map (λ s. let t : Raw = record {
      field = c.field;
      class = c.class;
      doc = s.0;
      number = s.1;
    } in t) rows ++ raws columns) → All (λ s. s.0 ≤ doc) rows
    of_column [] all k d l = absurd (omega (arith, l))
    of_column (s ∷ rows) all zero d l = all 0 (record {
      field = 0;
      class = c.class;
      doc = 0;
      number = 0;
    }) (omega arith)
    of_column (s ∷ rows) all (suc k) d l = of_column rows (λ j e in'. all (suc j) e
        (omega (arith, in'))) k d (omega (arith, l))
rows_below (c ∷ columns) (suc i) x doc l is all = rows_below columns i x doc (omega (arith, l)) is
    (after c.rows all)
  where
    after : (rows : List (ℕ × ℕ)) → All (λ r. r.doc ≤ doc) (map (λ s. let t : Raw = record {
      field = c.field;
      class = c.class;
      doc = s.0;
      number = s.1;
    } in t) rows ++ raws columns) → All (λ r. r.doc ≤ doc) (raws columns)
    after [] all = all
    after (s ∷ rows) all = after rows (λ j e in'. all (suc j) e (omega (arith, in')))

-- ---- columns without the last documents

pub forgotten_raws : (columns : List Gathering) (doc : ℕ)
    → raws (map (forgotten doc) columns) ≡ filter (λ r. nat_lt r.doc doc) (raws columns)
forgotten_raws [] doc = refl
forgotten_raws (c ∷ columns) doc =
    ap (λ rs. rs ++ raws (map (forgotten doc) columns)) (of_column c.rows)
    ∙ ap (λ rs. filter (λ r. nat_lt r.doc doc) (column_raws c) ++ rs) (forgotten_raws columns doc)
    ∙ sym (filter-append (λ (r : Raw). nat_lt r.doc doc) (column_raws c) (raws columns))
  where
    mk : ℕ × ℕ → Raw
    mk s = record { field = c.field; class = c.class; doc = s.0; number = s.1 }

    of_column : (rows : List (ℕ × ℕ))
        → map (λ s. let t : Raw = record {
          field = c.field;
          class = c.class;
          doc = s.0;
          number = s.1;
        } in t) (filter (λ (s : ℕ × ℕ). nat_lt s.0 doc) rows)
        ≡ filter (λ r. nat_lt r.doc doc) (map (λ s. let t : Raw = record {
          field = c.field;
          class = c.class;
          doc = s.0;
          number = s.1;
        } in t) rows)
    of_column [] = refl
    of_column (s ∷ rows) = elim (cases_Bool (nat_lt s.0 doc)) [
      | inl low ↦ rw low (ap (λ rs. let t : Raw = record {
        field = c.field;
        class = c.class;
        doc = s.0;
        number = s.1;
      } in t ∷ rs) (of_column rows))
      | inr up ↦ rw up (of_column rows)
    ]

-- ---- the numbers of a document

-- none of them is of a document before it
pub doc_gone : (field : ℕ) (c : ColumnPaginationOrder) (doc : ℕ) (numbers : List ℕ)
    → filter (λ r. nat_lt r.doc doc) (doc_raws field c doc numbers) ≡ []
doc_gone field c doc [] = refl
doc_gone field c doc (n ∷ numbers) =
    let out : nat_lt doc doc ≡ false = grind (arith, nat_tests) in
    rw out (doc_gone field c doc numbers)

pub doc_last : (field : ℕ) (c : ColumnPaginationOrder) (doc : ℕ) (numbers : List ℕ)
    → All (λ r. r.doc ≤ doc) (doc_raws field c doc numbers)
doc_last field c doc [] k d l = absurd (omega (arith, l))
doc_last field c doc (n ∷ numbers) zero d l = omega arith
doc_last field c doc (n ∷ numbers) (suc k) d l = doc_last field c doc numbers k d (omega (arith, l))

pub alike_more : (old new next more rs : List Raw)
    → AreAlike new (old ++ more) → AreAlike next (new ++ rs)
    → AreAlike next (old ++ (more ++ rs))
alike_more old new next more rs so_far one field rank doc =
    let p : Raw → Bool = is_raw_of field rank doc in
    one field rank doc ∙ filter-append p new rs
    ∙ ap (λ ts. ts ++ filter p rs) (so_far field rank doc)
    ∙ sym (filter-append p (old ++ more) rs)
    ∙ ap (filter p) (append_assoc old more rs)
