-- How many numbers and dates a document has in columns.
use Rattle.std.proofs.Common.{◌≡◌, ℕ, ℤ, pos, ◌+◌, ◌<◌, ◌^◌, List, [], ◌∷◌, Bool, true, false}
use Rattle.std.proofs.Common.{Option, None, Some, min, length, length-append, map, take, get_or}
use Rattle.std.proofs.Common.{refl, sym, ap, ◌∙◌, arith}
use Rattle.std.specs.Prelude.{filter_map, if◌then◌else◌, int_lt, unsigned_abs}
use Rattle.std.specs.List.{cons_option, flat_map}
use Rattle.std.proofs.lemmas.List.{append-nil, take_more}
use Rattle.std.proofs.lemmas.List.Concat.{flat_map-append, flat_map-cons}
use Rattle.std.proofs.lemmas.List.Elements.{filter_map-append}
use Rattle.agg_values.specs.TypedKey.{CompositeIntermediateKey, typed_number}
use Rattle.agg_values.specs.declared.typed_key.CompositeIntermediateKey.TheVariants as key
use Rattle.agg_segment.specs.storage.Columns.{StoredColumn, all_keys, column_keys, encoded_key}
use Rattle.agg_segment.specs.storage.Columns.{type_of}
use Rattle.agg_segment.specs.declared.storage.keys.ColumnKeys.{ColumnKeys}
use Rattle.agg_segment.specs.declared.storage.keys.ColumnKeys.TheVariants.{Bools, Texts, Signed}
use Rattle.agg_segment.specs.declared.storage.keys.ColumnKeys.TheVariants.{Unsigned, Addresses}
use Rattle.agg_segment.specs.declared.storage.keys.ColumnKeys.TheVariants.{Dates}
use Rattle.agg_request_tree.specs.Metrics.{number_of}
use Rattle.agg_engine_tree.specs.uncut.NodeData.{has_numbers}

-- ---- one key

-- a typed number is a number
typed-some : (n : ℤ) → (m : ℤ) × (number_of (typed_number n) ≡ Some m)
typed-some n = by_test (int_lt n (pos (2 ^ 63)))
  where
    by_test : (b : Bool)
        → (m : ℤ) × (number_of (if b then key.I64 n else key.U64 (unsigned_abs n)) ≡ Some m)
    by_test true = (n, refl)
    by_test false = (pos (unsigned_abs n), refl)

-- each key of a column of numbers or dates is one
key-some : (keys : ColumnKeys) (n : ℕ) → has_numbers (type_of keys) ≡ true
    → (m : ℤ) × (number_of (encoded_key keys n) ≡ Some m)
key-some Bools n h = absurd (cc h)
key-some (Texts texts) n h = absurd (cc h)
key-some Signed n h = (_, refl)
key-some Unsigned n h = typed-some (pos n)
key-some (Addresses addresses) n h = absurd (cc h)
key-some Dates n h = (_, refl)

-- none of another is
key-none : (keys : ColumnKeys) (n : ℕ) → has_numbers (type_of keys) ≡ false
    → number_of (encoded_key keys n) ≡ None
key-none Bools n h = refl
key-none (Texts texts) n h = refl
key-none Signed n h = absurd (cc h)
key-none Unsigned n h = absurd (cc h)
key-none (Addresses addresses) n h = refl
key-none Dates n h = absurd (cc h)

-- ---- a column

-- how many numbers there are with this one
abbrev counted_with : Option ℤ → ℕ → ℕ
counted_with None n = n
counted_with (Some m) n = 1 + n

length-step : (o : Option ℤ) (k : CompositeIntermediateKey) (ks : List CompositeIntermediateKey)
    → number_of k ≡ o
    → length (filter_map number_of (k ∷ ks)) ≡ counted_with o (length (filter_map number_of ks))
length-step None k ks is = ap (λ o. length (cons_option o (filter_map number_of ks))) is
length-step (Some m) k ks is =
    ap (λ o. length (cons_option o (filter_map number_of ks))) is ∙ omega arith

-- in a column of numbers or dates each value is one
pub length-numbers : (keys : ColumnKeys) (ns : List ℕ) → has_numbers (type_of keys) ≡ true
    → length (filter_map number_of (map (encoded_key keys) ns)) ≡ length ns
length-numbers keys [] h = refl
length-numbers keys (n ∷ ns) h =
    let one = key-some keys n h in
    let step =
    length-step (Some one.0) (encoded_key keys n) (map (encoded_key keys) ns) one.1 in
    let rest = length-numbers keys ns h in
    omega (arith, step, rest)

-- in another column none is
pub length-no_numbers : (keys : ColumnKeys) (ns : List ℕ) → has_numbers (type_of keys) ≡ false
    → length (filter_map number_of (map (encoded_key keys) ns)) ≡ 0
length-no_numbers keys [] h = refl
length-no_numbers keys (n ∷ ns) h =
    length-step None (encoded_key keys n) (map (encoded_key keys) ns) (key-none keys n h)
    ∙ length-no_numbers keys ns h

-- ---- columns

-- how many numbers and dates a document has in columns
abbrev numbers_at : List StoredColumn → ℕ → ℕ
numbers_at columns doc = length (filter_map number_of (all_keys columns doc))

-- one column more
numbers-more : (columns : List StoredColumn) (doc i : ℕ) (d : StoredColumn) → i < length columns
    → numbers_at (take (i + 1) columns) doc
    ≡ numbers_at (take i columns) doc
    + length (filter_map number_of (column_keys (get_or columns i d) doc))
numbers-more columns doc i d l =
    let keys = λ (column : StoredColumn). column_keys column doc in
    let one = get_or columns i d in
    let before = all_keys (take i columns) doc in
    ap (λ cs. numbers_at cs doc) (take_more columns i d l)
    ∙ ap (λ ks. length (filter_map number_of ks))
    (flat_map-append keys (take i columns) (one ∷ []))
    ∙ ap length (filter_map-append number_of before (flat_map keys (one ∷ [])))
    ∙ length-append (filter_map number_of before)
    (filter_map number_of (flat_map keys (one ∷ [])))
    ∙ ap (λ ks. numbers_at (take i columns) doc + length (filter_map number_of ks))
    (flat_map-cons keys one [] ∙ append-nil (keys one))

-- the cut number of them, one column more
pub cut-numbers-more : (columns : List StoredColumn) (doc i : ℕ) (column : StoredColumn)
    (count own most : ℕ) → i < length columns → column ≡ get_or columns i column
    → count ≡ min (length (filter_map number_of (all_keys (take i columns) doc))) most
    → own ≡ length (filter_map number_of (column_keys column doc))
    → min (count + own) most
    ≡ min (length (filter_map number_of (all_keys (take (i + 1) columns) doc))) most
cut-numbers-more columns doc i column count own most l item before here =
    let all = numbers-more columns doc i column l
    ∙ ap (λ (x : StoredColumn). numbers_at (take i columns) doc
    + length (filter_map number_of (column_keys x doc))) (sym item) in
    omega (arith, before, here, all)
