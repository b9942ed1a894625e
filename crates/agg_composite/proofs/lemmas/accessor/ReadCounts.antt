-- How many keys a source gives for the values in columns: as many as those that it reads have.
use Rattle.std.proofs.Common.{◌≡◌, ℕ, suc, ◌+◌, ◌^◌, ℤ, pos, ◌-ℤ◌, Bool, true, false, cond}
use Rattle.std.proofs.Common.{Option, None, Some, is_some, List, [], ◌∷◌, ◌++◌, length, map}
use Rattle.std.proofs.Common.{length-append, filter, refl, sym, ap, ◌∙◌, arith}
use Rattle.std.specs.Prelude.{filter_map, int_lt, nat_lt, unsigned_abs}
use Rattle.std.specs.List.{cons_option}
use Rattle.std.proofs.lemmas.Bool.{cond_both}
use Rattle.std.proofs.lemmas.List.{length-map, map-append}
use Rattle.std.proofs.lemmas.List.Concat.{flat_map-cons}
use Rattle.std.proofs.lemmas.List.Elements.{filter-append, filter_map-append}
use Rattle.agg_values.specs.Tuple.{KeyTuple}
use Rattle.agg_values.specs.TypedKey.{CompositeIntermediateKey, canonical_key, typed_number}
use Rattle.agg_values.specs.declared.typed_key.CompositeIntermediateKey.TheVariants as key
use Rattle.agg_segment.specs.storage.Columns.{StoredColumn, all_keys, column_keys, encoded_key}
use Rattle.agg_segment.specs.storage.Columns.{numbers_at, type_of}
use Rattle.agg_segment.specs.declared.storage.keys.ColumnKeys.{ColumnKeys}
use Rattle.agg_segment.specs.declared.storage.keys.ColumnKeys.TheVariants.{Bools, Texts, Signed}
use Rattle.agg_segment.specs.declared.storage.keys.ColumnKeys.TheVariants.{Unsigned, Addresses}
use Rattle.agg_segment.specs.declared.storage.keys.ColumnKeys.TheVariants.{Dates}
use Rattle.agg_request_tree.specs.Source.{is_from, keys_in, min_of, start_in}
use Rattle.agg_request_tree.specs.SourceColumns.{reads_type}
use Rattle.agg_request_tree.specs.declared.source.CompositeAggregationSource as kind
use kind.{CompositeAggregationSource}
use kind.TheVariants.{Terms, Histogram, DateHistogram}
use Rattle.agg_composite.specs.accessor.Accessors.{columns_read, keys_from}
use Rattle.agg_composite.proofs.lemmas.accessor.LeastValues.{values-from_canonical}

-- something where a source gives a key for a value
abbrev given : CompositeAggregationSource → CompositeIntermediateKey → Option ℤ
given (Terms s) k = Some (pos 0)
given (Histogram s) k = start_in (Histogram s) k
given (DateHistogram s) k = start_in (DateHistogram s) k

-- ---- keys

-- a typed number is I64 or U64
typed_number-either : (P : CompositeIntermediateKey → Type 0) → ((n : ℤ) → P (key.I64 n))
    → ((n : ℕ) → P (key.U64 n)) → (n : ℤ) → P (typed_number n)
typed_number-either P signed unsigned n =
    cond_both (int_lt n (pos (2 ^ 63))) (key.I64 n) (key.U64 (unsigned_abs n)) P (λ _. signed n)
    (λ _. unsigned (unsigned_abs n))

-- the canonical key of a U64 is I64 or U64
canonical-either : (P : CompositeIntermediateKey → Type 0) → ((n : ℤ) → P (key.I64 n))
    → ((n : ℕ) → P (key.U64 n)) → (n : ℕ) → P (canonical_key (key.U64 n))
canonical-either P signed unsigned n =
    cond_both (nat_lt n (2 ^ 63)) (key.I64 (pos n)) (key.U64 n) P (λ _. signed (pos n))
    (λ _. unsigned n)

-- a source gives a key for what the numbers of a column stand for where it reads the column
given-key : (source : CompositeAggregationSource) (keys : ColumnKeys) (n : ℕ)
    → is_some (given source (canonical_key (encoded_key keys n)))
    ≡ reads_type source (type_of keys)
given-key (Terms s) keys n = refl
given-key (Histogram s) Bools n = refl
given-key (Histogram s) (Texts texts) n = refl
given-key (Histogram s) Signed n =
    typed_number-either (λ k. is_some (given (Histogram s) k) ≡ true) (λ _. refl) (λ _. refl)
    (pos n -ℤ pos (2 ^ 63))
given-key (Histogram s) Unsigned n =
    typed_number-either (λ k. is_some (given (Histogram s) (canonical_key k)) ≡ true)
    (typed_number-either (λ k. is_some (given (Histogram s) k) ≡ true) (λ _. refl) (λ _. refl))
    (canonical-either (λ k. is_some (given (Histogram s) k) ≡ true) (λ _. refl) (λ _. refl))
    (pos n)
given-key (Histogram s) (Addresses addresses) n = refl
given-key (Histogram s) Dates n = refl
given-key (DateHistogram s) Bools n = refl
given-key (DateHistogram s) (Texts texts) n = refl
given-key (DateHistogram s) Signed n =
    typed_number-either (λ k. is_some (given (DateHistogram s) k) ≡ false) (λ _. refl) (λ _. refl)
    (pos n -ℤ pos (2 ^ 63))
given-key (DateHistogram s) Unsigned n =
    typed_number-either (λ k. is_some (given (DateHistogram s) (canonical_key k)) ≡ false)
    (typed_number-either (λ k. is_some (given (DateHistogram s) k) ≡ false) (λ _. refl)
    (λ _. refl))
    (canonical-either (λ k. is_some (given (DateHistogram s) k) ≡ false) (λ _. refl) (λ _. refl))
    (pos n)
given-key (DateHistogram s) (Addresses addresses) n = refl
given-key (DateHistogram s) Dates n = refl

-- a source gives as many keys
length-keys_in : (source : CompositeAggregationSource) (values : KeyTuple)
    → length (keys_in source values) ≡ length (filter_map (given source) values)
length-keys_in (Terms s) [] = refl
length-keys_in (Terms s) (k ∷ values) = ap suc (length-keys_in (Terms s) values)
length-keys_in (Histogram s) values =
    length-map (filter_map (start_in (Histogram s)) values) typed_number
length-keys_in (DateHistogram s) values =
    length-map (filter_map (start_in (DateHistogram s)) values) key.DateTime

-- ---- a column

length-cons_option : (o : Option ℤ) (xs : List ℤ)
    → length (cons_option o xs) ≡ cond (is_some o) (suc (length xs)) (length xs)
length-cons_option None xs = refl
length-cons_option (Some x) xs = refl

-- all values of a column that pass are given keys, or none
module _ (p : CompositeIntermediateKey → Bool) (h : CompositeIntermediateKey → Option ℤ)
    (keys : ColumnKeys) (reads : Bool)
    (each : (n : ℕ) → is_some (h (canonical_key (encoded_key keys n))) ≡ reads) where
  -- the keys of numbers that pass
  abbrev kept : List ℕ → List CompositeIntermediateKey
  kept ns = filter p (map (encoded_key keys) ns)

  length-one_more : (n : ℕ) (ks : List CompositeIntermediateKey) (b : Bool)
      → length (filter_map h (map canonical_key ks)) ≡ cond reads (length ks) 0
      → length (filter_map h (map canonical_key (cond b (encoded_key keys n ∷ ks) ks)))
      ≡ cond reads (length (cond b (encoded_key keys n ∷ ks) ks)) 0
  length-one_more n ks false rest = rest
  length-one_more n ks true rest =
      let others = filter_map h (map canonical_key ks) in
      length-cons_option (h (canonical_key (encoded_key keys n))) others
      ∙ ap (λ b. cond b (suc (length others)) (length others)) (each n)
      ∙ ap (λ m. cond reads (suc m) m) rest
      ∙ by_test reads
    where
      by_test : (b : Bool)
          → cond b (suc (cond b (length ks) 0)) (cond b (length ks) 0)
          ≡ cond b (suc (length ks)) 0
      by_test true = refl
      by_test false = refl

  length-column : (ns : List ℕ)
      → length (filter_map h (map canonical_key (kept ns))) ≡ cond reads (length (kept ns)) 0
  length-column [] = by_test reads
    where
      by_test : (b : Bool) → ◌≡◌ {A = ℕ} 0 (cond b 0 0)
      by_test true = refl
      by_test false = refl
  length-column (n ∷ ns) =
      length-one_more n (kept ns) (p (encoded_key keys n)) (length-column ns)

-- ---- columns

-- the keys in columns that pass, of two parts
kept-split : (p : CompositeIntermediateKey → Bool) (column : StoredColumn)
    (columns : List StoredColumn) (doc : ℕ)
    → filter p (all_keys (column ∷ columns) doc)
    ≡ filter p (column_keys column doc) ++ filter p (all_keys columns doc)
kept-split p column columns doc =
    let keys = λ (c : StoredColumn). column_keys c doc in
    ap (filter p) (flat_map-cons keys column columns)
    ∙ filter-append p (keys column) (all_keys columns doc)

-- those in columns before which one stands or not
length-kept : (p : CompositeIntermediateKey → Bool) (reads : Bool) (column : StoredColumn)
    (columns : List StoredColumn) (doc : ℕ)
    → length (filter p (all_keys (cond reads (column ∷ columns) columns) doc))
    ≡ cond reads (length (filter p (column_keys column doc))) 0
    + length (filter p (all_keys columns doc))
length-kept p true column columns doc =
    ap length (kept-split p column columns doc)
    ∙ length-append (filter p (column_keys column doc)) (filter p (all_keys columns doc))
length-kept p false column columns doc = omega arith

-- the columns that a source reads have as many keys that pass
length-given : (p : CompositeIntermediateKey → Bool) (source : CompositeAggregationSource)
    (columns : List StoredColumn) (doc : ℕ)
    → length (filter p (all_keys (filter (λ c. reads_type source (type_of c.keys)) columns) doc))
    ≡ length (filter_map (given source) (map canonical_key (filter p (all_keys columns doc))))
length-given p source [] doc = refl
length-given p source (column ∷ columns) doc =
    let reads = reads_type source (type_of column.keys) in
    let read = filter (λ (c : StoredColumn). reads_type source (type_of c.keys)) columns in
    let h = given source in
    let own = map canonical_key (filter p (column_keys column doc)) in
    let others = map canonical_key (filter p (all_keys columns doc)) in
    let split : map canonical_key (filter p (all_keys (column ∷ columns) doc)) ≡ own ++ others =
    ap (map canonical_key) (kept-split p column columns doc)
    ∙ map-append canonical_key (filter p (column_keys column doc))
    (filter p (all_keys columns doc)) in
    let first = length-column p h column.keys reads (given-key source column.keys)
    (numbers_at column.cells doc) in
    let all : length (filter_map h (map canonical_key (filter p
    (all_keys (column ∷ columns) doc))))
    ≡ length (filter_map h own) + length (filter_map h others) =
    ap (λ ks. length (filter_map h ks)) split ∙ ap length (filter_map-append h own others)
    ∙ length-append (filter_map h own) (filter_map h others) in
    length-kept p reads column read doc
    ∙ ap (λ n. cond reads (length (filter p (column_keys column doc))) 0 + n)
    (length-given p source columns doc)
    ∙ ap (λ n. n + length (filter_map h others)) (sym first)
    ∙ sym all

-- the columns that a source reads have as many keys that aren't below its least value as it gives
-- for the values in all columns
pub length-read : (source : CompositeAggregationSource) (columns : List StoredColumn) (doc : ℕ)
    → length (keys_from source (columns_read source columns) doc)
    ≡ length (keys_in source (filter (is_from (min_of source))
    (map canonical_key (all_keys columns doc))))
length-read source columns doc =
    let from = is_from (min_of source) in
    length-given from source columns doc
    ∙ sym (length-keys_in source (map canonical_key (filter from (all_keys columns doc))))
    ∙ ap (λ ks. length (keys_in source ks))
    (sym (values-from_canonical (min_of source) (all_keys columns doc)))
