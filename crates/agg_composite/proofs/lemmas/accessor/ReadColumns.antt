-- The columns that a source reads give all of its keys.
use Rattle.std.proofs.Common.{◌≡◌, ◌<◌, ◌^◌, ℕ, zero, suc, ℤ, pos, List, [], ◌∷◌, ◌++◌, Bool, true}
use Rattle.std.proofs.Common.{false, cond, Option, None, map, filter, refl, sym, ap, ◌∙◌, arith}
use Rattle.std.specs.List.{All, cons_option}
use Rattle.std.specs.Prelude.{filter_map, int_lt, option_map, unsigned_abs}
use Rattle.std.proofs.lemmas.List.Elements.{All-filter, filter-append, filter_map-append}
use Rattle.agg_values.specs.TypedKey.{CompositeIntermediateKey, typed_number}
use Rattle.agg_values.specs.declared.typed_key.CompositeIntermediateKey.TheVariants as key
use Rattle.agg_segment.specs.storage.Columns.{ClassesAscend, StoredColumn, all_keys, column_keys}
use Rattle.agg_segment.specs.storage.Columns.{encoded_key, keys_rank, numbers_at, type_of}
use Rattle.agg_segment.specs.declared.storage.keys.ColumnKeys.{ColumnKeys}
use Rattle.agg_segment.specs.declared.storage.keys.ColumnKeys.TheVariants.{Bools, Texts, Signed}
use Rattle.agg_segment.specs.declared.storage.keys.ColumnKeys.TheVariants.{Unsigned, Addresses}
use Rattle.agg_segment.specs.declared.storage.keys.ColumnKeys.TheVariants.{Dates}
use Rattle.agg_request_tree.specs.Source.{date_of, division_of, is_from, keys_in, min_of}
use Rattle.agg_request_tree.specs.Source.{start_by, start_in}
use Rattle.agg_request_tree.specs.SourceColumns.{reads_type}
use Rattle.agg_request_tree.specs.declared.source.CompositeAggregationSource as kind
use kind.{CompositeAggregationSource}
use kind.TheVariants.{DateHistogram, Histogram, Terms}
use Rattle.agg_composite.specs.accessor.Accessors.{columns_read, keys_from, starts_in}

-- ---- columns that aren't read

-- no number has a date
dateless : (n : ℤ) → date_of (typed_number n) ≡ None
dateless n = by_test (int_lt n (pos (2 ^ 63)))
  where
    by_test : (b : Bool) → date_of (cond b (key.I64 n) (key.U64 (unsigned_abs n))) ≡ None
    by_test true = refl
    by_test false = refl

-- nothing starts in a column that isn't read
unread : (source : CompositeAggregationSource) (keys : ColumnKeys)
    → reads_type source (type_of keys) ≡ false → (n : ℕ)
    → start_in source (encoded_key keys n) ≡ None
unread (Terms s) keys is n = refl
unread (Histogram s) Bools is n = refl
unread (Histogram s) (Texts texts) is n = refl
unread (Histogram s) Signed is n = absurd (cc is)
unread (Histogram s) Unsigned is n = absurd (cc is)
unread (Histogram s) (Addresses addresses) is n = refl
unread (Histogram s) Dates is n = absurd (cc is)
unread (DateHistogram s) Bools is n = refl
unread (DateHistogram s) (Texts texts) is n = refl
unread (DateHistogram s) Signed is n = refl
unread (DateHistogram s) Unsigned is n =
    ap (option_map (start_by (division_of s))) (dateless (pos n))
unread (DateHistogram s) (Addresses addresses) is n = refl
unread (DateHistogram s) Dates is n = absurd (cc is)

none-given : (f : CompositeIntermediateKey → Option ℤ) (keys : ColumnKeys)
    → ((n : ℕ) → f (encoded_key keys n) ≡ None) → (p : CompositeIntermediateKey → Bool)
    → (ns : List ℕ) → filter_map f (filter p (map (encoded_key keys) ns)) ≡ []
none-given f keys none p [] = refl
none-given f keys none p (n ∷ ns) = by_test (p (encoded_key keys n)) (none-given f keys none p ns)
  where
    others : List CompositeIntermediateKey
    others = filter p (map (encoded_key keys) ns)

    by_test : (b : Bool) → filter_map f others ≡ []
        → filter_map f (cond b (encoded_key keys n ∷ others) others) ≡ []
    by_test true rest = ap (λ o. cons_option o (filter_map f others)) (none n) ∙ rest
    by_test false rest = rest

-- ---- starts and keys

-- the starts of what isn't below the least value, of two lists
starts-append : (source : CompositeAggregationSource) (own others : List CompositeIntermediateKey)
    → starts_in source (filter (is_from (min_of source)) (own ++ others))
    ≡ starts_in source (filter (is_from (min_of source)) own)
    ++ starts_in source (filter (is_from (min_of source)) others)
starts-append source own others =
    let from = filter (is_from (min_of source)) in
    ap (starts_in source) (filter-append (is_from (min_of source)) own others)
    ∙ filter_map-append (start_in source) (from own) (from others)

-- the columns that a source reads have all starts
pub starts-read : (source : CompositeAggregationSource) (columns : List StoredColumn) (doc : ℕ)
    → starts_in source (keys_from source (columns_read source columns) doc)
    ≡ starts_in source (keys_from source columns doc)
starts-read source [] doc = refl
starts-read source (c ∷ cs) doc =
    by_test (reads_type source (type_of c.keys)) refl (starts-read source cs doc)
  where
    by_test : (b : Bool) → reads_type source (type_of c.keys) ≡ b
        → starts_in source (keys_from source (columns_read source cs) doc)
        ≡ starts_in source (keys_from source cs doc)
        → starts_in source
        (keys_from source (cond b (c ∷ columns_read source cs) (columns_read source cs)) doc)
        ≡ starts_in source (keys_from source (c ∷ cs) doc)
    by_test true is others =
        let own = column_keys c doc in
        starts-append source own (all_keys (columns_read source cs) doc)
        ∙ ap (λ starts. starts_in source (filter (is_from (min_of source)) own) ++ starts) others
        ∙ sym (starts-append source own (all_keys cs doc))
    by_test false is others =
        let own = column_keys c doc in
        others
        ∙ sym (starts-append source own (all_keys cs doc)
        ∙ ap (λ starts. starts ++ starts_in source (keys_from source cs doc))
        (none-given (start_in source) c.keys (unread source c.keys is) (is_from (min_of source))
        (numbers_at c.cells doc)))

filter-always : {X : Type 0} (xs : List X) → filter (λ x. true) xs ≡ xs
filter-always [] = refl
filter-always (x ∷ xs) = ap (λ ys. x ∷ ys) (filter-always xs)

-- the columns that a source reads have all keys
pub keys-read : (source : CompositeAggregationSource) (columns : List StoredColumn) (doc : ℕ)
    → keys_in source (keys_from source (columns_read source columns) doc)
    ≡ keys_in source (keys_from source columns doc)
keys-read (Terms s) columns doc = ap (λ cs. keys_from (Terms s) cs doc) (filter-always columns)
keys-read (Histogram s) columns doc = ap (map typed_number) (starts-read (Histogram s) columns doc)
keys-read (DateHistogram s) columns doc =
    ap (map key.DateTime) (starts-read (DateHistogram s) columns doc)

-- ---- classes

-- a column below all others
below-all : (c : StoredColumn) (cs : List StoredColumn)
    → All (λ d. keys_rank c.keys < keys_rank d.keys) cs → ClassesAscend cs → ClassesAscend (c ∷ cs)
below-all c cs first ascend zero zero d l m = absurd (omega arith)
below-all c cs first ascend zero (suc j) d l m = first j d (omega (arith, m))
below-all c cs first ascend (suc i) zero d l m = absurd (omega (arith, l))
below-all c cs first ascend (suc i) (suc j) d l m =
    ascend i j d (omega (arith, l)) (omega (arith, m))

-- the columns that a source reads ascend by class
pub classes-read : (source : CompositeAggregationSource) (columns : List StoredColumn)
    → ClassesAscend columns → ClassesAscend (columns_read source columns)
classes-read source [] ascend = ascend
classes-read source (c ∷ cs) ascend =
    by_test (reads_type source (type_of c.keys))
    (classes-read source cs (λ i j d l m.
    ascend (suc i) (suc j) d (omega (arith, l)) (omega (arith, m))))
  where
    by_test : (b : Bool) → ClassesAscend (columns_read source cs)
        → ClassesAscend (cond b (c ∷ columns_read source cs) (columns_read source cs))
    by_test true others =
        below-all c (columns_read source cs)
        (All-filter (λ d. reads_type source (type_of d.keys))
        (λ d. keys_rank c.keys < keys_rank d.keys) cs
        (λ j d l. ascend 0 (suc j) d (omega arith) (omega (arith, l))))
        others
    by_test false others = others
