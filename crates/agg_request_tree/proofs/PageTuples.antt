-- Occurrences are tuples of canonical keys, one for each source.
use Rattle.std.proofs.Common.{◌≡◌, ◌^◌, ◌≤◌, ◌<◌, ◌<ℤ◌, ℤ, pos, Bool, true, false, List, [], ◌∷◌}
use Rattle.std.proofs.Common.{map}
use Rattle.std.proofs.Common.{refl, arith, Equal}
use Rattle.std.specs.Prelude.{filter_map, int_lt, nat_lt, unsigned_abs}
use Rattle.std.specs.List.{All, AllByRecursion, Contains}
use Rattle.std.proofs.lemmas.Bool.{cond_both}
use Rattle.std.proofs.lemmas.Bool.Decides.{nat_tests}
use Rattle.std.proofs.lemmas.Int.{ints}
use Rattle.std.proofs.lemmas.List.Elements.{All-nil, All-cons, All-contains, All-from_recursion}
use Rattle.agg_values.specs.TypedKey.{CompositeIntermediateKey}
use Rattle.agg_values.specs.TypedKey.{IsCanonical, canonical_key, typed_number}
use Rattle.agg_values.specs.declared.typed_key.CompositeIntermediateKey.TheVariants.{
  Bool as Truth,
  Str,
  I64,
  U64,
  DateTime,
  IpAddr,
  Null,
}
use Rattle.agg_values.specs.KeyOrder.{tuple_order}
use Rattle.agg_values.specs.Laws.{IsCanonicalTuple}
use Rattle.agg_values.proofs.TupleOrder.{tuple_order-exact}
use Rattle.agg_segment.specs.storage.Document.{Fields}
use Rattle.agg_request_tree.specs.declared.source.CompositeAggregationSource as kind
use kind.{CompositeAggregationSource}
use kind.TheVariants.{Terms, Histogram, DateHistogram}
use Rattle.agg_request_tree.specs.Source.{rules_of, or_missing, source_values, missing_bucket_of}
use Rattle.agg_request_tree.specs.Source.{field_of, is_from, keys_in, min_of, start_in}
use Rattle.agg_request_tree.specs.Source.{values_at, values_from, Sources}
use Rattle.agg_request_tree.specs.Occurrences.{occurrences, occurrences_in}
use Rattle.agg_request_tree.proofs.Lists.{AllByRecursion-always, AllByRecursion-filter}
use Rattle.agg_request_tree.proofs.Lists.{AllByRecursion-flat_map}
use Rattle.agg_request_tree.proofs.Lists.{AllByRecursion-map, AllByRecursion-weaker}
use Rattle.agg_values.specs.Tuple.{KeyTuple}

-- a typed number is canonical
pub typed_number-canonical : (n : ℤ) → IsCanonical (typed_number n)
typed_number-canonical n =
    cond_both (int_lt n (pos (2 ^ 63))) (I64 n) (U64 (unsigned_abs n)) IsCanonical
    (λ e. let below : n <ℤ pos (2 ^ 63) = omega (arith, ints) in below)
    (λ e. let above : 2 ^ 63 ≤ unsigned_abs n = omega (arith, ints) in above)

-- the canonical key of a key is canonical
canonical_key-canonical : (k : CompositeIntermediateKey) → IsCanonical (canonical_key k)
canonical_key-canonical (I64 n) = typed_number-canonical n
canonical_key-canonical (U64 n) =
    cond_both (nat_lt n (2 ^ 63)) (I64 (pos n)) (U64 n) IsCanonical
    (λ e. let below : n < 2 ^ 63 = grind (arith, nat_tests) in omega (arith, ints, below))
    (λ e. let above : 2 ^ 63 ≤ n = grind (arith, nat_tests) in above)
canonical_key-canonical (Truth b) = tt
canonical_key-canonical (Str text) = tt
canonical_key-canonical (DateTime ns) = tt
canonical_key-canonical (IpAddr address) = tt
canonical_key-canonical Null = tt

-- what holds of the keys and of Null holds of the keys or Null
or_missing-all : (missing : Bool) (keys : KeyTuple) → AllByRecursion IsCanonical keys
    → AllByRecursion IsCanonical (or_missing missing keys)
or_missing-all true [] all = (tt, tt)
or_missing-all false [] all = tt
or_missing-all missing (k ∷ keys) all = all

-- the keys that a source gives for canonical values are canonical
keys_in-canonical : (source : CompositeAggregationSource) (values : KeyTuple)
    → AllByRecursion IsCanonical values → AllByRecursion IsCanonical (keys_in source values)
keys_in-canonical (Terms s) values all = all
keys_in-canonical (Histogram s) values all =
    let starts = filter_map (start_in (Histogram s)) values in
    AllByRecursion-map IsCanonical typed_number starts
    (AllByRecursion-always (λ n. IsCanonical (typed_number n)) typed_number-canonical starts)
keys_in-canonical (DateHistogram s) values all =
    let starts = filter_map (start_in (DateHistogram s)) values in
    AllByRecursion-map IsCanonical DateTime starts
    (AllByRecursion-always (λ ns. IsCanonical (DateTime ns)) (λ ns. tt) starts)

-- the keys that a source reads are canonical
pub source_values-canonical : (source : CompositeAggregationSource) (document : Fields)
    → AllByRecursion IsCanonical (source_values source document)
source_values-canonical source document =
    or_missing-all (missing_bucket_of source) _
    (keys_in-canonical source (values_from source document)
    (AllByRecursion-filter IsCanonical (is_from (min_of source))
    (values_at (field_of source) document)
    (AllByRecursion-map IsCanonical canonical_key (document (field_of source))
    (AllByRecursion-always (λ k. IsCanonical (canonical_key k)) canonical_key-canonical
    (document (field_of source))))))

-- one more key before a tuple
longer : (source : CompositeAggregationSource) (sources : Sources) (k : CompositeIntermediateKey)
    → IsCanonical k
    → (t : KeyTuple) → IsCanonicalTuple (rules_of sources) t
    → IsCanonicalTuple (rules_of (source ∷ sources)) (k ∷ t)
longer source sources k key t tuple = (omega arith, All-cons IsCanonical k t key tuple.1)

-- a document's tuples are canonical
pub occurrences-canonical : (sources : Sources) (document : Fields)
    → AllByRecursion (IsCanonicalTuple (rules_of sources)) (occurrences sources document)
occurrences-canonical [] document = ((refl, All-nil IsCanonical), tt)
occurrences-canonical (source ∷ sources) document =
    AllByRecursion-flat_map (IsCanonicalTuple (rules_of (source ∷ sources))) (λ k.
    map (λ t. k ∷ t) (occurrences sources document)) (source_values source document)
    (AllByRecursion-weaker IsCanonical _
    (λ k key.
    AllByRecursion-map (IsCanonicalTuple (rules_of (source ∷ sources))) (λ t. k ∷ t)
    (occurrences sources document)
    (AllByRecursion-weaker (IsCanonicalTuple (rules_of sources)) _ (longer source sources k key)
    (occurrences sources document) (occurrences-canonical sources document)))
    (source_values source document) (source_values-canonical source document))

-- the tuples of all documents are canonical
pub occurrences_in-canonical : (sources : Sources) (documents : List Fields)
    → All (IsCanonicalTuple (rules_of sources)) (occurrences_in sources documents)
occurrences_in-canonical sources documents =
    let canonical = AllByRecursion-always (λ d. AllByRecursion (IsCanonicalTuple (rules_of sources))
    (occurrences sources d)) (occurrences-canonical sources) documents in
    All-from_recursion (IsCanonicalTuple (rules_of sources)) (occurrences_in sources documents)
    (AllByRecursion-flat_map (IsCanonicalTuple (rules_of sources)) (occurrences sources)
    documents canonical)

-- a tuple of the documents is canonical
pub occurring-canonical : (sources : Sources) (documents : List Fields) (t : KeyTuple)
    → Contains (occurrences_in sources documents) t → IsCanonicalTuple (rules_of sources) t
occurring-canonical sources documents t c = All-contains (IsCanonicalTuple (rules_of sources))
    (occurrences_in sources documents) t (occurrences_in-canonical sources documents) c

-- tuples of the documents that compare as equal are one
pub occurring-exact : (sources : Sources) (documents : List Fields) (t u : KeyTuple)
    → Contains (occurrences_in sources documents) t → Contains (occurrences_in sources documents) u
    → tuple_order (rules_of sources) t u ≡ Equal → t ≡ u
occurring-exact sources documents t u in_t in_u e =
    tuple_order-exact (rules_of sources) t u (occurring-canonical sources documents t in_t)
    (occurring-canonical sources documents u in_u) e
