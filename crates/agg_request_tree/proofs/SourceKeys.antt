-- The keys of a tuple beside the sources that they are of.
use Rattle.std.proofs.Common.{◌≡◌, ◌≢◌, ◌^◌, ℕ, suc, ℤ, pos, Bool, true, false, Some}
use Rattle.std.proofs.Common.{List, [], ◌∷◌, length, map, refl, sym, ap, ◌∙◌, subst, arith}
use Rattle.std.specs.Prelude.{filter_map, int_lt, nat_lt, unsigned_abs}
use Rattle.std.specs.List.{All, AllByRecursion, AllZip, Contains}
use Rattle.std.specs.Option.{option_map, unwrap_or}
use Rattle.std.proofs.lemmas.Bool.{cond_both, false≢true}
use Rattle.std.proofs.lemmas.List.Elements.{All-from_recursion, recursion_from_All}
use Rattle.agg_values.specs.Names.{Named, put, value_of}
use Rattle.agg_values.specs.Tuple.{KeyTuple}
use Rattle.agg_values.specs.TypedKey.{CompositeIntermediateKey, canonical_key, typed_number}
use Rattle.agg_values.specs.declared.after_key.AfterKey.{AfterKey}
use Rattle.agg_values.specs.declared.typed_key.CompositeIntermediateKey.TheVariants.{
  Bool as Truth,
  Str,
  I64,
  U64,
  DateTime,
  IpAddr,
  Null,
}
use Rattle.agg_segment.specs.storage.Document.{Fields}
use Rattle.agg_request_tree.specs.declared.aggregation.CompositeAggregation.{CompositeAggregation}
use Rattle.agg_request_tree.specs.declared.source.CompositeAggregationSource as kind
use kind.{CompositeAggregationSource}
use kind.TheVariants.{Terms, Histogram, DateHistogram}
use Rattle.agg_request_tree.specs.BySource.{after_map}
use Rattle.agg_request_tree.specs.Faults.{HaveOwnNames}
use Rattle.agg_request_tree.specs.Faults.{IsNullAfter, IsOfOtherType, IsOtherAfter}
use Rattle.agg_request_tree.specs.Occurrences.{occurrences}
use Rattle.agg_request_tree.specs.Source.{Sources, after_of, field_of, keys_in, missing_bucket_of}
use Rattle.agg_request_tree.specs.Source.{is_from, min_of, name_of}
use Rattle.agg_request_tree.specs.Source.{or_missing, source_values, start_in, values_at}
use Rattle.agg_request_tree.specs.Source.{values_from}
use Rattle.agg_request_tree.proofs.Lists.{AllByRecursion-Has, AllByRecursion-always}
use Rattle.agg_request_tree.proofs.Lists.{AllByRecursion-filter, AllByRecursion-flat_map}
use Rattle.agg_request_tree.proofs.Lists.{AllByRecursion-map, AllByRecursion-weaker}
use Rattle.agg_request_tree.proofs.Lists.{Has-from_Contains}
use Rattle.agg_request_tree.proofs.PairedLists.{zip_weaker}
use Rattle.agg_request_tree.proofs.PageAfter.{apart_first, value_of-put, value_of-put_other}

-- ---- after values

-- this key is the after value of a source
abbrev pub IsAfterValue : Named AfterKey → CompositeAggregationSource → CompositeIntermediateKey
    → Type 0
IsAfterValue after source k = value_of (name_of source) after ≡ Some (record { 0 = k })

-- in the after key of a tuple, the after value of each source is its key of the tuple
pub after_map-values : (sources : Sources) (tuple : KeyTuple) → HaveOwnNames sources
    → length tuple ≡ length sources → AllZip (IsAfterValue (after_map sources tuple)) sources tuple
after_map-values [] [] apart whole = tt
after_map-values [] (k ∷ keys) apart whole = absurd (omega arith)
after_map-values (source ∷ sources) [] apart whole = absurd (omega arith)
after_map-values (source ∷ sources) (k ∷ keys) apart whole =
    let later = after_map sources keys in
    let own : AfterKey = record { 0 = k } in (
      value_of-put (name_of source) own later,
      zip_weaker (λ s. name_of s ≢ name_of source) (IsAfterValue later)
          (IsAfterValue (put (name_of source) own later))
          (λ s key differs same.
          value_of-put_other (name_of s) (name_of source) own later differs ∙ same)
          sources keys (apart_first source sources apart)
          (after_map-values sources keys
          (λ i j d before within. apart (suc i) (suc j) d (omega arith) (omega arith))
          (omega arith)),
    )

-- ---- Null

-- a key of a source is Null only where the source has a bucket for a missing value
abbrev pub IsNullByBucket : CompositeAggregationSource → CompositeIntermediateKey → Type 0
IsNullByBucket source k = k ≡ Null → missing_bucket_of source ≡ true

-- the canonical key of a key that isn't Null isn't
canonical_key-not_Null : (k : CompositeIntermediateKey) → k ≢ Null → canonical_key k ≢ Null
canonical_key-not_Null (I64 n) other =
    cond_both (int_lt n (pos (2 ^ 63))) (I64 n) (U64 (unsigned_abs n)) (λ k. k ≢ Null)
    (λ _ same. cc same) (λ _ same. cc same)
canonical_key-not_Null (U64 n) other =
    cond_both (nat_lt n (2 ^ 63)) (I64 (pos n)) (U64 n) (λ k. k ≢ Null) (λ _ same. cc same)
    (λ _ same. cc same)
canonical_key-not_Null (Truth b) other = other
canonical_key-not_Null (Str text) other = other
canonical_key-not_Null (DateTime ns) other = other
canonical_key-not_Null (IpAddr address) other = other
canonical_key-not_Null Null other = other

-- a typed number isn't Null
typed_number-not_Null : (n : ℤ) → typed_number n ≢ Null
typed_number-not_Null n =
    cond_both (int_lt n (pos (2 ^ 63))) (I64 n) (U64 (unsigned_abs n)) (λ k. k ≢ Null)
    (λ _ same. cc same) (λ _ same. cc same)

-- the keys that a source gives for values that aren't Null aren't
keys_in-not_Null : (source : CompositeAggregationSource) (values : KeyTuple)
    → AllByRecursion (λ k. k ≢ Null) values → AllByRecursion (λ k. k ≢ Null) (keys_in source values)
keys_in-not_Null (Terms s) values others = others
keys_in-not_Null (Histogram s) values others =
    let starts = filter_map (start_in (Histogram s)) values in
    AllByRecursion-map (λ k. k ≢ Null) typed_number starts
    (AllByRecursion-always (λ n. typed_number n ≢ Null) typed_number-not_Null starts)
keys_in-not_Null (DateHistogram s) values others =
    let starts = filter_map (start_in (DateHistogram s)) values in
    AllByRecursion-map (λ k. k ≢ Null) DateTime starts
    (AllByRecursion-always (λ ns. DateTime ns ≢ Null) (λ ns same. cc same) starts)

-- Null is among the keys or Null only where a missing value has a bucket
or_missing-Null : (missing : Bool) (keys : KeyTuple) → AllByRecursion (λ k. k ≢ Null) keys
    → AllByRecursion (λ k. k ≡ Null → missing ≡ true) (or_missing missing keys)
or_missing-Null true [] others = ((λ _. refl), tt)
or_missing-Null false [] others = tt
or_missing-Null missing (k ∷ keys) others =
    AllByRecursion-weaker (λ k. k ≢ Null) (λ k. k ≡ Null → missing ≡ true)
    (λ k other same. absurd (other same)) (k ∷ keys) others

-- the keys that a source reads
source_values-Null : (source : CompositeAggregationSource) (document : Fields)
    → All (λ k. k ≢ Null) (document (field_of source))
    → AllByRecursion (IsNullByBucket source) (source_values source document)
source_values-Null source document others =
    or_missing-Null (missing_bucket_of source) _
    (keys_in-not_Null source (values_from source document)
    (AllByRecursion-filter (λ k. k ≢ Null) (is_from (min_of source))
    (values_at (field_of source) document)
    (AllByRecursion-map (λ k. k ≢ Null) canonical_key (document (field_of source))
    (AllByRecursion-weaker (λ k. k ≢ Null) (λ k. canonical_key k ≢ Null) canonical_key-not_Null
    (document (field_of source))
    (recursion_from_All (λ k. k ≢ Null) (document (field_of source)) others)))))

-- what holds of the keys that each source reads in a document holds place by place of its tuples
occurrences-zip : (R : CompositeAggregationSource → CompositeIntermediateKey → Type 0)
    (document : Fields)
    → ((source : CompositeAggregationSource)
    → AllByRecursion (R source) (source_values source document))
    → (sources : Sources) → AllByRecursion (AllZip R sources) (occurrences sources document)
occurrences-zip R document each [] = (tt, tt)
occurrences-zip R document each (source ∷ sources) =
    AllByRecursion-flat_map (AllZip R (source ∷ sources))
    (λ k. map (λ t. k ∷ t) (occurrences sources document)) (source_values source document)
    (AllByRecursion-weaker (R source) _
    (λ k key. AllByRecursion-map (AllZip R (source ∷ sources)) (λ t. k ∷ t)
    (occurrences sources document)
    (AllByRecursion-weaker (AllZip R sources) _ (λ t rest. (key, rest))
    (occurrences sources document) (occurrences-zip R document each sources)))
    (source_values source document)
    (each source))

-- in a tuple of a document without Null, a key is Null only where its source has such a bucket
pub occurrence-Null : (sources : Sources) (document : Fields) (tuple : KeyTuple)
    → ((field : List ℕ) → All (λ k. k ≢ Null) (document field))
    → Contains (occurrences sources document) tuple → AllZip IsNullByBucket sources tuple
occurrence-Null sources document tuple others occurs =
    AllByRecursion-Has (AllZip IsNullByBucket sources) (occurrences sources document) tuple
    (occurrences-zip IsNullByBucket document
    (λ source. source_values-Null source document (others (field_of source))) sources)
    (Has-from_Contains (occurrences sources document) tuple occurs)

-- where each after value is its key of such a tuple, Null stands only where it may
pub after_value-no_Null : (after : Named AfterKey) (sources : Sources) (tuple : KeyTuple)
    → AllZip (IsAfterValue after) sources tuple → AllZip IsNullByBucket sources tuple
    → AllByRecursion (λ source. ¬ (IsNullAfter source (after_of after source))) sources
after_value-no_Null after [] [] values buckets = tt
after_value-no_Null after [] (k ∷ keys) values buckets = tt
after_value-no_Null after (source ∷ sources) [] values buckets = absurd values
after_value-no_Null after (source ∷ sources) (k ∷ keys) values buckets =
    let is : after_of after source ≡ Some k = ap (option_map (λ (a : AfterKey). a.0)) values.0 in (
      λ h. false≢true (sym h.1 ∙ buckets.0 (ap (λ o. unwrap_or o Null) (sym is ∙ h.0))),
      after_value-no_Null after sources keys values.1 buckets.1,
    )

-- a composite that goes on past a tuple of a document without Null has no fault of its after key
pub after_map-sound : (composite : CompositeAggregation) (document : Fields) (tuple : KeyTuple)
    → composite.after ≡ after_map composite.sources tuple → HaveOwnNames composite.sources
    → length tuple ≡ length composite.sources
    → ((field : List ℕ) → All (λ k. k ≢ Null) (document field))
    → Contains (occurrences composite.sources document) tuple
    → All (λ source. ¬ (IsNullAfter source (after_of composite.after source))) composite.sources
after_map-sound composite document tuple is apart whole others occurs =
    let sources = composite.sources in
    All-from_recursion (λ source. ¬ (IsNullAfter source (after_of composite.after source))) sources
    (after_value-no_Null composite.after sources tuple
    (subst (λ after. AllZip (IsAfterValue after) sources tuple) (sym is)
    (after_map-values sources tuple apart whole))
    (occurrence-Null sources document tuple others occurs))

-- ---- types

-- a key isn't of another type than those of a source
abbrev pub IsOfOwnType : CompositeAggregationSource → CompositeIntermediateKey → Type 0
IsOfOwnType source k = ¬ (IsOfOtherType source k)

-- the keys that a source gives are of its type
keys_in-own : (source : CompositeAggregationSource) (values : KeyTuple)
    → AllByRecursion (IsOfOwnType source) (keys_in source values)
keys_in-own (Terms s) values = AllByRecursion-always (IsOfOwnType (Terms s)) (λ k h. h) values
keys_in-own (Histogram s) values =
    let starts = filter_map (start_in (Histogram s)) values in
    AllByRecursion-map (IsOfOwnType (Histogram s)) typed_number starts
    (AllByRecursion-always (λ n. IsOfOwnType (Histogram s) (typed_number n))
    (λ n. cond_both (int_lt n (pos (2 ^ 63))) (I64 n) (U64 (unsigned_abs n))
    (IsOfOwnType (Histogram s)) (λ _ h. h) (λ _ h. h)) starts)
keys_in-own (DateHistogram s) values =
    let starts = filter_map (start_in (DateHistogram s)) values in
    AllByRecursion-map (IsOfOwnType (DateHistogram s)) DateTime starts
    (AllByRecursion-always (λ ns. IsOfOwnType (DateHistogram s) (DateTime ns)) (λ ns h. h) starts)

-- Null is of no other type
Null-own : (source : CompositeAggregationSource) → IsOfOwnType source Null
Null-own (Terms s) h = h
Null-own (Histogram s) h = h
Null-own (DateHistogram s) h = h

or_missing-own : (source : CompositeAggregationSource) (missing : Bool) (keys : KeyTuple)
    → AllByRecursion (IsOfOwnType source) keys
    → AllByRecursion (IsOfOwnType source) (or_missing missing keys)
or_missing-own source true [] own = (Null-own source, tt)
or_missing-own source false [] own = tt
or_missing-own source missing (k ∷ keys) own = own

-- the keys of a tuple of a document are of their sources' types
pub occurrence-own : (sources : Sources) (document : Fields) (tuple : KeyTuple)
    → Contains (occurrences sources document) tuple → AllZip IsOfOwnType sources tuple
occurrence-own sources document tuple occurs =
    AllByRecursion-Has (AllZip IsOfOwnType sources) (occurrences sources document) tuple
    (occurrences-zip IsOfOwnType document
    (λ source. or_missing-own source (missing_bucket_of source) _
    (keys_in-own source (values_from source document))) sources)
    (Has-from_Contains (occurrences sources document) tuple occurs)

-- where each after value is its key of such a tuple, none is of another type
after_value-own : (after : Named AfterKey) (sources : Sources) (tuple : KeyTuple)
    → AllZip (IsAfterValue after) sources tuple → AllZip IsOfOwnType sources tuple
    → AllByRecursion (λ source. ¬ (IsOtherAfter source (after_of after source))) sources
after_value-own after [] [] values own = tt
after_value-own after [] (k ∷ keys) values own = tt
after_value-own after (source ∷ sources) [] values own = absurd values
after_value-own after (source ∷ sources) (k ∷ keys) values own =
    let is : after_of after source ≡ Some k = ap (option_map (λ (a : AfterKey). a.0)) values.0 in (
      λ h. own.0 (subst (IsOtherAfter source) is h),
      after_value-own after sources keys values.1 own.1,
    )

-- a composite that goes on past a tuple of a document has after values of its sources' types
pub after_map-own : (composite : CompositeAggregation) (document : Fields) (tuple : KeyTuple)
    → composite.after ≡ after_map composite.sources tuple → HaveOwnNames composite.sources
    → length tuple ≡ length composite.sources
    → Contains (occurrences composite.sources document) tuple
    → All (λ source. ¬ (IsOtherAfter source (after_of composite.after source))) composite.sources
after_map-own composite document tuple is apart whole occurs =
    let sources = composite.sources in
    All-from_recursion (λ source. ¬ (IsOtherAfter source (after_of composite.after source))) sources
    (after_value-own composite.after sources tuple
    (subst (λ after. AllZip (IsAfterValue after) sources tuple) (sym is)
    (after_map-values sources tuple apart whole))
    (occurrence-own sources document tuple occurs))
