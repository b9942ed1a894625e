-- Documents with the same keys by class have the same occurrences in another order.
use Rattle.std.proofs.Common.{◌≡◌, ℕ, List, [], ◌∷◌, Bool, map}
use Rattle.std.proofs.Common.{subst}
use Rattle.agg_values.specs.Tuple.{KeyTuple}
use Rattle.agg_values.specs.TypedKey.{canonical_key, typed_number}
use Rattle.agg_values.specs.declared.typed_key.CompositeIntermediateKey.TheVariants.{
  Bool as Truth,
  Str,
  I64,
  U64,
  DateTime,
  IpAddr,
  Null,
}
use Rattle.agg_segment.specs.storage.Document.{Fields, by_class, of_class}
use Rattle.agg_request_tree.specs.Alike.{AreAlikeByClass}
use Rattle.agg_request_tree.specs.Occurrences.{occurrences}
use Rattle.agg_request_tree.specs.Source.{Sources, field_of, is_from, keys_in, min_of}
use Rattle.agg_request_tree.specs.Source.{missing_bucket_of, or_missing, source_values, start_in}
use Rattle.agg_request_tree.specs.Source.{values_at, values_from}
use Rattle.agg_request_tree.specs.declared.source.CompositeAggregationSource as kind
use kind.{CompositeAggregationSource}
use kind.TheVariants.{Terms, Histogram, DateHistogram}
use Rattle.agg_request_tree.proofs.Reorderings.{IsReordering, same, later, exchange, joined}
use Rattle.agg_request_tree.proofs.Reorderings.{IsReordering-each, IsReordering-filter}
use Rattle.agg_request_tree.proofs.Reorderings.{IsReordering-filter_map, IsReordering-flat_map}
use Rattle.agg_request_tree.proofs.Reorderings.{IsReordering-further, IsReordering-map}
use Rattle.agg_request_tree.proofs.Reorderings.{IsReordering-sym}

-- ---- of the keys of a field

-- the keys put by class are the keys in another order
by_class-reordering : (ks : KeyTuple) → IsReordering ks (by_class ks)
unfolding by_class
by_class-reordering [] = same
by_class-reordering (Null ∷ ks) = later (by_class-reordering ks)
by_class-reordering (Truth b ∷ ks) =
    joined (later (by_class-reordering ks)) (IsReordering-further (of_class ks 0) same)
by_class-reordering (Str text ∷ ks) =
    joined (later (by_class-reordering ks))
    (IsReordering-further (of_class ks 0) (IsReordering-further (of_class ks 1) same))
by_class-reordering (I64 n ∷ ks) =
    joined (later (by_class-reordering ks))
    (IsReordering-further (of_class ks 0) (IsReordering-further (of_class ks 1)
    (IsReordering-further (of_class ks 2) same)))
by_class-reordering (U64 n ∷ ks) =
    joined (later (by_class-reordering ks))
    (IsReordering-further (of_class ks 0) (IsReordering-further (of_class ks 1)
    (IsReordering-further (of_class ks 2) same)))
by_class-reordering (IpAddr address ∷ ks) =
    joined (later (by_class-reordering ks))
    (IsReordering-further (of_class ks 0) (IsReordering-further (of_class ks 1)
    (IsReordering-further (of_class ks 2) (IsReordering-further (of_class ks 3) same))))
by_class-reordering (DateTime ns ∷ ks) =
    joined (later (by_class-reordering ks))
    (IsReordering-further (of_class ks 0) (IsReordering-further (of_class ks 1)
    (IsReordering-further (of_class ks 2) (IsReordering-further (of_class ks 3)
    (IsReordering-further (of_class ks 4) same)))))

-- keys that are equal by class are equal in another order
pub keys-reordering : (ks ls : KeyTuple) → by_class ks ≡ by_class ls → IsReordering ks ls
keys-reordering ks ls alike =
    joined (subst (IsReordering ks) alike (by_class-reordering ks))
    (IsReordering-sym (by_class-reordering ls))

-- ---- of what sources read

module _ (document other : Fields) (alike : AreAlikeByClass document other) where
  -- the values of a field
  pub values_at-reordering : (field : List ℕ)
      → IsReordering (values_at field document) (values_at field other)
  values_at-reordering field =
      IsReordering-map canonical_key (keys-reordering (document field) (other field) (alike field))

  -- those that a source reads
  pub values_from-reordering : (source : CompositeAggregationSource)
      → IsReordering (values_from source document) (values_from source other)
  values_from-reordering source =
      IsReordering-filter (is_from (min_of source)) (values_at-reordering (field_of source))

  -- the keys that a source gives for values
  keys_in-reordering : (source : CompositeAggregationSource) {ks ls : KeyTuple}
      → IsReordering ks ls → IsReordering (keys_in source ks) (keys_in source ls)
  keys_in-reordering (Terms s) r = r
  keys_in-reordering (Histogram s) r =
      IsReordering-map typed_number (IsReordering-filter_map (start_in (Histogram s)) r)
  keys_in-reordering (DateHistogram s) r =
      IsReordering-map DateTime (IsReordering-filter_map (start_in (DateHistogram s)) r)

  -- the keys, or one Null where there is none
  or_missing-reordering : (missing : Bool) {ks ls : KeyTuple}
      → IsReordering ks ls → IsReordering (or_missing missing ks) (or_missing missing ls)
  or_missing-reordering missing same = same
  or_missing-reordering missing (later r) = later r
  or_missing-reordering missing exchange = exchange
  or_missing-reordering missing (joined r s) =
      joined (or_missing-reordering missing r) (or_missing-reordering missing s)

  -- the keys that a source reads
  source_values-reordering : (source : CompositeAggregationSource)
      → IsReordering (source_values source document) (source_values source other)
  source_values-reordering source =
      or_missing-reordering (missing_bucket_of source)
      (keys_in-reordering source (values_from-reordering source))

  -- the occurrences of a document
  pub occurrences-reordering : (sources : Sources)
      → IsReordering (occurrences sources document) (occurrences sources other)
  occurrences-reordering [] = same
  occurrences-reordering (source ∷ sources) =
      joined (IsReordering-flat_map (λ k. map (λ t. k ∷ t) (occurrences sources document))
      (source_values-reordering source))
      (IsReordering-each (λ k. map (λ t. k ∷ t) (occurrences sources document))
      (λ k. map (λ t. k ∷ t) (occurrences sources other))
      (λ k. IsReordering-map (λ t. k ∷ t) (occurrences-reordering sources))
      (source_values source other))
