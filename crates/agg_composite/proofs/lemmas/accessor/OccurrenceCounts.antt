-- How many keys a source reads in a document, by the columns of its accessors.
use Rattle.std.proofs.Common.{◌≡◌, ◌<◌, ◌≤◌, ◌+◌, ℕ, zero, suc, List, [], ◌∷◌, true, false, get_or}
use Rattle.std.proofs.Common.{length, length-append, map, max, min, reverse, refl, sym, ap, ◌∙◌}
use Rattle.std.proofs.Common.{Bool, filter, subst, arith}
use Rattle.std.specs.List.{flat_map}
use Rattle.std.proofs.lemmas.List.{append-nil, reverse-append}
use Rattle.std.proofs.lemmas.List.Concat.{flat_map-append, flat_map-cons}
use Rattle.std.proofs.lemmas.List.Elements.{filter-append}
use Rattle.agg_values.specs.Names.{Named}
use Rattle.agg_values.specs.Tuple.{KeyTuple}
use Rattle.agg_values.specs.TypedKey.{CompositeIntermediateKey, canonical_key}
use Rattle.agg_values.specs.declared.after_key.AfterKey.{AfterKey}
use Rattle.agg_values.specs.declared.order.Order.{Order}
use Rattle.agg_values.specs.declared.order.Order.TheVariants.{Asc, Desc}
use Rattle.agg_segment.specs.storage.Columns.{StoredColumn, all_keys, column_keys}
use Rattle.agg_segment.specs.storage.Document.{Fields}
use Rattle.agg_segment.specs.Segment.{Stored, columns_in, document_at}
use Rattle.agg_request_tree.specs.Source.{Sources, after_of, field_of, is_from, keys_in}
use Rattle.agg_request_tree.specs.Source.{min_of, missing_bucket_of, or_missing, order_of}
use Rattle.agg_request_tree.specs.Source.{source_values, values_from}
use Rattle.agg_request_tree.specs.declared.source.CompositeAggregationSource as kind
use kind.{CompositeAggregationSource}
use Rattle.agg_composite.proofs.lemmas.accessor.ReadCounts.{length-read}
use Rattle.agg_composite.specs.accessor.Accessors.{AllFit, AreAccessorsOf, AreOfField}
use Rattle.agg_composite.specs.accessor.Lanes.{columns_of, in_requested}
use Rattle.agg_composite.specs.declared.accessor.accessor.CompositeAccessor.{CompositeAccessor}
use Rattle.agg_composite.specs.declared.accessor.accessor.CompositeSourceAccessors.{
  CompositeSourceAccessors,
}
use Rattle.agg_composite.proofs.lemmas.accessor.FieldColumns.{columns-keys}

-- ---- one source

-- columns have as many keys that pass the other way round
length-reversed : (p : CompositeIntermediateKey → Bool) (columns : List StoredColumn) (doc : ℕ)
    → length (filter p (all_keys (reverse columns) doc))
    ≡ length (filter p (all_keys columns doc))
length-reversed p [] doc = refl
length-reversed p (c ∷ columns) doc =
    let keys = λ (column : StoredColumn). column_keys column doc in
    let turned : length (filter p (all_keys (reverse (c ∷ columns)) doc))
    ≡ length (filter p (all_keys (reverse columns) doc))
    + length (filter p (flat_map keys (c ∷ []))) =
    ap (λ cs. length (filter p (all_keys cs doc))) (reverse-append (c ∷ []) columns)
    ∙ ap (λ ks. length (filter p ks)) (flat_map-append keys (reverse columns) (c ∷ []))
    ∙ ap length (filter-append p (all_keys (reverse columns) doc) (flat_map keys (c ∷ [])))
    ∙ length-append (filter p (all_keys (reverse columns) doc))
    (filter p (flat_map keys (c ∷ []))) in
    let one : length (filter p (flat_map keys (c ∷ []))) ≡ length (filter p (keys c)) =
    ap (λ ks. length (filter p ks)) (flat_map-cons keys c [] ∙ append-nil (keys c)) in
    let whole : length (filter p (all_keys (c ∷ columns) doc))
    ≡ length (filter p (keys c)) + length (filter p (all_keys columns doc)) =
    ap (λ ks. length (filter p ks)) (flat_map-cons keys c columns)
    ∙ ap length (filter-append p (keys c) (all_keys columns doc))
    ∙ length-append (filter p (keys c)) (filter p (all_keys columns doc)) in
    let rest = length-reversed p columns doc in
    omega arith

-- columns have as many keys that pass in the requested order
length-requested : (p : CompositeIntermediateKey → Bool) (order : Order)
    (columns : List StoredColumn) (doc : ℕ)
    → length (filter p (all_keys (in_requested order columns) doc))
    ≡ length (filter p (all_keys columns doc))
length-requested p Asc columns doc = refl
length-requested p Desc columns doc = length-reversed p columns doc

-- the columns of a source's accessors have as many keys that aren't below its least value as it
-- gives for the values that it reads in its field
pub length-in_columns : (segment : Stored) (source : CompositeAggregationSource)
    (accessors : List CompositeAccessor) → AreOfField segment source accessors → (doc : ℕ)
    → length (filter (is_from (min_of source)) (all_keys (columns_of accessors) doc))
    ≡ length (keys_in source (values_from source (document_at segment doc)))
length-in_columns segment source accessors of_field doc =
    let from = is_from (min_of source) in
    sym (length-requested from (order_of source) (columns_of accessors) doc)
    ∙ ap (λ cs. length (filter from (all_keys cs doc))) of_field.columns
    ∙ length-read source (columns_in segment (field_of source)) doc
    ∙ ap (λ ks. length (keys_in source (filter from (map canonical_key ks))))
    (columns-keys segment (field_of source) doc)

-- ---- one of the sources

-- each source has its accessors
pub fits-at : (segment : Stored) (after : Named AfterKey) (sources : Sources)
    (accessors : List CompositeSourceAccessors) (i : ℕ) (source : CompositeAggregationSource)
    (a : CompositeSourceAccessors) → i < length sources
    → source ≡ get_or sources i source → a ≡ get_or accessors i a
    → AllFit segment after sources accessors
    → AreAccessorsOf segment source (after_of after source) a
fits-at segment after [] accessors i source a l s_is a_is fit = absurd (omega arith)
fits-at segment after (s ∷ sources) [] i source a l s_is a_is fit = absurd fit
fits-at segment after (s ∷ sources) (b ∷ accessors) zero source a l s_is a_is fit =
    subst (λ (p : CompositeAggregationSource × CompositeSourceAccessors).
    AreAccessorsOf segment p.0 (after_of after p.0) p.1) (λ x. (sym s_is x, sym a_is x)) fit.0
fits-at segment after (s ∷ sources) (b ∷ accessors) (suc i) source a l s_is a_is fit =
    fits-at segment after sources accessors i source a (omega (arith, l)) s_is a_is fit.1

-- ---- Null

-- where a missing value has a bucket, a source has one key at least
or_missing-bucket : (keys : KeyTuple) → length (or_missing true keys) ≡ max (length keys) 1
or_missing-bucket [] = refl
or_missing-bucket (k ∷ keys) = omega arith

or_missing-none : (keys : KeyTuple) → length (or_missing false keys) ≡ length keys
or_missing-none [] = refl
or_missing-none (k ∷ keys) = refl

-- as numbers that are cut
module _ (source : CompositeAggregationSource) (document : Fields) (n most : ℕ) (some : 1 ≤ most)
    (is : n ≡ min (length (keys_in source (values_from source document))) most) where
  abbrev keys : KeyTuple
  keys = keys_in source (values_from source document)

  pub source-bucket : missing_bucket_of source ≡ true
      → max n 1 ≡ min (length (source_values source document)) most
  source-bucket missing =
      let as_many = ap (λ b. length (or_missing b keys)) missing ∙ or_missing-bucket keys in
      omega arith

  pub source-none : missing_bucket_of source ≡ false
      → n ≡ min (length (source_values source document)) most
  source-none missing =
      let as_many = ap (λ b. length (or_missing b keys)) missing ∙ or_missing-none keys in
      omega arith
