-- The choices of a document stand for its tuples, and say which of them lie past the bound.
use Rattle.std.proofs.Common.{◌≡◌, ℕ, suc, List, [], ◌∷◌, Bool, false, length, map, filter}
use Rattle.std.proofs.Common.{All, refl, sym, ap, ◌∙◌, subst, inl, inr, arith}
use Rattle.std.specs.List.{AllZip, flat_map}
use Rattle.std.proofs.lemmas.List.{append-nil, map-id}
use Rattle.std.proofs.lemmas.List.Elements.{All-from_recursion, recursion_from_All}
use Rattle.agg_values.specs.Names.{Named}
use Rattle.agg_values.specs.Tuple.{KeyTuple}
use Rattle.agg_values.specs.TypedKey.{CompositeIntermediateKey, canonical_key}
use Rattle.agg_values.specs.declared.after_key.AfterKey.{AfterKey}
use Rattle.agg_segment.specs.Segment.{Stored, document_at, documents_at}
use Rattle.agg_request_tree.specs.Occurrences.{bound_of, is_past, occurrences, past_occurrences}
use Rattle.agg_request_tree.specs.Ranges.{AreInRange, IsInRange}
use Rattle.agg_request_tree.specs.Source.{Sources, field_of, is_from, keys_in, min_of}
use Rattle.agg_request_tree.specs.Source.{missing_bucket_of, or_missing, rules_of}
use Rattle.agg_request_tree.specs.Source.{source_values, values_from}
use Rattle.agg_request_tree.specs.declared.source.CompositeAggregationSource as kind
use kind.{CompositeAggregationSource}
use Rattle.agg_request_tree.specs.Source.{after_of}
use Rattle.agg_composite.specs.accessor.Accessors.{AllFit, AreAccessorsOf, keys_in_columns}
use Rattle.agg_composite.specs.accessor.Accessors.{keys_read, side_to}
use Rattle.agg_composite.specs.Choices.{AreChoicesIn, AreChoicesOf, CanRead, IsChoiceOf}
use Rattle.agg_composite.specs.Choices.{values_read}
use Rattle.agg_composite.specs.accessor.Encoding.{EncodedTuple, StandFor, StandsFor}
use Rattle.agg_composite.specs.accessor.Lanes.{keys_at}
use Rattle.agg_composite.specs.Walk.{walked}
use Rattle.agg_composite.specs.declared.accessor.accessor.CompositeSourceAccessors.{
  CompositeSourceAccessors,
}
use Rattle.agg_composite.specs.declared.walk.choice.Choice.{Choice}
use Rattle.agg_composite.proofs.CanonicalKeys.{canonical}
use Rattle.agg_composite.proofs.lemmas.accessor.FieldColumns.{keys-of_field, starts-of_field}
use Rattle.agg_composite.proofs.lemmas.accessor.KeysGiven.{keys_in-canonical, range-alike}
use Rattle.agg_composite.proofs.lemmas.accessor.KeysGiven.{starts-canonical}
use Rattle.agg_composite.proofs.lemmas.accessor.LeastValues.{values-from_canonical}
use Rattle.agg_composite.proofs.NullStanding.{null-standing}
use Rattle.agg_composite.proofs.Pairs.{AllZip-filter, AllZip-flat_map, AllZip-map, AllZip-weaker}
use Rattle.agg_composite.proofs.PastSides.{is_past-sides, sides_to}
use Rattle.agg_composite.proofs.Product.{product, sides_of, sides_past, values_of, walked-past}

-- ---- canonical keys

canonical-choice : (source : CompositeAggregationSource) (a : CompositeSourceAccessors) (c : Choice)
    (k : CompositeIntermediateKey) → IsChoiceOf source a c k → canonical_key k ≡ k
canonical-choice source a c k (inl p) = ap canonical_key p.1 ∙ sym p.1
canonical-choice source a c k (inr (i, n, l, fits, in_n, c_is, k_is)) =
    ap canonical_key k_is ∙ canonical (keys_at source a.accessors i) n fits ∙ sym k_is

-- the keys that choices are of are canonical
pub canonical-choices : (source : CompositeAggregationSource) (a : CompositeSourceAccessors)
    (choices : List Choice) (keys : List CompositeIntermediateKey)
    → AreChoicesOf source a choices keys → map canonical_key keys ≡ keys
canonical-choices source a [] [] p = refl
canonical-choices source a [] (k ∷ keys) p = absurd p
canonical-choices source a (c ∷ choices) [] p = absurd p
canonical-choices source a (c ∷ choices) (k ∷ keys) p =
    let first = canonical-choice source a c k p.0 in
    let rest = canonical-choices source a choices keys p.1 in
    λ i. first i ∷ rest i

without-missing : (b : Bool) (keys : List CompositeIntermediateKey)
    → map canonical_key (or_missing b keys) ≡ or_missing b keys → map canonical_key keys ≡ keys
without-missing b [] e = refl
without-missing b (k ∷ keys) e = e

module _ (segment : Stored) (after : Named AfterKey) where
  -- the values of a source's field that aren't below its least one, as they stand in the segment
  abbrev values_in : CompositeAggregationSource → ℕ → List CompositeIntermediateKey
  values_in source doc =
      filter (is_from (min_of source)) (document_at segment doc (field_of source))

  -- they are the values that the source reads
  values-are_read : (source : CompositeAggregationSource) (doc : ℕ)
      → map canonical_key (values_in source doc) ≡ values_from source (document_at segment doc)
  values-are_read source doc =
      sym (values-from_canonical (min_of source) (document_at segment doc (field_of source)))

  -- the keys that are read are the values of the source
  values-are : (source : CompositeAggregationSource) (a : CompositeSourceAccessors) (doc : ℕ)
      (choices : List Choice)
      → AreAccessorsOf segment source (after_of after source) a
      → AreChoicesOf source a choices (values_read source a doc)
      → values_read source a doc ≡ source_values source (document_at segment doc)
  values-are source a doc choices fit p =
      let keys = keys_read source a.accessors doc in
      let same = without-missing (missing_bucket_of source) keys
      (canonical-choices source a choices (values_read source a doc) p) in
      ap (or_missing (missing_bucket_of source))
      (sym same ∙ ap (map canonical_key) (keys-of_field segment source a.accessors fit.columns doc)
      ∙ sym (keys_in-canonical source (values_in source doc))
      ∙ ap (keys_in source) (values-are_read source doc))

  -- ---- a choice

  -- a choice stands for a key, and says how the key stands to the after value
  abbrev pub Sided : CompositeAggregationSource → CompositeSourceAccessors → Choice
      → CompositeIntermediateKey → Type 0
  Sided source a c k =
      StandsFor source a.accessors c.value k × (c.side ≡ side_to source (after_of after source) k)

  choice-sided : (source : CompositeAggregationSource) (a : CompositeSourceAccessors)
      → AreAccessorsOf segment source (after_of after source) a
      → (c : Choice) (k : CompositeIntermediateKey) → IsChoiceOf source a c k → Sided source a c k
  choice-sided source a fit c k (inl p) = (
    inl (ap (λ x. x.value) p.0, p.1),
    ap (λ x. x.side) p.0
        ∙ null-standing source (after_of after source) a.skip_missing
        a.is_after_key_explicit_missing fit.skip fit.explicit
        ∙ ap (side_to source (after_of after source)) (sym p.1),
  )
  choice-sided source a fit c k (inr (i, n, l, fits, in_n, c_is, k_is)) = (
    inr (i, n, l, fits, in_n, ap (λ x. x.value) c_is, k_is),
    ap (λ x. x.side) c_is
        ∙ fit.sides i n l in_n
        ∙ ap (side_to source (after_of after source)) (sym k_is),
  )

  -- choices say their sides
  pub choices-sided : (source : CompositeAggregationSource) (a : CompositeSourceAccessors)
      (choices : List Choice) (keys : List CompositeIntermediateKey)
      → AreAccessorsOf segment source (after_of after source) a
      → AreChoicesOf source a choices keys → AllZip (Sided source a) choices keys
  choices-sided source a choices keys fit p =
      AllZip-weaker (IsChoiceOf source a) (Sided source a) (choice-sided source a fit) choices
      keys p

  -- ---- tuples

  -- the choices of a tuple stand for its keys, and say how these stand to the after values
  abbrev TupleReads : Sources → List CompositeSourceAccessors → List Choice → KeyTuple → Type 0
  TupleReads sources accessors choices keys =
      StandFor sources accessors (values_of choices) keys
      × (sides_of choices ≡ sides_to sources after keys)

  more-source : (source : CompositeAggregationSource) (sources : Sources)
      (a : CompositeSourceAccessors) (accessors : List CompositeSourceAccessors)
      (choices : List Choice) (keys : List CompositeIntermediateKey)
      (tuples : List (List Choice)) (others : List KeyTuple)
      → AllZip (Sided source a) choices keys → AllZip (TupleReads sources accessors) tuples others
      → AllZip (TupleReads (source ∷ sources) (a ∷ accessors))
      (flat_map (λ c. map (λ t. c ∷ t) tuples) choices)
      (flat_map (λ k. map (λ t. k ∷ t) others) keys)
  more-source source sources a accessors choices keys tuples others p q =
      AllZip-flat_map (Sided source a) (TupleReads (source ∷ sources) (a ∷ accessors))
      (λ c. map (λ t. c ∷ t) tuples) (λ k. map (λ t. k ∷ t) others)
      (λ c k r. AllZip-map (TupleReads sources accessors)
      (TupleReads (source ∷ sources) (a ∷ accessors)) (λ t. c ∷ t) (λ t. k ∷ t)
      (λ t us s. ((r.0, s.0), (λ i. r.1 i ∷ s.1 i))) tuples others q)
      choices keys p

  -- accessors can be read where the starts of the values of their field lie within i64
  pub can-read : (source : CompositeAggregationSource) (a : CompositeSourceAccessors) (doc : ℕ)
      → AreAccessorsOf segment source (after_of after source) a
      → All (IsInRange source) (values_from source (document_at segment doc))
      → CanRead source a doc
  can-read source a doc fit range =
      let keys = keys_in_columns source a.accessors doc in
      let values = values_in source doc in
      record {
        interval = fit.columns.interval;
        each = fit.columns.each;
        least = fit.least;
        range = All-from_recursion (IsInRange source) keys
            (range-alike source keys (map canonical_key values)
            (starts-of_field segment source a.accessors fit.columns doc
            ∙ sym (starts-canonical source values))
            (recursion_from_All (IsInRange source) (map canonical_key values)
            (subst (All (IsInRange source)) (sym (values-are_read source doc)) range)));
      }

  product-reads : (sources : Sources) (accessors : List CompositeSourceAccessors) (doc : ℕ)
      (rows : List (List Choice))
      → AllFit segment after sources accessors
      → AreInRange sources (document_at segment doc) → AreChoicesIn sources accessors doc rows
      → AllZip (TupleReads sources accessors) (product rows)
      (occurrences sources (document_at segment doc))
  product-reads [] [] doc [] fit range p = ((tt, refl), tt)
  product-reads [] [] doc (choices ∷ rows) fit range p = absurd p
  product-reads [] (a ∷ accessors) doc rows fit range p = absurd fit
  product-reads (source ∷ sources) [] doc rows fit range p = absurd fit
  product-reads (source ∷ sources) (a ∷ accessors) doc [] fit range p = absurd p
  product-reads (source ∷ sources) (a ∷ accessors) doc (choices ∷ rows) fit range p =
      let own = p.0 (can-read source a doc fit.0 (range 0 source (omega arith))) in
      let others = occurrences sources (document_at segment doc) in
      subst (λ (keys : List CompositeIntermediateKey).
      AllZip (TupleReads (source ∷ sources) (a ∷ accessors)) (product (choices ∷ rows))
      (flat_map (λ k. map (λ t. k ∷ t) others) keys))
      (values-are source a doc choices fit.0 own)
      (more-source source sources a accessors choices (values_read source a doc) (product rows)
      others (choices-sided source a choices (values_read source a doc) fit.0 own)
      (product-reads sources accessors doc rows fit.1
      (λ i s l. range (suc i) s (omega (arith, l))) p.1))

  keys-long : (sources : Sources) (accessors : List CompositeSourceAccessors) (es : EncodedTuple)
      (ks : KeyTuple) → StandFor sources accessors es ks → length ks ≡ length sources
  keys-long [] [] [] [] h = refl
  keys-long [] [] [] (k ∷ ks) h = absurd h
  keys-long [] [] (e ∷ es) ks h = absurd h
  keys-long [] (a ∷ accessors) es ks h = absurd h
  keys-long (source ∷ sources) [] es ks h = absurd h
  keys-long (source ∷ sources) (a ∷ accessors) [] ks h = absurd h
  keys-long (source ∷ sources) (a ∷ accessors) (e ∷ es) [] h = absurd h
  keys-long (source ∷ sources) (a ∷ accessors) (e ∷ es) (k ∷ ks) h =
      ap suc (keys-long sources accessors es ks h.1)

  -- those past the bound
  reads-past : (sources : Sources) (accessors : List CompositeSourceAccessors)
      (tuples : List (List Choice)) (others : List KeyTuple)
      → AllZip (TupleReads sources accessors) tuples others
      → AllZip (StandFor sources accessors)
      (map values_of (filter (λ t. sides_past (sides_of t)) tuples))
      (filter (is_past (rules_of sources) (bound_of sources after)) others)
  reads-past sources accessors tuples others p =
      let past = is_past (rules_of sources) (bound_of sources after) in
      let sided : List Choice → Bool = λ t. sides_past (sides_of t) in
      let same : (t : List Choice) (ks : KeyTuple) → TupleReads sources accessors t ks
      → sided t ≡ past ks =
      λ t ks r. ap sides_past r.1
      ∙ sym (is_past-sides sources after ks (keys-long sources accessors (values_of t) ks r.0)) in
      subst (AllZip (StandFor sources accessors) (map values_of (filter sided tuples)))
      (map-id (filter past others))
      (AllZip-map (TupleReads sources accessors) (StandFor sources accessors) values_of (λ ks. ks)
      (λ t ks r. r.0) (filter sided tuples) (filter past others)
      (AllZip-filter (TupleReads sources accessors) sided past same tuples others p))

  -- the tuples that a walk over a document's choices visits stand for its occurrences past the
  -- bound
  pub past-document : (sources : Sources) (accessors : List CompositeSourceAccessors) (doc : ℕ)
      (rows : List (List Choice))
      → AllFit segment after sources accessors
      → AreInRange sources (document_at segment doc) → AreChoicesIn sources accessors doc rows
      → AllZip (StandFor sources accessors) (walked rows [] false)
      (past_occurrences sources (bound_of sources after) (documents_at segment (doc ∷ [])))
  past-document sources accessors doc rows fit range p =
      let past = is_past (rules_of sources) (bound_of sources after) in
      let all = occurrences sources (document_at segment doc) in
      subst (AllZip (StandFor sources accessors) (walked rows [] false))
      (ap (filter past) (sym (append-nil all)))
      (subst (λ ts. AllZip (StandFor sources accessors) ts (filter past all))
      (sym (walked-past rows))
      (reads-past sources accessors (product rows) all
      (product-reads sources accessors doc rows fit range p)))

  -- ---- one source

  -- the tuples of keys that lie past the bound
  abbrev pub lone_past : CompositeAggregationSource → List CompositeIntermediateKey → List KeyTuple
  lone_past source keys =
      filter (is_past (rules_of (source ∷ [])) (bound_of (source ∷ []) after))
      (flat_map (λ k. map (λ t. k ∷ t) ([] ∷ [])) keys)

  -- the tuples that a walk over choices of one source visits stand for those of their keys
  pub past-keys : (source : CompositeAggregationSource) (a : CompositeSourceAccessors)
      (choices : List Choice) (keys : List CompositeIntermediateKey)
      → AreAccessorsOf segment source (after_of after source) a
      → AreChoicesOf source a choices keys
      → AllZip (StandFor (source ∷ []) (a ∷ [])) (walked (choices ∷ []) [] false)
      (lone_past source keys)
  past-keys source a choices keys fit p =
      subst (λ ts. AllZip (StandFor (source ∷ []) (a ∷ [])) ts (lone_past source keys))
      (sym (walked-past (choices ∷ [])))
      (reads-past (source ∷ []) (a ∷ []) (product (choices ∷ []))
      (flat_map (λ k. map (λ t. k ∷ t) ([] ∷ [])) keys)
      (more-source source [] a [] choices keys ([] ∷ []) ([] ∷ [])
      (choices-sided source a choices keys fit p) ((tt, refl), tt)))
