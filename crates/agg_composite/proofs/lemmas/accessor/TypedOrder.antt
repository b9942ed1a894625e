-- Encoded tuples compare as the tuples that they stand for.
use Rattle.std.proofs.Common.{◌≡◌, List, [], ◌∷◌, Equal, refl, ◌∙◌}
use Rattle.std.specs.List.{AllZip}
use Rattle.std.specs.Ordering.{ordering_then}
use Rattle.agg_values.specs.KeyOrder.{key_order, tuple_order}
use Rattle.agg_values.specs.Names.{Named}
use Rattle.agg_values.specs.Tuple.{KeyTuple}
use Rattle.agg_values.specs.declared.after_key.AfterKey.{AfterKey}
use Rattle.agg_values.proofs.KeyOrder.{key_order-exact, then_equal}
use Rattle.agg_segment.specs.Segment.{Stored}
use Rattle.agg_request_tree.specs.Source.{Sources, missing_order_of, order_of, rules_of}
use Rattle.agg_request_tree.specs.Source.{after_of}
use Rattle.agg_composite.specs.accessor.Accessors.{AreAccessorsOf, Fits}
use Rattle.agg_composite.specs.accessor.Encoding.{EncodedTuple, StandFor, StandsForTuple}
use Rattle.agg_composite.specs.accessor.Encoding.{encoded_order, encoded_tuple_order}
use Rattle.agg_composite.specs.declared.accessor.accessor.CompositeSourceAccessors.{
  CompositeSourceAccessors,
}
use Rattle.agg_composite.specs.declared.accessor.request_data.CompositeAggReqData.{
  CompositeAggReqData,
}
use Rattle.agg_composite.proofs.lemmas.accessor.EncodedKeys.{canonical_key, keys-compare}
use Rattle.agg_composite.proofs.lemmas.accessor.LaneOrder.{lanes-in_order}

module _ (segment : Stored) (after : Named AfterKey) where
  -- each source has its accessors
  abbrev EachFits : Sources → List CompositeSourceAccessors → Type 0
  EachFits = AllZip (λ source a. AreAccessorsOf segment source (after_of after source) a)

  -- the tuples compare as the encoded ones, and are one where these are Equal
  by_source : (sources : Sources) (accessors : List CompositeSourceAccessors)
      → EachFits sources accessors → (es fs : EncodedTuple) (ks ls : KeyTuple)
      → StandFor sources accessors es ks → StandFor sources accessors fs ls
      → (tuple_order (rules_of sources) ks ls ≡ encoded_tuple_order es fs)
      × (encoded_tuple_order es fs ≡ Equal → ks ≡ ls)
  by_source [] [] fits [] [] [] [] p q = (refl, λ same. refl)
  by_source [] [] fits [] [] [] (l ∷ ls) p q = absurd q
  by_source [] [] fits [] [] (k ∷ ks) ls p q = absurd p
  by_source [] [] fits [] (f ∷ fs) ks ls p q = absurd q
  by_source [] [] fits (e ∷ es) fs ks ls p q = absurd p
  by_source [] (a ∷ accessors) fits es fs ks ls p q = absurd fits
  by_source (source ∷ sources) [] fits es fs ks ls p q = absurd fits
  by_source (source ∷ sources) (a ∷ accessors) fits [] fs ks ls p q = absurd p
  by_source (source ∷ sources) (a ∷ accessors) fits (e ∷ es) [] ks ls p q = absurd q
  by_source (source ∷ sources) (a ∷ accessors) fits (e ∷ es) (f ∷ fs) [] ls p q = absurd p
  by_source (source ∷ sources) (a ∷ accessors) fits (e ∷ es) (f ∷ fs) (k ∷ ks) [] p q = absurd q
  by_source (source ∷ sources) (a ∷ accessors) fits (e ∷ es) (f ∷ fs) (k ∷ ks) (l ∷ ls) p q =
      let first : key_order (order_of source) (missing_order_of source) k l ≡ encoded_order e f =
      keys-compare source a.accessors (lanes-in_order segment source a.accessors fits.0.columns)
      e f k l p.0 q.0 in
      let rest = by_source sources accessors fits.1 es fs ks ls p.1 q.1 in (
        λ x. ordering_then (first x) (rest.0 x),
        λ same.
            let both = then_equal (encoded_order e f) (encoded_tuple_order es fs) same in
            let key : k ≡ l =
            key_order-exact (order_of source) (missing_order_of source) k l
            (canonical_key source a.accessors e k p.0) (canonical_key source a.accessors f l q.0)
            (first ∙ both.0) in
            λ x. key x ∷ rest.1 both.1 x,
      )

-- tuples compare as the encoded ones that stand for them
pub tuples_compare : (segment : Stored) (after : Named AfterKey) (req : CompositeAggReqData)
    → Fits segment after req → (left right : EncodedTuple) (typed_left typed_right : KeyTuple)
    → StandsForTuple req left typed_left → StandsForTuple req right typed_right
    → tuple_order (rules_of req.req.now.sources) typed_left typed_right
    ≡ encoded_tuple_order left right
tuples_compare segment after req fits left right typed_left typed_right p q =
    (by_source segment after req.req.now.sources req.composite_accessors fits left right
    typed_left typed_right p q).0

-- encoded tuples that are Equal stand for one tuple
pub tuples_exact : (segment : Stored) (after : Named AfterKey) (req : CompositeAggReqData)
    → Fits segment after req → (left right : EncodedTuple) (typed_left typed_right : KeyTuple)
    → StandsForTuple req left typed_left → StandsForTuple req right typed_right
    → encoded_tuple_order left right ≡ Equal → typed_left ≡ typed_right
tuples_exact segment after req fits left right typed_left typed_right p q same =
    (by_source segment after req.req.now.sources req.composite_accessors fits left right
    typed_left typed_right p q).1 same
