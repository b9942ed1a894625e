-- The documents that were handed on under the ids of a page's entries.
use Rattle.std.proofs.Common.{◌≡◌, ◌==◌, ◌&&◌, ℕ, List, [], ◌∷◌, ◌++◌, Contains, inl, inr, map}
use Rattle.std.proofs.Common.{true, refl, sym, ap, ◌∙◌, subst, append-nil}
use Rattle.std.specs.Prelude.{if◌then◌else◌}
use Rattle.std.specs.List.{All, AllByRecursion, AllZip}
use Rattle.std.specs.Map.{keys_of}
use Rattle.std.specs.Ordering.{is_eq}
use Rattle.std.proofs.lemmas.Cmp.{eq_by_cmp_equiv}
use Rattle.std.proofs.lemmas.List.Elements.{All-from_recursion, recursion_from_All}
use Rattle.std.proofs.lemmas.Map.Keys.{IsDistinct-from_sorted}
use Rattle.std.proofs.lemmas.Map.Views.{lookup-from_Contains}
use Rattle.agg_values.specs.Names.{Named}
use Rattle.agg_values.specs.Tuple.{KeyTuple}
use Rattle.agg_values.specs.declared.after_key.AfterKey.{AfterKey}
use Rattle.agg_cache.specs.Waiting.{docs_of, is_id}
use Rattle.agg_segment.specs.Segment.{Stored}
use Rattle.agg_request_tree.specs.Source.{rules_of}
use Rattle.agg_request_tree.proofs.Lists.{AllByRecursion-from_Has, Contains-from_Has, Has}
use Rattle.agg_composite.specs.accessor.Accessors.{Fits}
use Rattle.agg_composite.specs.accessor.Decoded.{IsEncoded, decoded}
use Rattle.agg_composite.specs.accessor.Encoding.{EncodedTuple, StandsForTuple, encoded_tuple_order}
use Rattle.agg_composite.specs.declared.accessor.request_data.CompositeAggReqData.{
  CompositeAggReqData,
}
use Rattle.agg_composite.proofs.lemmas.accessor.DecodedTuples.{decoded-is}
use Rattle.agg_composite.proofs.lemmas.accessor.EncodedOrder.{tuple_order-total}
use Rattle.agg_composite.proofs.lemmas.accessor.TypedOrder.{tuples_compare}
use Rattle.agg_composite.specs.buckets.Node.{IsPast, IsRightFor, Right}
use Rattle.agg_composite.specs.buckets.Page.{Page}
use Rattle.agg_composite.specs.buckets.Visits.{Visit, is_owner}
use Rattle.agg_composite.specs.declared.buckets.bucket.Bucket.{Bucket}
use Rattle.agg_composite.specs.Composite.{Composite, CompositeFor, docs_under, page_of}
use Rattle.agg_composite.specs.PageEntries.{decoded_buckets, entry_bucket}
use Rattle.agg_composite.specs.Visits.{StandsForVisit, TypedVisit}
use Rattle.agg_composite.specs.declared.page_entry.PageEntry.{PageEntry}
use Rattle.agg_composite.proofs.BucketPages.{page-encoded}

module _ (segment : Stored) (after : Named AfterKey) (req : CompositeAggReqData)
    (fits : Fits segment after req) where
  -- an owner's documents are those of its typed tuple
  owner-docs : (p : ℕ) (t : EncodedTuple) (k : KeyTuple) → StandsForTuple req t k
      → (visits : List (Visit EncodedTuple)) (typed : List TypedVisit)
      → AllZip (StandsForVisit req) visits typed
      → docs_of (is_owner encoded_tuple_order (p, t)) visits
      ≡ docs_under (rules_of req.req.now.sources) p k typed
  owner-docs p t k stand [] [] h = refl
  owner-docs p t k stand [] (y ∷ typed) h = absurd h
  owner-docs p t k stand (v ∷ visits) [] h = absurd h
  owner-docs p t k stand (v ∷ visits) (y ∷ typed) h =
      let same = ap is_eq
      (sym (tuples_compare segment after req fits t v.0.1 k y.0.1 stand h.0.1)) in
      λ j. (if (p == h.0.0 j) && same j then h.0.2 j ∷ [] else [])
      ++ owner-docs p t k stand visits typed h.1 j

  module _ {C : Type 0} (waiting : C → ℕ → List ℕ) (collector : Composite C)
      (visited : List TypedVisit) (given : List (ℕ × ℕ)) (p : ℕ)
      (f : CompositeFor waiting req collector visited given) (hands_on : collector.hands_on ≡ true)
      (none : (id : ℕ) → waiting collector.cache.0 id ≡ []) where
    -- a bucket's documents were given under its id
    abbrev IsHanded : KeyTuple × Bucket → Type 0
    IsHanded e =
        docs_of (is_id e.1.id) given ≡ docs_under (rules_of req.req.now.sources) p e.0 visited

    bucket-handed : (e : EncodedTuple × Bucket) → Contains (page_of collector p) e
        → IsEncoded req e.0 → IsHanded (decoded req e.0, e.1)
    bucket-handed e m encoded =
        let page = page_of collector p in
        let is_found = lookup-from_Contains (eq_by_cmp_equiv tuple_order-total) e.0 e.1 page
        (IsDistinct-from_sorted encoded_tuple_order (keys_of page) (f.buckets.ascending p)) m in
        let own : Right (is_owner encoded_tuple_order (p, e.0)) f.visits f.handed
        collector.node.next e.1 =
        subst
        (IsRightFor (is_owner encoded_tuple_order (p, e.0)) f.visits f.handed collector.node.next
        (IsPast encoded_tuple_order req.size collector.node.parents (p, e.0)))
        is_found (f.buckets.right (p, e.0)) in
        let stands : StandsForTuple req e.0 (decoded req e.0) =
        subst (StandsForTuple req e.0) (sym (decoded-is req e.0 encoded.0 encoded.1)) encoded.1 in
        sym (append-nil (docs_of (is_id e.1.id) given))
        ∙ ap (λ ds. docs_of (is_id e.1.id) given ++ ds) (sym (none e.1.id))
        ∙ f.waits hands_on e.1.id ∙ own.exact
        ∙ owner-docs p e.0 (decoded req e.0) stands f.visits visited f.stand

    each-handed : (page : Page EncodedTuple)
        → AllByRecursion (λ e. IsHanded (decoded req e.0, e.1)) page
        → AllByRecursion IsHanded (decoded_buckets req page)
    each-handed [] h = tt
    each-handed (e ∷ page) h = (h.0, each-handed page h.1)

    entries-handed : (entries : List PageEntry)
        → AllByRecursion IsHanded (map entry_bucket entries)
        → AllByRecursion (λ e. IsHanded (entry_bucket e)) entries
    entries-handed [] h = tt
    entries-handed (e ∷ entries) h = (h.0, entries-handed entries h.1)

    encoded-at : (page : Page EncodedTuple) → AllByRecursion (IsEncoded req) (keys_of page)
        → (e : EncodedTuple × Bucket) → Has e page → IsEncoded req e.0
    encoded-at [] all e h = absurd h
    encoded-at (x ∷ page) all e (inl same) =
        subst (λ (y : EncodedTuple × Bucket). IsEncoded req y.0) same all.0
    encoded-at (x ∷ page) all e (inr h) = encoded-at page all.1 e h

    -- so were those of the entries of the parent's page
    pub page-handed : (entries : List PageEntry)
        → map entry_bucket entries ≡ decoded_buckets req (page_of collector p)
        → All (λ e. IsHanded (entry_bucket e)) entries
    page-handed entries e =
        let page = page_of collector p in
        let encoded = recursion_from_All (IsEncoded req) (keys_of page)
        (page-encoded waiting req collector visited given p f) in
        let all = AllByRecursion-from_Has (λ x. IsHanded (decoded req x.0, x.1)) page
        (λ x m. bucket-handed x (Contains-from_Has page x m) (encoded-at page encoded x m)) in
        All-from_recursion (λ x. IsHanded (entry_bucket x)) entries
        (entries-handed entries (subst (AllByRecursion IsHanded) (sym e) (each-handed page all)))
