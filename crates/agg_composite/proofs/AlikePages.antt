-- The pages of two collectors that made the same visits and handed all their documents on.
use Rattle.std.proofs.Common.{◌≡◌, ℕ, List, [], ◌∷◌, map, refl, sym, ap, ◌∙◌}
use Rattle.std.specs.List.{AllByRecursion, AllZip}
use Rattle.std.proofs.lemmas.Cmp.{tied_itself}
use Rattle.std.proofs.lemmas.List.Elements.{recursion_from_All}
use Rattle.agg_values.specs.Names.{Named}
use Rattle.agg_values.specs.Tuple.{KeyTuple}
use Rattle.agg_values.specs.declared.after_key.AfterKey.{AfterKey}
use Rattle.agg_values.proofs.TupleOrder.{tuple_order-total}
use Rattle.agg_cache.specs.Waiting.{docs_of, is_id}
use Rattle.agg_segment.specs.Segment.{Stored}
use Rattle.agg_request_tree.specs.Groups.{Group}
use Rattle.agg_request_tree.specs.Source.{rules_of}
use Rattle.agg_composite.specs.accessor.Accessors.{Fits}
use Rattle.agg_composite.specs.accessor.Encoding.{EncodedTuple, StandsForTuple, encoded_tuple_order}
use Rattle.agg_composite.specs.declared.accessor.request_data.CompositeAggReqData.{
  CompositeAggReqData,
}
use Rattle.agg_composite.proofs.lemmas.accessor.EncodedOrder.{tuple-exact}
use Rattle.agg_composite.proofs.lemmas.accessor.TypedOrder.{tuples_compare}
use Rattle.agg_composite.specs.buckets.Cut.{cut, tuples_under}
use Rattle.agg_composite.specs.Composite.{Composite, docs_under}
use Rattle.agg_composite.specs.PageEntries.{decoded_groups, entry_group}
use Rattle.agg_composite.specs.SubResults.{AreAlike, HasHanded, IsPageOf}
use Rattle.agg_composite.specs.Visits.{TypedVisit}
use Rattle.agg_composite.specs.declared.page_entry.PageEntry.{PageEntry}
use Rattle.agg_composite.proofs.BucketDocuments.{page-handed}
use Rattle.agg_composite.proofs.BucketPages.{page-lowest, under-stand}

module _ (segment : Stored) (after : Named AfterKey) (req : CompositeAggReqData)
    (fits : Fits segment after req) where
  -- encoded tuples that stand for the same tuples are the same
  encoded-same : (ts us : List EncodedTuple) (ks : List KeyTuple)
      → AllZip (StandsForTuple req) ts ks → AllZip (StandsForTuple req) us ks → ts ≡ us
  encoded-same [] [] [] p q = refl
  encoded-same [] (u ∷ us) [] p q = absurd q
  encoded-same [] us (k ∷ ks) p q = absurd p
  encoded-same (t ∷ ts) us [] p q = absurd p
  encoded-same (t ∷ ts) [] (k ∷ ks) p q = absurd q
  encoded-same (t ∷ ts) (u ∷ us) (k ∷ ks) p q =
      let first = tuple-exact t u (sym (tuples_compare segment after req fits t u k k p.0 q.0)
      ∙ tied_itself (tuple_order-total (rules_of req.req.now.sources)) k) in
      let rest = encoded-same ts us ks p.1 q.1 in
      λ i. first i ∷ rest i

-- what was given under an entry's id are the documents of the visits of its key under a parent
abbrev HasItsDocuments : CompositeAggReqData → ℕ → List TypedVisit → List (ℕ × ℕ) → PageEntry
    → Type 0
HasItsDocuments req parent visited given entry =
    docs_of (is_id entry.bucket_id) given
    ≡ docs_under (rules_of req.req.now.sources) parent entry.key visited

-- entries of the same groups are alike where the documents of their keys' visits were given
alike-from_groups : (req : CompositeAggReqData) (parent : ℕ) (visited : List TypedVisit)
    (given others : List (ℕ × ℕ)) (page page_other : List PageEntry)
    → map entry_group page ≡ map entry_group page_other
    → AllByRecursion (HasItsDocuments req parent visited given) page
    → AllByRecursion (HasItsDocuments req parent visited others) page_other
    → AllZip (AreAlike given others) page page_other
alike-from_groups req parent visited given others [] [] same h k = tt
alike-from_groups req parent visited given others [] (x ∷ xs) same h k = cc
alike-from_groups req parent visited given others (e ∷ es) [] same h k = cc
alike-from_groups req parent visited given others (e ∷ es) (x ∷ xs) same h k =
    let first : entry_group e ≡ entry_group x = cc in
    let rest : map entry_group es ≡ map entry_group xs = cc in (
      (
        ap (λ (g : Group). g.0) first,
        ap (λ (g : Group). g.1) first,
        h.0
            ∙ ap (λ (g : Group). docs_under (rules_of req.req.now.sources) parent g.0 visited) first
            ∙ sym k.0,
      ),
      alike-from_groups req parent visited given others es xs rest h.1 k.1,
    )

module _ (segment : Stored) (after : Named AfterKey) (req : CompositeAggReqData)
    (fits : Fits segment after req) {C D : Type 0} (waiting : C → ℕ → List ℕ)
    (waiting_other : D → ℕ → List ℕ) (one : Composite C) (other : Composite D)
    (visited : List TypedVisit) (given others : List (ℕ × ℕ))
    (f : HasHanded waiting req one visited given)
    (h : HasHanded waiting_other req other visited others) (parent : ℕ)
    (page page_other : List PageEntry) (are : IsPageOf req one parent page)
    (are_other : IsPageOf req other parent page_other) where
  -- the pages have the same groups
  groups-same : map entry_group page ≡ map entry_group page_other
  groups-same =
      let encoded = encoded-same segment after req fits
      (tuples_under parent f.0.visits) (tuples_under parent h.0.visits)
      (tuples_under parent visited)
      (under-stand req parent f.0.visits visited f.0.stand)
      (under-stand req parent h.0.visits visited h.0.stand) in
      page-lowest waiting req one visited given parent f.0 page are
      ∙ ap (λ ts. decoded_groups req (cut encoded_tuple_order req.size ts)) encoded
      ∙ sym (page-lowest waiting_other req other visited others parent h.0 page_other are_other)

  -- the entries of the pages are alike
  pub pages-alike : AllZip (AreAlike given others) page page_other
  pages-alike =
      alike-from_groups req parent visited given others page page_other groups-same
      (recursion_from_All (HasItsDocuments req parent visited given) page
      (page-handed segment after req fits waiting one visited given parent f.0 f.1 f.2 page are))
      (recursion_from_All (HasItsDocuments req parent visited others) page_other
      (page-handed segment after req fits waiting_other other visited others parent h.0 h.1 h.2
      page_other are_other))
