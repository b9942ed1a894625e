-- What a tree takes in range is in range of each of its collectors.
use Rattle.std.proofs.Common.{◌≡◌, ◌<◌, ◌++◌, ℕ, List, [], ◌∷◌, Some, zero, suc, inl, inr, get_or}
use Rattle.std.proofs.Common.{length, map, arith}
use Rattle.std.specs.Prelude.{slice_get}
use Rattle.agg_values.specs.Names.{Named}
use Rattle.agg_values.specs.declared.after_key.AfterKey.{AfterKey}
use Rattle.agg_segment.specs.Segment.{Stored, documents_at}
use Rattle.agg_composite.specs.accessor.Accessors as accessor
use Rattle.agg_composite.specs.accessor.Ranges.{AreAllInRange}
use Rattle.agg_composite.specs.declared.accessor.request_data.CompositeAggReqData.{
  CompositeAggReqData,
}
use Rattle.agg_composite.specs.buckets.Visits.{docs_in}
use Rattle.agg_composite.specs.Composite.{Composite}
use Rattle.agg_engine_tree.specs.segment_context.Context.{Meaning}
use Rattle.agg_engine_tree.specs.declared.segment_context.context.PerRequestAggSegCtx.{
  PerRequestAggSegCtx,
}
use Rattle.agg_engine_tree.specs.declared.collector_tree.tree.SegmentCollectorTree as declared
use declared.{SegmentCollectorTree as Tree}
use Rattle.agg_engine_tree.specs.collector_tree.Caches.{Cache}
use Rattle.agg_engine_tree.specs.collector_tree.Refusals.{HasStartOutOfRange, SomeHasStart}
use Rattle.agg_engine_tree.specs.collector_tree.Refusals.{TakesInRange}
use Rattle.agg_engine_tree.specs.collector_tree.Tree.{AllFor, Held, IsFor, group_of, held_of}
use Rattle.agg_engine_tree.specs.collector_tree.Tree.{helds_of}
use Rattle.agg_engine_tree.proofs.lemmas.collector_tree.RefusedNodes.{within-after}
use Rattle.agg_engine_tree.proofs.lemmas.collector_tree.StableRanges.{ranges-stable}
use Rattle.agg_engine_tree.proofs.lemmas.collector_tree.WithinLists.{range-part, within-contains}

module _ (ctx : PerRequestAggSegCtx) (pairs : List (ℕ × ℕ)) where
  -- a composite reads no start out of range in these
  pub composite-in_range : (index : ℕ) (req : CompositeAggReqData)
      → slice_get ctx.composite_req_data index ≡ Some req → (collector : Composite Cache) (h : Held)
      → TakesInRange ctx pairs (Held.composite index collector h)
      → (segment : Stored) × (after : Named AfterKey) × accessor.Fits segment after req
      × AreAllInRange segment req.req.now.sources (docs_in pairs)
  composite-in_range index req at collector h t =
      let sources = req.req.now.sources in
      let all = docs_in (t.taken ++ pairs) in (
        t.meaning.segment,
        t.meaning.after_at index,
        (t.meant.composites index req at).fits,
        range-part t.meaning.segment sources (docs_in pairs) all
            (within-contains (docs_in pairs) all (within-after t.taken pairs))
            (ranges-stable sources (documents_at t.meaning.segment all)
            (λ out. t.range (inl (req, at, out)))),
      )

  -- ---- one of several

  -- one of several trees is right for what they took, and its starts are among theirs
  one-for : (meaning : Meaning) (docs : List ℕ) (taken : List (ℕ × ℕ)) (trees : List Tree) (i : ℕ)
      (d : Tree) → i < length trees → (visits : ℕ)
      → AllFor meaning ctx (helds_of (map held_of trees)) taken visits
      → (own : ℕ) × IsFor meaning ctx (held_of (get_or trees i d)) taken own
      × (HasStartOutOfRange meaning ctx (held_of (get_or trees i d)) docs
      → SomeHasStart meaning ctx (helds_of (map held_of trees)) docs)
  one-for meaning docs taken [] i d l visits all = absurd (omega arith)
  one-for meaning docs taken (t ∷ trees) zero d l visits (own, others, one, rest, sum) =
      (own, one, λ out. inl out)
  one-for meaning docs taken (t ∷ trees) (suc i) d l visits (own, others, one, rest, sum) =
      let it = one-for meaning docs taken trees i d (omega arith) others rest in
      (it.0, it.1, λ out. inr (it.2 out))

  -- each of several trees takes documents in range that all take in range
  pub each-in_range : (trees : List Tree) → TakesInRange ctx pairs (group_of trees) → (i : ℕ)
      (d : Tree) → i < length trees → TakesInRange ctx pairs (held_of (get_or trees i d))
  each-in_range trees t i d l =
      let one = one-for t.meaning (docs_in (t.taken ++ pairs)) t.taken trees i d l t.visits t.right
      in
      record {
        meaning = t.meaning;
        meant = t.meant;
        taken = t.taken;
        visits = one.0;
        right = one.1;
        range = λ out. t.range (one.2 out);
      }
