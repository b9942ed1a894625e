-- What nodes of the code did by themselves.
use Rattle.std.proofs.Common.{◌≡◌, ◌<◌, ℕ, List, Bool, false, Some, None, length, subst}
use Rattle.std.specs.Prelude.{slice_get}
use Rattle.std.specs.List.{All}
use Rattle.std.specs.declared.boxed.Box.{Box}
use Rattle.std.specs.declared.alloc.Global.{Global}
use Rattle.agg_values.specs.Names.{Named}
use Rattle.agg_values.specs.declared.after_key.AfterKey.{AfterKey}
use Rattle.agg_cache.specs.declared.cache.Batch.{Batch}
use Rattle.agg_segment.specs.Marks.{AreMarks}
use Rattle.agg_segment.specs.Query.{matches}
use Rattle.agg_segment.specs.Segment.{Stored}
use Rattle.agg_segment.specs.declared.query.QueryTree.{QueryTree}
use Rattle.agg_composite.specs.accessor.Accessors as accessor
use Rattle.agg_composite.specs.declared.accessor.request_data.CompositeAggReqData.{
  CompositeAggReqData,
}
use Rattle.agg_composite.specs.Composite as c
use Rattle.agg_filter.specs.Filter as f
use Rattle.agg_filter.specs.Matching.{is_matching}
use Rattle.agg_filter.specs.declared.request_data.FilterAggReqData.{FilterAggReqData}
use Rattle.agg_engine_tree.specs.segment_context.Context.{IsMeant, Meaning}
use Rattle.agg_engine_tree.specs.declared.segment_context.context.PerRequestAggSegCtx.{
  PerRequestAggSegCtx,
}
use Rattle.agg_engine_tree.specs.declared.collector_tree.tree.SegmentCollectorTree as declared
use declared.{SegmentCollectorTree as Tree}
use declared.{Composite, Filter}
use Rattle.agg_engine_tree.specs.collector_tree.Step.{TakesAt}
use Rattle.agg_engine_tree.specs.collector_tree.Took.{CompositeTook, FilterTook}
use Rattle.agg_engine_tree.specs.collector_tree.Caches.{Cache, waiting_in}
use Rattle.agg_engine_tree.specs.collector_tree.Tree.{Fits, held_of}
use Rattle.agg_engine_tree.proofs.lemmas.collector_tree.CompositeNodes.{composite-hands}
use Rattle.agg_engine_tree.proofs.lemmas.collector_tree.CompositeNodes.{composite-keeps}
use Rattle.agg_engine_tree.proofs.lemmas.collector_tree.FilterNodes.{filter-hands, filter-keeps}
use Rattle.agg_engine_tree.proofs.lemmas.collector_tree.Levels.{held-composite, held-filter}
use Rattle.agg_engine_tree.proofs.lemmas.collector_tree.MostFilters.{filter-lower-most}
use Rattle.agg_engine_tree.proofs.lemmas.collector_tree.MostSteps.{composite-lower-most}
use Rattle.agg_engine_tree.proofs.lemmas.collector_tree.RefusedFilters.{filter-lower}
use Rattle.agg_engine_tree.proofs.lemmas.collector_tree.RefusedFilters.{filter-lower-in_range}
use Rattle.agg_engine_tree.proofs.lemmas.collector_tree.RefusedNodes.{composite-lower}
use Rattle.agg_engine_tree.proofs.lemmas.collector_tree.RefusedNodes.{composite-lower-in_range}

-- ---- composites

module _ (ctx : PerRequestAggSegCtx) (pairs : List (ℕ × ℕ)) (parents : List ℕ) (all : Bool)
    (field : ℕ) (req : CompositeAggReqData)
    (at : slice_get ctx.composite_req_data field ≡ Some req)
    (meant : (meaning : Meaning) × IsMeant meaning ctx) (collector old : c.Composite Cache)
    (is : old ≡ collector) (now : c.Composite Cache) (steps mid : ℕ)
    (took : (segment : Stored) (after : Named AfterKey) → accessor.Fits segment after req
    → CompositeTook req segment after pairs old now steps mid) where
  took-field : (segment : Stored) (after : Named AfterKey) → accessor.Fits segment after req
      → CompositeTook req segment after pairs collector now steps mid
  took-field segment after fits =
      subst (λ o. CompositeTook req segment after pairs o now steps mid) is (took segment after
      fits)

  pub node-keeps-composite : all ≡ false → (child : Box Tree Global)
      → TakesAt ctx pairs parents all (held_of (Composite field collector child)) None
      (held_of (Composite field now child)) steps mid
  node-keeps-composite few child =
      rw (held-composite field collector child, held-composite field now child)
      (composite-keeps ctx pairs parents all field req at meant collector now steps mid
      took-field few
      (held_of child.value))

  pub node-hands-composite : (down : List Batch) → All (λ batch. 0 < length batch.docs) down
      → (b : c.Composite Cache)
      → c.CompositeGives waiting_in down now b → b ≡ record now { cache = b.cache }
      → (child : Box Tree Global) → Fits ctx (held_of (Composite field collector child))
      → TakesAt ctx pairs parents all (held_of (Composite field collector child)) (Some down)
      (held_of (Composite field b child)) steps mid
  node-hands-composite down filled b gives rest child fits =
      let here = subst (Fits ctx) (held-composite field collector child) fits in
      rw (held-composite field collector child, held-composite field b child)
      (composite-hands ctx pairs parents all field req at meant collector now steps mid
      took-field down
      b gives rest (held_of child.value) here
      (composite-lower ctx pairs parents field req at meant collector now steps mid took-field
      down filled b gives rest (held_of child.value) here.1)
      (composite-lower-in_range ctx pairs parents field req at meant collector now steps mid
      took-field down filled b gives rest (held_of child.value) here.1)
      (composite-lower-most ctx pairs field req at meant collector now steps mid took-field
      down b gives rest (held_of child.value) here.1))

-- ---- filters

module _ (ctx : PerRequestAggSegCtx) (pairs : List (ℕ × ℕ)) (parents : List ℕ) (all : Bool)
    (field : ℕ) (req : FilterAggReqData)
    (at : slice_get ctx.filter_req_data field ≡ Some req)
    (meant : (meaning : Meaning) × IsMeant meaning ctx) (collector old : f.Filter Cache)
    (is : old ≡ collector) (now : f.Filter Cache) (steps : ℕ)
    (took : (tree : QueryTree) (segment : Stored) → AreMarks (matches tree) segment req.evaluator
    → FilterTook (is_matching tree segment) pairs old now) where
  matched-field : (tree : QueryTree) (segment : Stored) → AreMarks (matches tree) segment
      req.evaluator
      → FilterTook (is_matching tree segment) pairs collector now
  matched-field tree segment marks =
      subst (λ o. FilterTook (is_matching tree segment) pairs o now) is (took tree segment marks)

  pub node-keeps-filter : all ≡ false → (child : Box Tree Global)
      → TakesAt ctx pairs parents all (held_of (Filter field collector child)) None
      (held_of (Filter field now child)) steps steps
  node-keeps-filter few child =
      rw (held-filter field collector child, held-filter field now child)
      (filter-keeps ctx pairs parents all field req at meant collector now steps
      matched-field few
      (held_of child.value))

  pub node-hands-filter : (down : List Batch) → All (λ batch. 0 < length batch.docs) down
      → (b : f.Filter Cache)
      → f.FilterGives waiting_in down now b → b ≡ record now { cache = b.cache }
      → (child : Box Tree Global) → Fits ctx (held_of (Filter field collector child))
      → TakesAt ctx pairs parents all (held_of (Filter field collector child)) (Some down)
      (held_of (Filter field b child)) steps steps
  node-hands-filter down filled b gives rest child fits =
      let here = subst (Fits ctx) (held-filter field collector child) fits in
      rw (held-filter field collector child, held-filter field b child)
      (filter-hands ctx pairs parents all field req at meant collector now steps
      matched-field down
      b gives rest (held_of child.value) here
      (filter-lower ctx pairs parents field req at meant collector now matched-field
      down filled b gives rest (held_of child.value) here.1)
      (filter-lower-in_range ctx pairs parents field req at meant collector now matched-field
      down filled b gives rest (held_of child.value) here.1)
      (filter-lower-most ctx pairs field req at collector now steps matched-field
      down b gives rest (held_of child.value) here.1))
