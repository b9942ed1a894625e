-- Why nodes of the code refuse documents.
use Rattle.std.proofs.Common.{◌≡◌, ℕ, List, Some, Err, ap, ◌∙◌, subst}
use Rattle.std.specs.Prelude.{slice_get}
use Rattle.std.specs.declared.boxed.Box.{Box}
use Rattle.std.specs.declared.alloc.Global.{Global}
use Rattle.agg_values.specs.Names.{Named}
use Rattle.agg_values.specs.declared.after_key.AfterKey.{AfterKey}
use Rattle.agg_cache.specs.declared.error.CollectError.{CollectError}
use Rattle.agg_segment.specs.Marks.{AreMarks}
use Rattle.agg_segment.specs.Query.{matches}
use Rattle.agg_segment.specs.Segment.{Stored}
use Rattle.agg_segment.specs.declared.query.QueryTree.{QueryTree}
use Rattle.agg_composite.specs.accessor.Accessors as accessor
use Rattle.agg_composite.specs.declared.accessor.request_data.CompositeAggReqData.{
  CompositeAggReqData,
}
use Rattle.agg_composite.specs.Composite as c
use Rattle.agg_filter.specs.Filter as f
use Rattle.agg_filter.specs.Matching.{is_matching}
use Rattle.agg_filter.specs.declared.request_data.FilterAggReqData.{FilterAggReqData}
use Rattle.agg_metric.specs.Collector as m
use Rattle.agg_engine_tree.specs.segment_context.Context.{IsMeant, Meaning}
use Rattle.agg_engine_tree.specs.declared.segment_context.context.PerRequestAggSegCtx.{
  PerRequestAggSegCtx,
}
use Rattle.agg_engine_tree.specs.declared.collector_tree.tree.SegmentCollectorTree as declared
use declared.{SegmentCollectorTree as Tree}
use declared.{Composite, Filter, Metric}
use Rattle.agg_engine_tree.specs.collector_tree.Refusals.{IsRefused}
use Rattle.agg_engine_tree.specs.collector_tree.Took.{CompositeAnswers, FilterAnswers}
use Rattle.agg_engine_tree.specs.collector_tree.Took.{MetricAnswers}
use Rattle.agg_engine_tree.specs.collector_tree.Caches.{Cache}
use Rattle.agg_engine_tree.specs.collector_tree.Tree.{Fits, held_of}
use Rattle.agg_engine_tree.proofs.lemmas.collector_tree.Levels.{held-composite, held-filter}
use Rattle.agg_engine_tree.proofs.lemmas.collector_tree.Levels.{held-metric}
use Rattle.agg_engine_tree.proofs.lemmas.collector_tree.RefusedFilters.{filter-refused}
use Rattle.agg_engine_tree.proofs.lemmas.collector_tree.RefusedFilters.{metric-refused}
use Rattle.agg_engine_tree.proofs.lemmas.collector_tree.RefusedNodes.{composite-refused}

module _ (ctx : PerRequestAggSegCtx) (pairs : List (ℕ × ℕ)) (parents : List ℕ) (node : Tree) where
  pub node-refused-composite : (field : ℕ) (req : CompositeAggReqData)
      → slice_get ctx.composite_req_data field ≡ Some req
      → (meaning : Meaning) × IsMeant meaning ctx → (collector : c.Composite Cache)
      (child : Box Tree Global) → node ≡ Composite field collector child
      → (old : c.Composite Cache) → old ≡ collector → (now : c.Composite Cache)
      (steps mid : ℕ) (error : CollectError)
      → ((segment : Stored) (after : Named AfterKey) → accessor.Fits segment after req
      → CompositeAnswers req segment after pairs old now steps mid (Err error))
      → IsRefused ctx pairs parents (held_of node) error
  node-refused-composite field req at meant collector child e old is now steps mid error answers =
      rw (e, held-composite field collector child)
      (composite-refused ctx pairs parents field req at meant collector now steps mid
      (held_of child.value) error (λ segment after f.
      subst (λ o. CompositeAnswers req segment after pairs o now steps mid (Err error)) is
      (answers segment after f)))

  pub node-refused-filter : (field : ℕ) (req : FilterAggReqData)
      → slice_get ctx.filter_req_data field ≡ Some req
      → (meaning : Meaning) × IsMeant meaning ctx → (collector : f.Filter Cache)
      (child : Box Tree Global) → node ≡ Filter field collector child
      → (old : f.Filter Cache) → old ≡ collector → (now : f.Filter Cache) (error : CollectError)
      → ((tree : QueryTree) (segment : Stored) → AreMarks (matches tree) segment req.evaluator
      → FilterAnswers (is_matching tree segment) pairs parents old now (Err error))
      → IsRefused ctx pairs parents (held_of node) error
  node-refused-filter field req at meant collector child e old is now error answers =
      rw (e, held-filter field collector child)
      (filter-refused ctx pairs parents field req at meant collector now
      (held_of child.value) error (λ tree segment marks.
      subst (λ o. FilterAnswers (is_matching tree segment) pairs parents o now (Err error)) is
      (answers tree segment marks)))

  pub node-refused-metric : Fits ctx (held_of node) → (field : ℕ) (collector : m.Metric)
      → node ≡ Metric field collector → (old : m.Metric) → old ≡ collector → (now : m.Metric)
      (error : CollectError)
      → MetricAnswers pairs old now (Err error)
      → IsRefused ctx pairs parents (held_of node) error
  node-refused-metric fits field collector e old is now error a =
      let here = subst (Fits ctx) (ap held_of e ∙ held-metric field collector) fits in
      rw (e, held-metric field collector)
      (metric-refused ctx pairs parents field here.0 here.1 collector now error
      (subst (λ o. MetricAnswers pairs o now (Err error)) is a))
