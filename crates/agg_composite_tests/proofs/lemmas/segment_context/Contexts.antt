-- Contexts that are made of their parts.
use Rattle.std.proofs.Common.{◌≡◌, ◌≢◌, ℕ, zero, suc, List, [], ◌∷◌, Some, Ok, Err, refl, sym}
use Rattle.std.proofs.Common.{subst, ap, ◌∙◌}
use Rattle.std.specs.Prelude.{IfOk, Result, map, slice_get}
use Rattle.agg_segment.specs.Marks.{AreMarks}
use Rattle.agg_segment.specs.Query.{matches}
use Rattle.agg_segment.specs.Segment.{Stored}
use Rattle.agg_segment.specs.declared.query.QueryTree.{QueryTree}
use Rattle.agg_request_tree.specs.Request.{Request, aggregation_of}
use Rattle.agg_request_tree.specs.declared.aggregation.AggregationVariants.{AggregationVariants}
use Rattle.agg_request_tree.specs.declared.aggregation.AggregationVariants.TheVariants as asks
use Rattle.agg_request_tree.specs.declared.aggregation.CompositeAggregation.{CompositeAggregation}
use Rattle.agg_request_tree.specs.declared.aggregation.filter.FilterQuery.TheVariants as by
use Rattle.agg_request_tree.proofs.RequestTrees.{agg-made, below-made}
use Rattle.agg_composite.specs.accessor.Accessors.{Fits}
use Rattle.agg_composite.specs.declared.accessor.request_data.CompositeAggReqData.{
  CompositeAggReqData,
}
use Rattle.agg_filter.specs.declared.request_data.FilterAggReqData.{FilterAggReqData}
use Rattle.agg_metric.specs.declared.request_data.StatsType.TheVariants as stats
use Rattle.agg_engine_tree.specs.segment_context.Context.{ArePlansOf, HasFewSources, IsAskedAt}
use Rattle.agg_engine_tree.specs.segment_context.Context.{IsMeant, IsCompositeMeant, IsPlanOf}
use Rattle.agg_engine_tree.specs.segment_context.Context.{Meaning}
use Rattle.agg_engine_tree.specs.segment_context.Plan.{Plan, Plans, plan_of, plans_of}
use Rattle.agg_engine_tree.specs.declared.segment_context.context.PerRequestAggSegCtx.{
  PerRequestAggSegCtx,
}
use Rattle.agg_engine_tree.specs.declared.segment_context.node.AggKind.{AggKind}
use Rattle.agg_engine_tree.specs.declared.segment_context.node.AggKind.TheVariants as kind
use Rattle.agg_composite_tests.specs.segment_context.Context.{HasCountFirst, IsContextIn, planned}

-- what four facts say of a result
pub together : {X E : Type 0} (r : Result X E) (P Q R S T : X → Type 0)
    → ((x : X) → P x → Q x → R x → S x → T x)
    → IfOk r P → IfOk r Q → IfOk r R → IfOk r S → IfOk r T
together (Ok x) P Q R S T told p q u v = told x p q u v
together (Err e) P Q R S T told p q u v = tt

-- what stands in a list of one is that
only : {X : Type 0} (x y : X) (i : ℕ) → slice_get (x ∷ []) i ≡ Some y → x ≡ y
only x y zero at = cc
only x y (suc i) at = absurd (cc)

module _ (segment : Stored) (query : QueryTree) (composite : CompositeAggregation)
    (few : HasFewSources composite.sources) (room : composite.size ≢ 0) (ctx : PerRequestAggSegCtx)
    (filter : FilterAggReqData) (group : CompositeAggReqData)
    (filters : ctx.filter_req_data ≡ filter ∷ []) (composites : ctx.composite_req_data ≡ group ∷ [])
    (marks : AreMarks (matches query) segment filter.evaluator) (fits : Fits segment [] group)
    (own : group.req.now ≡ composite) (size : group.size ≡ composite.size) where
  abbrev meaning : Meaning
  meaning = record { segment = segment; after_at = λ i. []; query_at = λ i. query }

  -- an aggregation that asks this, with those below it
  made : (name : List ℕ) (asked : AggregationVariants QueryTree) (below : Request QueryTree)
      (of_kind : AggKind) (plans : Plans) → IsAskedAt meaning ctx name asked of_kind 0
      → ArePlansOf meaning ctx below plans
      → IsPlanOf meaning ctx name (aggregation_of asked below) (Plan.node of_kind 0 plans)
  made name asked below of_kind plans here rest = (
    subst (λ v. IsAskedAt meaning ctx name v of_kind 0) (sym (agg-made asked below)) here,
    subst (λ (r : Request QueryTree). ArePlansOf meaning ctx r plans) (sym (below-made asked below))
        rest,
  )

  meant : IsMeant meaning ctx
  meant = record {
    composites = λ i req at.
        let same = only group req i (ap (λ reqs. slice_get reqs i) (sym composites) ∙ at) in
        subst (λ (r : CompositeAggReqData).
        IsCompositeMeant meaning i r) same (record {
          fits = fits;
          sources = subst (λ (c : CompositeAggregation). HasFewSources c.sources) (sym own) few;
          room = λ none. room (sym size ∙ none);
        });
    filters = λ i req at.
        let same = only filter req i (ap (λ reqs. slice_get reqs i) (sym filters) ∙ at) in
        subst (λ (r : FilterAggReqData). AreMarks (matches query) segment r.evaluator) same marks;
  }

  -- the context is that of a request
  pub is-context : HasCountFirst ctx.stats_metric_req_data
      → plans_of (map plan_of ctx.agg_tree) ≡ planned → IsContextIn segment ctx
  is-context metrics tree =
      let count = made metrics.0.name (asks.Count (record { field = metrics.0.field })) []
      (kind.StatsKind stats.Count) Plans.none (metrics.0, metrics.1, refl, refl, metrics.2) tt in
      let below : Request QueryTree = (
        metrics.0.name,
        aggregation_of (asks.Count (record { field = metrics.0.field })) [],
      ) ∷ [] in
      let grouped = record composite { after = [] } in
      let groups = made group.name (asks.Composite grouped) below kind.Composite
      (Plans.more (Plan.node (kind.StatsKind stats.Count) 0 Plans.none) Plans.none) (
        group,
        ap (λ reqs. slice_get reqs 0) composites,
        refl,
        ap (λ (c : CompositeAggregation). c.sources) own,
        size,
        refl,
      ) (count, tt) in
      let matching =
      made filter.name (asks.Filter (record { query = by.Tree query })) [] kind.Filter
      Plans.none (filter, ap (λ reqs. slice_get reqs 0) filters, refl, refl) tt in
      let request : Request QueryTree =
      (group.name, aggregation_of (asks.Composite grouped) below)
      ∷ (filter.name, aggregation_of (asks.Filter (record { query = by.Tree query })) []) ∷ [] in (
        meaning,
        request,
        refl,
        record {
          meant = meant;
          tree = subst (ArePlansOf meaning ctx request) (sym tree) (groups, (matching, tt));
        },
      )
