-- Plans stay those of a request where data of a context is kept.
use Rattle.std.proofs.Common.{ℕ, List, [], ◌∷◌, ◌++◌}
use Rattle.agg_segment.specs.declared.query.QueryTree.{QueryTree}
use Rattle.agg_request_tree.specs.Request.{Request, agg_of, below_of}
use Rattle.agg_request_tree.specs.declared.aggregation.Aggregation.{Aggregation}
use Rattle.agg_request_tree.specs.declared.aggregation.AggregationVariants as variants
use variants.{AggregationVariants}
use variants.TheVariants as asks
use Rattle.agg_metric.specs.declared.request_data.StatsType.TheVariants as stats
use Rattle.agg_engine_tree.specs.segment_context.Additions.{KeepsData}
use Rattle.agg_engine_tree.specs.segment_context.Context.{ArePlansOf, IsAskedAt, IsPlanOf, Meaning}
use Rattle.agg_engine_tree.specs.segment_context.Plan.{Plan, Plans, plans_of}
use Rattle.agg_engine_tree.specs.declared.segment_context.context.PerRequestAggSegCtx.{
  PerRequestAggSegCtx,
}
use Rattle.agg_engine_tree.specs.declared.segment_context.node.AggKind.{AggKind}
use Rattle.agg_engine_tree.specs.declared.segment_context.node.AggKind.TheVariants as kind

-- nothing is lost where nothing changes
pub keeps-same : (ctx : PerRequestAggSegCtx) → KeepsData ctx ctx
keeps-same ctx = record {
  filters = λ i x at. at;
  metrics = λ i x at. at;
  composites = λ i x at. at;
}

-- nothing is lost where data is kept twice
pub keeps-then : (old mid new : PerRequestAggSegCtx) → KeepsData old mid → KeepsData mid new
    → KeepsData old new
keeps-then old mid new first then = record {
  filters = λ i x at. then.filters i x (first.filters i x at);
  metrics = λ i x at. then.metrics i x (first.metrics i x at);
  composites = λ i x at. then.composites i x (first.composites i x at);
}

module _ (meaning : Meaning) (old new : PerRequestAggSegCtx) (kept : KeepsData old new) where
  -- the data of what is asked stays so
  pub asked-kept : (name : List ℕ) (agg : AggregationVariants QueryTree) (k : AggKind) (index : ℕ)
      → IsAskedAt meaning old name agg k index → IsAskedAt meaning new name agg k index
  asked-kept name (asks.Composite a) kind.Composite index (req, at, named, sources, size, after) =
      (req, kept.composites index req at, named, sources, size, after)
  asked-kept name (asks.Filter a) kind.Filter index (req, at, named, query) =
      (req, kept.filters index req at, named, query)
  asked-kept name (asks.Count a) (kind.StatsKind stats.Count) index (req, at, named, field, of) =
      (req, kept.metrics index req at, named, field, of)
  asked-kept name (asks.Max a) (kind.StatsKind stats.Max) index (req, at, named, field, of) =
      (req, kept.metrics index req at, named, field, of)
  asked-kept name (asks.Min a) (kind.StatsKind stats.Min) index (req, at, named, field, of) =
      (req, kept.metrics index req at, named, field, of)
  asked-kept name (asks.Sum a) (kind.StatsKind stats.Sum) index (req, at, named, field, of) =
      (req, kept.metrics index req at, named, field, of)
  asked-kept name _ _ index asked = absurd asked

  mutual
    -- a plan stays that of an aggregation
    pub plan-kept : (name : List ℕ) (a : Aggregation QueryTree) (plan : Plan)
        → IsPlanOf meaning old name a plan → IsPlanOf meaning new name a plan
    plan-kept name a (Plan.node k index below) is = (
      asked-kept name (agg_of a) k index is.0,
      plans-kept (below_of a) below is.1,
    )

    -- plans stay those of a request
    pub plans-kept : (request : Request QueryTree) (plans : Plans)
        → ArePlansOf meaning old request plans → ArePlansOf meaning new request plans
    plans-kept [] Plans.none are = tt
    plans-kept (a ∷ request) (Plans.more plan plans) are =
        (plan-kept a.0 a.1 plan are.0, plans-kept request plans are.1)
    plans-kept [] (Plans.more plan plans) are = absurd are
    plans-kept (a ∷ request) Plans.none are = absurd are

-- one aggregation more has one plan more
pub plans-more : (meaning : Meaning) (ctx : PerRequestAggSegCtx) (request : Request QueryTree)
    (plans : List Plan) (name : List ℕ) (a : Aggregation QueryTree) (plan : Plan)
    → ArePlansOf meaning ctx request (plans_of plans) → IsPlanOf meaning ctx name a plan
    → ArePlansOf meaning ctx (request ++ (name, a) ∷ []) (plans_of (plans ++ plan ∷ []))
plans-more meaning ctx [] [] name a plan are one = (one, tt)
plans-more meaning ctx [] (p ∷ plans) name a plan are one = absurd are
plans-more meaning ctx (e ∷ request) [] name a plan are one = absurd are
plans-more meaning ctx (e ∷ request) (p ∷ plans) name a plan are one =
    (are.0, plans-more meaning ctx request plans name a plan are.1 one)
