-- The nodes of a request's context have their data.
use Rattle.std.proofs.Common.{ℕ, List, [], ◌∷◌}
use Rattle.agg_segment.specs.declared.query.QueryTree.{QueryTree}
use Rattle.agg_request_tree.specs.Request.{Request, agg_of, below_of}
use Rattle.agg_request_tree.specs.declared.aggregation.AggregationVariants.{AggregationVariants}
use Rattle.agg_request_tree.specs.declared.aggregation.AggregationVariants.TheVariants as asks
use Rattle.agg_metric.specs.declared.request_data.StatsType.TheVariants as stats
use Rattle.agg_engine_tree.specs.segment_context.Context.{ArePlansOf, IsAskedAt, IsMeant, IsPlanOf}
use Rattle.agg_engine_tree.specs.segment_context.Context.{Meaning}
use Rattle.agg_engine_tree.specs.segment_context.Plan.{Plan, Plans}
use Rattle.agg_engine_tree.specs.declared.segment_context.context.PerRequestAggSegCtx.{
  PerRequestAggSegCtx,
}
use Rattle.agg_engine_tree.specs.declared.segment_context.node.AggKind.{AggKind}
use Rattle.agg_engine_tree.specs.declared.segment_context.node.AggKind.TheVariants as kind
use Rattle.agg_request_tree.specs.declared.aggregation.Aggregation.{Aggregation}
use Rattle.agg_engine_tree.specs.collector_tree.New.{HasData, HaveData}

module _ (meaning : Meaning) (ctx : PerRequestAggSegCtx) (is : IsMeant meaning ctx) where
  -- what an aggregation asks has its data
  asked-data : (name : List ℕ) (asked : AggregationVariants QueryTree) (k : AggKind) (index : ℕ)
      (below : Plans) → IsAskedAt meaning ctx name asked k index → HaveData ctx below
      → HasData ctx (Plan.node k index below)
  asked-data name (asks.Composite a) kind.Composite index below asked rest =
      ((asked.0, asked.1, (is.composites index asked.0 asked.1).sources), rest)
  asked-data name (asks.Composite a) kind.Filter index below asked rest = absurd asked
  asked-data name (asks.Composite a) (kind.StatsKind stats.Count) index below asked rest = absurd
      asked
  asked-data name (asks.Composite a) (kind.StatsKind stats.Max) index below asked rest = absurd
      asked
  asked-data name (asks.Composite a) (kind.StatsKind stats.Min) index below asked rest = absurd
      asked
  asked-data name (asks.Composite a) (kind.StatsKind stats.Sum) index below asked rest = absurd
      asked
  asked-data name (asks.Filter a) kind.Composite index below asked rest = absurd asked
  asked-data name (asks.Filter a) kind.Filter index below asked rest = ((asked.0, asked.1), rest)
  asked-data name (asks.Filter a) (kind.StatsKind stats.Count) index below asked rest = absurd asked
  asked-data name (asks.Filter a) (kind.StatsKind stats.Max) index below asked rest = absurd asked
  asked-data name (asks.Filter a) (kind.StatsKind stats.Min) index below asked rest = absurd asked
  asked-data name (asks.Filter a) (kind.StatsKind stats.Sum) index below asked rest = absurd asked
  asked-data name (asks.Count a) kind.Composite index below asked rest = absurd asked
  asked-data name (asks.Count a) kind.Filter index below asked rest = absurd asked
  asked-data name (asks.Count a) (kind.StatsKind stats.Count) index below asked rest = (
    asked.0,
    asked.1,
  )
  asked-data name (asks.Count a) (kind.StatsKind stats.Max) index below asked rest = absurd asked
  asked-data name (asks.Count a) (kind.StatsKind stats.Min) index below asked rest = absurd asked
  asked-data name (asks.Count a) (kind.StatsKind stats.Sum) index below asked rest = absurd asked
  asked-data name (asks.Max a) kind.Composite index below asked rest = absurd asked
  asked-data name (asks.Max a) kind.Filter index below asked rest = absurd asked
  asked-data name (asks.Max a) (kind.StatsKind stats.Count) index below asked rest = absurd asked
  asked-data name (asks.Max a) (kind.StatsKind stats.Max) index below asked rest = (
    asked.0,
    asked.1,
  )
  asked-data name (asks.Max a) (kind.StatsKind stats.Min) index below asked rest = absurd asked
  asked-data name (asks.Max a) (kind.StatsKind stats.Sum) index below asked rest = absurd asked
  asked-data name (asks.Min a) kind.Composite index below asked rest = absurd asked
  asked-data name (asks.Min a) kind.Filter index below asked rest = absurd asked
  asked-data name (asks.Min a) (kind.StatsKind stats.Count) index below asked rest = absurd asked
  asked-data name (asks.Min a) (kind.StatsKind stats.Max) index below asked rest = absurd asked
  asked-data name (asks.Min a) (kind.StatsKind stats.Min) index below asked rest = (
    asked.0,
    asked.1,
  )
  asked-data name (asks.Min a) (kind.StatsKind stats.Sum) index below asked rest = absurd asked
  asked-data name (asks.Sum a) kind.Composite index below asked rest = absurd asked
  asked-data name (asks.Sum a) kind.Filter index below asked rest = absurd asked
  asked-data name (asks.Sum a) (kind.StatsKind stats.Count) index below asked rest = absurd asked
  asked-data name (asks.Sum a) (kind.StatsKind stats.Max) index below asked rest = absurd asked
  asked-data name (asks.Sum a) (kind.StatsKind stats.Min) index below asked rest = absurd asked
  asked-data name (asks.Sum a) (kind.StatsKind stats.Sum) index below asked rest = (
    asked.0,
    asked.1,
  )

  mutual
    data-of : (name : List ℕ) (a : Aggregation QueryTree) (plan : Plan)
        → IsPlanOf meaning ctx name a plan → HasData ctx plan
    data-of name a (Plan.node k index below) of =
        asked-data name (agg_of a) k index below of.0 (all-data (below_of a) below of.1)

    pub all-data : (request : Request QueryTree) (plans : Plans)
        → ArePlansOf meaning ctx request plans → HaveData ctx plans
    all-data [] Plans.none of = tt
    all-data [] (Plans.more plan plans) of = absurd of
    all-data (a ∷ request) Plans.none of = absurd of
    all-data (a ∷ request) (Plans.more plan plans) of =
        (data-of a.0 a.1 plan of.0, all-data request plans of.1)
