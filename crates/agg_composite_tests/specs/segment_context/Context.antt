-- Contexts of requests.
use Rattle.std.specs.Prelude.{◌≡◌, List, Some, slice_get}
use Rattle.agg_segment.specs.Segment.{Stored}
use Rattle.agg_segment.specs.declared.query.QueryTree.{QueryTree}
use Rattle.agg_request_tree.specs.Request.{Request}
use Rattle.agg_metric.specs.declared.request_data.MetricAggReqData.{MetricAggReqData}
use Rattle.agg_metric.specs.declared.request_data.StatsType.TheVariants as stats
use Rattle.agg_engine_tree.specs.segment_context.Context.{IsContextOf, Meaning}
use Rattle.agg_engine_tree.specs.segment_context.Plan.{Plan, Plans}
use Rattle.agg_engine_tree.specs.declared.segment_context.context.PerRequestAggSegCtx.{
  PerRequestAggSegCtx,
}
use Rattle.agg_engine_tree.specs.declared.segment_context.node.AggKind.TheVariants as kind

-- a context is that of some request in a segment
abbrev pub IsContextIn : Stored → PerRequestAggSegCtx → Type 0
IsContextIn segment ctx =
    (meaning : Meaning) × (request : Request QueryTree) × (meaning.segment ≡ segment)
    × IsContextOf meaning ctx request

-- the first metric is a count of values
abbrev pub HasCountFirst : List MetricAggReqData → Type 0
HasCountFirst metrics =
    (req : MetricAggReqData) × (slice_get metrics 0 ≡ Some req) × (req.collecting_for ≡ stats.Count)

-- a composite with a count below it, and a filter, each with the first data of its kind
abbrev pub planned : Plans
planned =
    Plans.more
    (Plan.node kind.Composite 0
    (Plans.more (Plan.node (kind.StatsKind stats.Count) 0 Plans.none) Plans.none))
    (Plans.more (Plan.node kind.Filter 0 Plans.none) Plans.none)
