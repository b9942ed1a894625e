-- What a context shows of its nodes: their names, kinds and children.
use Rattle.std.specs.Prelude.{ℕ, List, Bool, false, Option, None, Some, codes, map, option_map}
use Rattle.std.specs.Prelude.{slice_get, ⊤}
use Rattle.std.specs.Option.{option_map_or}
use Rattle.std.specs.Str.{bytes_eq}
use Rattle.agg_segment.specs.declared.query.QueryTree.{QueryTree}
use Rattle.agg_request_tree.specs.Request.{Request}
use Rattle.agg_request_tree.specs.declared.aggregation.Aggregation.{Aggregation}
use Rattle.agg_request_tree.specs.declared.aggregation.Aggregation.TheOpen.{Aggregation-F}
use Rattle.agg_request_tree.specs.declared.aggregation.Aggregation.TheFolds.{fold-Aggregation}
use Rattle.agg_request_tree.specs.declared.aggregation.AggregationVariants.{AggregationVariants}
use Rattle.agg_request_tree.specs.declared.aggregation.AggregationVariants.TheVariants as asks
use Rattle.agg_engine_tree.specs.segment_context.Context.{IsPlanOf, Meaning}
use Rattle.agg_engine_tree.specs.segment_context.Plan.{plan_of}
use Rattle.agg_engine_tree.specs.declared.segment_context.context.PerRequestAggSegCtx.{
  PerRequestAggSegCtx,
}
use Rattle.agg_engine_tree.specs.declared.segment_context.node.AggKind.{AggKind}
use Rattle.agg_engine_tree.specs.declared.segment_context.node.AggKind.TheVariants as kind
use Rattle.agg_engine_tree.specs.declared.segment_context.node.AggRefNode.{AggRefNode}
use Rattle.agg_engine_tree.specs.declared.segment_context.node.AggRefNode.TheViews.{out-AggRefNode}
use Rattle.agg_engine_tree.specs.declared.segment_context.view.AggTreeViewNode.{AggTreeViewNode}
use Rattle.agg_engine_tree.specs.declared.segment_context.view.AggTreeViewNode.TheViews.{
  roll-AggTreeViewNode,
}

-- ---- names

-- the name in the data at an index of a kind, if there is such data
abbrev pub name_at : PerRequestAggSegCtx → AggKind → ℕ → Option (List ℕ)
name_at ctx (kind.StatsKind computed) index =
    option_map (λ req. req.name) (slice_get ctx.stats_metric_req_data index)
name_at ctx kind.Filter index = option_map (λ req. req.name) (slice_get ctx.filter_req_data index)
name_at ctx kind.Composite index =
    option_map (λ req. req.name) (slice_get ctx.composite_req_data index)

-- the name of a node
abbrev pub name_in : PerRequestAggSegCtx → AggRefNode → Option (List ℕ)
name_in ctx node =
    name_at ctx (out-AggRefNode node).kind (out-AggRefNode node).idx_in_req_data

-- the nodes below a node
abbrev pub children_of : AggRefNode → List AggRefNode
children_of node = (out-AggRefNode node).children

-- whether a node is that of a name
abbrev pub is_named : PerRequestAggSegCtx → List ℕ → AggRefNode → Bool
is_named ctx name node = option_map_or (λ own. bytes_eq name own) (name_in ctx node) false

-- a node is that of an aggregation of a name, or there is neither
abbrev pub IsNodeOf : Meaning → PerRequestAggSegCtx → List ℕ → Option (Aggregation QueryTree)
    → Option AggRefNode → Type 0
IsNodeOf meaning ctx name (Some a) (Some node) = IsPlanOf meaning ctx name a (plan_of node)
IsNodeOf meaning ctx name None None = ⊤
IsNodeOf meaning ctx name _ _ = ⊥

-- ---- views

-- the word of a kind
abbrev pub kind_word : AggKind → List ℕ
kind_word (kind.StatsKind computed) = codes "Metric"
kind_word kind.Filter = codes "Filter"
kind_word kind.Composite = codes "Composite"

-- the word of what an aggregation asks
abbrev pub asked_word : {B : Type 0} → AggregationVariants B → List ℕ
asked_word (asks.Filter filter) = codes "Filter"
asked_word (asks.Composite composite) = codes "Composite"
asked_word _ = codes "Metric"

-- the view of an aggregation of a name, where those of its sub-aggregations are so
abbrev pub view_step : {B : Type 0} → Aggregation-F B (List ℕ → AggTreeViewNode) → List ℕ
    → AggTreeViewNode
view_step a name =
    roll-AggTreeViewNode (record {
      name = name;
      kind = asked_word a.agg;
      children = map (λ below. below.1 below.0) a.sub_aggregation;
    })

-- the view of an aggregation of a name: the name, the word of its kind, and the views of those
-- below it
abbrev pub view_in : {B : Type 0} → Aggregation B → List ℕ → AggTreeViewNode
view_in {B = B} = fold-Aggregation B (List ℕ → AggTreeViewNode) view_step

-- the views of the aggregations of a request, in the order of their names
abbrev pub views_of : {B : Type 0} → Request B → List AggTreeViewNode
views_of request = map (λ a. view_in a.1 a.0) request
