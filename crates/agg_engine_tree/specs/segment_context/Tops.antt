-- Filters of a request know whether they stand at its top.
use Rattle.std.specs.Prelude.{◌≡◌, ℕ, Bool, List, Some, ⊤, false, option_map, slice_get}
use Rattle.agg_filter.specs.declared.request_data.FilterAggReqData.{FilterAggReqData}
use Rattle.agg_engine_tree.specs.segment_context.Plan.{Plan, Plans}
use Rattle.agg_engine_tree.specs.declared.segment_context.node.AggKind.{AggKind}
use Rattle.agg_engine_tree.specs.declared.segment_context.node.AggKind.TheVariants as kind

-- a node of a kind knows whether it stands at the top, if it is a filter's
abbrev pub KnowsOwn : Bool → List FilterAggReqData → AggKind → ℕ → Type 0
KnowsOwn top filters kind.Filter index =
    option_map (λ req. req.is_top_level) (slice_get filters index) ≡ Some top
KnowsOwn top filters _ index = ⊤

abbrev mutual
  -- a node knows whether it stands at the top, and those below it know that they don't
  pub KnowsTop : Bool → List FilterAggReqData → Plan → Type 0
  KnowsTop top filters (Plan.node kind index below) =
      KnowsOwn top filters kind index × KnowTop false filters below

  -- so do all of these
  pub KnowTop : Bool → List FilterAggReqData → Plans → Type 0
  KnowTop top filters Plans.none = ⊤
  KnowTop top filters (Plans.more plan plans) =
      KnowsTop top filters plan × KnowTop top filters plans
