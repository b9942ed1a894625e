-- What aggregations are asked in a segment, and trees of collectors for it.
use Rattle.std.specs.Prelude.{◌≡◌, ℕ, List}
use Rattle.agg_segment.specs.Segment.{Stored}
use Rattle.agg_segment.specs.declared.query.QueryTree.{QueryTree}
use Rattle.agg_request_tree.specs.Names.{NamesAscend}
use Rattle.agg_request_tree.specs.Request.{Request}
use Rattle.agg_engine_tree.specs.segment_context.Context.{IsContextOf, Meaning}
use Rattle.agg_engine_tree.specs.declared.segment_context.context.PerRequestAggSegCtx.{
  PerRequestAggSegCtx,
}
use Rattle.agg_engine_tree.specs.collector_tree.Tree.{Held}
use Rattle.agg_engine.specs.snapshot_results.Trees.{IsRight}

-- a context is that of some request in a segment
pub record IsContextIn (segment : Stored) (ctx : PerRequestAggSegCtx) : Type 0 where
  pub request : Request QueryTree
  pub meaning : Meaning
  pub same : meaning.segment ≡ segment
  pub context : IsContextOf meaning ctx request
  pub names : NamesAscend request

-- a tree is that of the request of a context, and right for what it took
pub record IsTreeFor (ctx : PerRequestAggSegCtx) (held : Held) : Type 0 where
  pub request : Request QueryTree
  pub meaning : Meaning
  pub names : NamesAscend request
  pub taken : List (ℕ × ℕ)
  pub visits : ℕ
  pub right : IsRight ctx request meaning held taken visits
