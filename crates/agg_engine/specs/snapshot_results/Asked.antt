-- What a page is asked.
use Rattle.std.specs.Prelude.{◌≡◌}
use Rattle.agg_segment.specs.declared.query.QueryTree.{QueryTree}
use Rattle.agg_request_tree.specs.Faults.{IsSoundRequest}
use Rattle.agg_request_tree.specs.Names.{NamesAscend}
use Rattle.agg_request_tree.specs.Request.{Request, with_builders}
use Rattle.agg_engine_tree.specs.segment_context.Pages.{paged}
use Rattle.agg_engine_tree.specs.segment_context.Trees.{AreOfRequest, AreTreesOf}
use Rattle.agg_engine.specs.declared.snapshot_results.context.PageRequest.{PageRequest}

-- a page may be asked: the trees are those of the request, which is sound with its page, and whose
-- names ascend
pub record MayBeAsked {B : Type 0} (page : PageRequest B) : Type 0 where
  pub trees : AreOfRequest page.request.now page.params.now.trees
  pub sound : IsSoundRequest (paged page.params.now.page page.request.now)
  pub names : NamesAscend page.request.now

-- the request that a page asks: with its page, and with the trees of builders in their place
pub record IsAsked {B : Type 0} (page : PageRequest B) (request : Request QueryTree)
    : Type 0 where
  pub made : B → QueryTree
  pub trees : AreTreesOf made page.request.now page.params.now.trees
  pub is : request ≡ paged page.params.now.page (with_builders made page.request.now)
