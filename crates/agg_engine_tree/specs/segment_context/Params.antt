-- What contexts of a request are made with in each segment.
use Rattle.std.specs.Prelude.{List, Option}
use Rattle.agg_segment.specs.declared.query.QueryTree.{QueryTree}
use Rattle.agg_engine_tree.specs.declared.segment_context.params.Page.{Page}

-- the trees of the request's filters, in order, and a page, if one is set
pub record Params : Type 0 where
  pub trees : List QueryTree
  pub page : Option Page
