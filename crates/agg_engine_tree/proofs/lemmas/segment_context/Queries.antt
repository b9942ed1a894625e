-- The queries of a request's filters, which are gathered one by one.
use Rattle.std.proofs.Common.{◌≡◌, ◌≤◌, List, ◌++◌, ap, append_assoc, sym, ◌∙◌}
use Rattle.agg_request_tree.specs.Request.{Request, agg_of, below_of, listed_in}
use Rattle.agg_request_tree.specs.declared.aggregation.Aggregation.{Aggregation}
use Rattle.agg_request_tree.specs.declared.aggregation.filter.FilterQuery.{FilterQuery}
use Rattle.agg_request_tree.proofs.RequestTrees.{levels, listed-out}
use Rattle.agg_engine_tree.specs.segment_context.Trees.{own_query, queries_of}

module _ {B : Type 0} where
  -- what has been gathered, and what is left, are the queries of the whole
  pub record AreGatheredUpTo (all left : Request B) (before now : List (FilterQuery B))
      : Type 0 where
    pub rest : now ++ queries_of left ≡ before ++ queries_of all
    pub lower : levels left ≤ levels all

  -- the query of an aggregation, and then those below it
  pub queries-out : (a : Aggregation B) (before mid now : List (FilterQuery B))
      → mid ≡ before ++ own_query (agg_of a) → now ≡ mid ++ queries_of (below_of a)
      → now ≡ before ++ listed_in own_query a
  queries-out a before mid now own below =
      below ∙ ap (λ (qs : List (FilterQuery B)). qs ++ queries_of (below_of a)) own
      ∙ append_assoc before (own_query (agg_of a)) (queries_of (below_of a))
      ∙ ap (λ (qs : List (FilterQuery B)). before ++ qs) (sym (listed-out own_query a))
