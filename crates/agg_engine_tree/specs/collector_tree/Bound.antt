-- How many steps a call of a tree takes at most.
use Rattle.std.specs.Prelude.{◌+◌, ◌*◌, ◌≤◌, ◌++◌, ℕ, List}
use Rattle.agg_segment.specs.Query.{matches}
use Rattle.agg_segment.specs.Segment.{documents_at}
use Rattle.agg_segment.specs.declared.query.QueryTree.{QueryTree}
use Rattle.agg_request_tree.specs.Request.{Request}
use Rattle.agg_request_tree.specs.declared.aggregation.Aggregation.{Aggregation}
use Rattle.agg_composite.specs.buckets.Visits.{docs_in}
use Rattle.agg_engine_tree.specs.segment_context.Context.{ArePlansOf, IsMeant, IsPlanOf, Meaning}
use Rattle.agg_engine_tree.specs.segment_context.Plan.{Plan, Plans}
use Rattle.agg_engine_tree.specs.declared.segment_context.context.PerRequestAggSegCtx.{
  PerRequestAggSegCtx,
}
use Rattle.agg_engine_tree.specs.collector_tree.Counting.{counted_in, counted_of}
use Rattle.agg_engine_tree.specs.collector_tree.Tree.{Held, IsFor, IsGroupOf, IsOf}

-- whatever a tree answers, its steps are at most three for each document that composites count of
-- all that it took, less what it visited before
pub record TakesMost (ctx : PerRequestAggSegCtx) (pairs : List (ℕ × ℕ)) (old : Held)
    (steps steps_now : ℕ) : Type 0 where
  pub node : (meaning : Meaning) → IsMeant meaning ctx → (taken : List (ℕ × ℕ)) (visits : ℕ)
      → IsFor meaning ctx old taken visits
      → (name : List ℕ) (a : Aggregation QueryTree) (plan : Plan)
      → IsPlanOf meaning ctx name a plan → IsOf plan old
      → steps_now + 3 * visits
      ≤ steps
      + 3 * counted_in matches a (documents_at meaning.segment (docs_in (taken ++ pairs)))
  pub group : (meaning : Meaning) → IsMeant meaning ctx → (taken : List (ℕ × ℕ)) (visits : ℕ)
      → IsFor meaning ctx old taken visits
      → (request : Request QueryTree) (plans : Plans)
      → ArePlansOf meaning ctx request plans → IsGroupOf plans old
      → steps_now + 3 * visits
      ≤ steps
      + 3 * counted_of matches request (documents_at meaning.segment (docs_in (taken ++ pairs)))
