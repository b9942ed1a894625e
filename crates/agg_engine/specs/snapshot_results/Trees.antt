-- A tree of collectors that takes the documents of a segment.
use Rattle.std.specs.Prelude.{◌≡◌, ◌≤◌, ◌+◌, ◌*◌, ◌++◌, ℕ, List, [], All, map}
use Rattle.agg_segment.specs.storage.Document.{HasNumbersOf64Bits}
use Rattle.agg_segment.specs.Query.{matches}
use Rattle.agg_segment.specs.Segment.{Stored, documents_at}
use Rattle.agg_segment.specs.declared.query.QueryTree.{QueryTree}
use Rattle.agg_request_tree.specs.Ranges.{HasStartOutOfRange}
use Rattle.agg_request_tree.specs.Request.{Request}
use Rattle.agg_request_tree.specs.Uncut.{CountsTooMany}
use Rattle.agg_composite.specs.buckets.Visits.{docs_in}
use Rattle.agg_engine_tree.specs.segment_context.Context.{IsContextOf, IsMeant, Meaning}
use Rattle.agg_engine_tree.specs.segment_context.Plan.{plan_of, plans_of}
use Rattle.agg_engine_tree.specs.declared.segment_context.context.PerRequestAggSegCtx.{
  PerRequestAggSegCtx,
}
use Rattle.agg_engine_tree.specs.collector_tree.Counting.{counted_of}
use Rattle.agg_engine_tree.specs.collector_tree.Tree.{Fits, Held, IsFor, IsGroupOf}

-- documents under parents that a tree of a request may take in all: their numbers are of 64 bits,
-- no start is out of range, and few are counted
pub record MayBeTaken (request : Request QueryTree) (meaning : Meaning) (all : List (ℕ × ℕ))
    : Type 0 where
  pub numbers : All HasNumbersOf64Bits (documents_at meaning.segment (docs_in all))
  pub range : ¬ (HasStartOutOfRange request (documents_at meaning.segment (docs_in all)))
  pub few : ¬ (CountsTooMany matches request (documents_at meaning.segment (docs_in all)))

-- a tree of a request is right for documents that it took
pub record IsRight (ctx : PerRequestAggSegCtx) (request : Request QueryTree) (meaning : Meaning)
    (held : Held) (taken : List (ℕ × ℕ)) (visits : ℕ) : Type 0 where
  pub context : IsContextOf meaning ctx request
  pub nodes : IsGroupOf (plans_of (map plan_of ctx.agg_tree)) held
  pub fits : Fits ctx held
  pub right : IsFor meaning ctx held taken visits

-- a tree right after it was made in a segment: it is that of a context's nodes, and right for no
-- documents
pub record IsNew (ctx : PerRequestAggSegCtx) (segment : Stored) (held : Held) : Type 0 where
  pub nodes : IsGroupOf (plans_of (map plan_of ctx.agg_tree)) held
  pub fits : Fits ctx held
  pub right : (meaning : Meaning) → meaning.segment ≡ segment → IsMeant meaning ctx
      → IsFor meaning ctx held [] 0

-- a tree may take these documents after those that it took
pub record MayTake (ctx : PerRequestAggSegCtx) (held : Held) (pairs : List (ℕ × ℕ)) : Type 0 where
  pub request : Request QueryTree
  pub meaning : Meaning
  pub taken : List (ℕ × ℕ)
  pub visits : ℕ
  pub right : IsRight ctx request meaning held taken visits
  pub all : MayBeTaken request meaning (taken ++ pairs)

-- whatever a tree answers for documents, its steps are at most three for each document that
-- composites count of all that it took, less what it visited before
pub record MostSteps (ctx : PerRequestAggSegCtx) (pairs : List (ℕ × ℕ)) (old : Held)
    (steps steps_now : ℕ) : Type 0 where
  pub most : (request : Request QueryTree) (meaning : Meaning) (taken : List (ℕ × ℕ)) (visits : ℕ)
      → IsRight ctx request meaning old taken visits
      → steps_now + 3 * visits ≤ steps + 3 * counted_of matches request
      (documents_at meaning.segment (docs_in (taken ++ pairs)))
