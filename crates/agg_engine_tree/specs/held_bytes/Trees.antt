-- What a tree of a request took, and what the request counts over it.
use Rattle.std.specs.Prelude.{◌≡◌, ◌<◌, ◌⊎◌, ℕ, List}
use Rattle.std.specs.List.{All, range_with_len, sum_by}
use Rattle.agg_cache.specs.Waiting.{docs_of, is_id}
use Rattle.agg_segment.specs.storage.Document.{Fields}
use Rattle.agg_segment.specs.Segment.{Stored, documents_at}
use Rattle.agg_segment.specs.declared.query.QueryTree.{QueryTree}
use Rattle.agg_request_tree.specs.Request.{Request}
use Rattle.agg_engine_tree.specs.segment_context.Context.{ArePlansOf, IsMeant, Meaning}
use Rattle.agg_engine_tree.specs.segment_context.Plan.{Plans}
use Rattle.agg_engine_tree.specs.declared.segment_context.context.PerRequestAggSegCtx.{
  PerRequestAggSegCtx,
}
use Rattle.agg_engine_tree.specs.collector_tree.Tree.{Fits, Held, Helds, IsFor, IsGroupOf}

-- a tree is that of a request in a context, and right for the documents that it took under parents
pub record IsTreeOf (meaning : Meaning) (ctx : PerRequestAggSegCtx) (request : Request QueryTree)
    (held : Held) (taken : List (ℕ × ℕ)) : Type 0 where
  pub meant : IsMeant meaning ctx
  pub plans : Plans
  pub asked : ArePlansOf meaning ctx request plans
  pub nodes : IsGroupOf plans held
  pub fits : Fits ctx held
  pub visits : ℕ
  pub right : IsFor meaning ctx held taken visits

-- a group of one tree
abbrev pub group_of_one : Held → Held
group_of_one tree = Held.group (Helds.more tree Helds.none)

-- a tree as a group: it is one, or is the only tree of one
abbrev pub IsAsGroup : Held → Held → Type 0
IsAsGroup tree root = (root ≡ tree) ⊎ (root ≡ group_of_one tree)

-- the documents that were taken under a parent
abbrev pub taken_under : Stored → List (ℕ × ℕ) → ℕ → List Fields
taken_under segment taken parent = documents_at segment (docs_of (is_id parent) taken)

-- a number for the documents of each parent, summed up over the parents below a number
abbrev pub over_parents : (List Fields → ℕ) → Stored → List (ℕ × ℕ) → ℕ → ℕ
over_parents bytes segment taken parents =
    sum_by (λ parent. bytes (taken_under segment taken parent)) (range_with_len 0 parents)

-- each document was taken under a parent below a number
abbrev pub AreUnder : ℕ → List (ℕ × ℕ) → Type 0
AreUnder parents taken = All (λ e. e.0 < parents) taken

-- each document is one of the segment
abbrev pub AreOfSegment : Stored → List (ℕ × ℕ) → Type 0
AreOfSegment segment taken = All (λ e. e.1 < segment.count) taken
