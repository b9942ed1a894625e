-- Why a call of a tree is refused.
use Rattle.std.specs.Prelude.{◌≡◌, ◌<◌, ◌≤◌, ◌^◌, ◌++◌, ◌⊎◌, ⊤, ℕ, List, Some, slice_get}
use Rattle.std.specs.Prelude.{All, Any, length}
use Rattle.agg_cache.specs.declared.error.CollectError.{CollectError}
use Rattle.agg_cache.specs.declared.error.CollectError.TheVariants.{BucketOutOfRange, OutOfMemory}
use Rattle.agg_cache.specs.declared.error.CollectError.TheVariants.{TooMany}
use Rattle.agg_segment.specs.storage.Document.{Fields, HasNumbersOf64Bits}
use Rattle.agg_segment.specs.Query.{matches}
use Rattle.agg_segment.specs.Segment.{documents_at}
use Rattle.agg_segment.specs.declared.query.QueryTree.{QueryTree}
use Rattle.agg_request_tree.specs.Request.{Request}
use Rattle.agg_request_tree.specs.Uncut.{CountsTooMany, uncut_lists}
use Rattle.agg_request_tree.specs.declared.aggregation.Aggregation.{Aggregation}
use Rattle.agg_composite.specs.accessor.Ranges.{AreAllInRange}
use Rattle.agg_composite.specs.declared.accessor.request_data.CompositeAggReqData.{
  CompositeAggReqData,
}
use Rattle.agg_composite.specs.buckets.Visits.{docs_in}
use Rattle.agg_engine_tree.specs.segment_context.Context.{ArePlansOf, IsMeant, IsPlanOf, Meaning}
use Rattle.agg_engine_tree.specs.segment_context.Plan.{Plan, Plans}
use Rattle.agg_engine_tree.specs.declared.segment_context.context.PerRequestAggSegCtx.{
  PerRequestAggSegCtx,
}
use Rattle.agg_engine_tree.specs.collector_tree.Tree.{Held, Helds, IsFor, IsGroupOf, IsOf, nothing}

module _ (meaning : Meaning) (ctx : PerRequestAggSegCtx) where
  -- the composite at an index reads a start outside 64 bits in some of these documents
  abbrev pub IsOutOfRangeAt : ℕ → List ℕ → Type 0
  IsOutOfRangeAt index docs =
      (req : CompositeAggReqData) × (slice_get ctx.composite_req_data index ≡ Some req)
      × (¬ (AreAllInRange meaning.segment req.req.now.sources docs))

  -- some composite of a tree reads a start outside 64 bits in some of these documents
  abbrev mutual
    pub HasStartOutOfRange : Held → List ℕ → Type 0
    HasStartOutOfRange (Held.composite index collector h) docs =
        IsOutOfRangeAt index docs ⊎ HasStartOutOfRange h docs
    HasStartOutOfRange (Held.filter index collector h) docs = HasStartOutOfRange h docs
    HasStartOutOfRange (Held.metric index collector) docs = ⊥
    HasStartOutOfRange (Held.group hs) docs = SomeHasStart hs docs

    pub SomeHasStart : Helds → List ℕ → Type 0
    SomeHasStart Helds.none docs = ⊥
    SomeHasStart (Helds.more h hs) docs = HasStartOutOfRange h docs ⊎ SomeHasStart hs docs

-- ---- lists

-- an aggregation, or one at any depth below it, lists 2^32 documents or more
abbrev pub ListsTooMany : Aggregation QueryTree → List Fields → Type 0
ListsTooMany a documents =
    Any (λ list. 2 ^ 32 ≤ length list) (uncut_lists matches a documents)

-- none of these parents is the last number of its type, which a filter cannot prepare
abbrev pub AreNotLast : List ℕ → Type 0
AreNotLast parents = All (λ parent. parent < 4294967295) parents

-- ---- calls

-- with these pairs after what a tree took, no composite of it, at any depth, has a start outside 64
-- bits
pub record TakesInRange (ctx : PerRequestAggSegCtx) (pairs : List (ℕ × ℕ)) (old : Held)
    : Type 0 where
  pub meaning : Meaning
  pub meant : IsMeant meaning ctx
  pub taken : List (ℕ × ℕ)
  pub visits : ℕ
  pub right : IsFor meaning ctx old taken visits
  pub range : ¬ (HasStartOutOfRange meaning ctx old (docs_in (taken ++ pairs)))

module _ (ctx : PerRequestAggSegCtx) (pairs : List (ℕ × ℕ)) (parents : List ℕ) (old : Held) where
  -- with these pairs after what a tree took, some composite of it has a start outside 64 bits
  pub record RangeTaken : Type 0 where
    pub range : (meaning : Meaning) → IsMeant meaning ctx → (taken : List (ℕ × ℕ)) (visits : ℕ)
        → IsFor meaning ctx old taken visits
        → HasStartOutOfRange meaning ctx old (docs_in (taken ++ pairs))

  -- with these pairs after what a tree took, some list of its request has too many documents, if
  -- none of the parents is the last, and numbers are of 64 bits; the tree isn't empty
  pub record ManyTaken : Type 0 where
    pub some : ¬ (old ≡ nothing)
    pub node : AreNotLast parents → (meaning : Meaning) → IsMeant meaning ctx
        → (taken : List (ℕ × ℕ))
        → All HasNumbersOf64Bits (documents_at meaning.segment (docs_in (taken ++ pairs)))
        → (visits : ℕ) → IsFor meaning ctx old taken visits
        → (name : List ℕ) (a : Aggregation QueryTree) (plan : Plan)
        → IsPlanOf meaning ctx name a plan → IsOf plan old
        → ListsTooMany a (documents_at meaning.segment (docs_in (taken ++ pairs)))
    pub group : AreNotLast parents → (meaning : Meaning) → IsMeant meaning ctx
        → (taken : List (ℕ × ℕ))
        → All HasNumbersOf64Bits (documents_at meaning.segment (docs_in (taken ++ pairs)))
        → (visits : ℕ) → IsFor meaning ctx old taken visits
        → (request : Request QueryTree) (plans : Plans)
        → ArePlansOf meaning ctx request plans → IsGroupOf plans old
        → CountsTooMany matches request
        (documents_at meaning.segment (docs_in (taken ++ pairs)))

  -- why a tree refuses pairs that it gets under these parents, some of which may have no document
  abbrev pub IsRefused : CollectError → Type 0
  IsRefused BucketOutOfRange = RangeTaken
  IsRefused TooMany = ManyTaken
  IsRefused OutOfMemory = ⊤
  IsRefused _ = ⊥
