-- What the results of a tree of collectors stand for.
use Rattle.std.specs.Prelude.{◌≡◌, ◌<◌, ◌⊎◌, ℕ, List, [], Option, None, Some, All, Contains, IsSome}
use Rattle.std.specs.Map.{keys_of}
use Rattle.agg_values.specs.Names.{value_of}
use Rattle.agg_cache.specs.Waiting.{docs_of, is_id}
use Rattle.agg_segment.specs.Query.{matches}
use Rattle.agg_segment.specs.Segment.{Stored, documents_at}
use Rattle.agg_segment.specs.declared.query.QueryTree.{QueryTree}
use Rattle.agg_request_tree.specs.Request.{Request}
use Rattle.agg_request_tree.specs.declared.aggregation.Aggregation.{Aggregation}
use Rattle.agg_results.specs.intermediate_results.Intermediate.{Held as Results}
use Rattle.agg_results.specs.StandsFor.{StandsFor, StandsTo}
use Rattle.agg_engine_tree.specs.segment_context.Context.{ArePlansOf, IsMeant, IsPlanOf, Meaning}
use Rattle.agg_engine_tree.specs.segment_context.Plan.{Plan, Plans}
use Rattle.agg_engine_tree.specs.declared.segment_context.context.PerRequestAggSegCtx.{
  PerRequestAggSegCtx,
}
use Rattle.agg_engine_tree.specs.collector_tree.Tree.{Fits, Held, IsFlushed, IsFor}
use Rattle.agg_engine_tree.specs.collector_tree.Tree.{IsGroupOf, IsOf}
use Rattle.agg_engine_tree.specs.tree_results.Names.{HasNamesApart, names_of}

-- the documents that were taken under a parent; without a parent there are none
abbrev pub docs_taken : Option ℕ → List (ℕ × ℕ) → List ℕ
docs_taken None taken = []
docs_taken (Some parent) taken = docs_of (is_id parent) taken

-- the numbers are those of documents of a segment
abbrev pub AreDocsOf : Stored → List ℕ → Type 0
AreDocsOf segment docs = All (λ doc. doc < segment.count) docs

-- a tree is right for what it took, and what it took under a parent are documents of the segment
pub record IsTrail (meaning : Meaning) (ctx : PerRequestAggSegCtx) (h : Held) (parent : Option ℕ)
    (taken : List (ℕ × ℕ)) : Type 0 where
  pub meant : IsMeant meaning ctx
  pub visits : ℕ
  pub right : IsFor meaning ctx h taken visits
  pub within : AreDocsOf meaning.segment (docs_taken parent taken)

module _ (ctx : PerRequestAggSegCtx) (h : Held) (parent : Option ℕ) where
  -- under the name of a tree's aggregation stands the result over the documents that the tree took
  -- under the parent, at every depth
  abbrev pub NodeStands : Results → Type 0
  NodeStands results =
      (meaning : Meaning) (taken : List (ℕ × ℕ)) → IsTrail meaning ctx h parent taken
      → (name : List ℕ) (a : Aggregation QueryTree) (plan : Plan)
      → IsPlanOf meaning ctx name a plan → IsOf plan h
      → (depth : ℕ) → StandsTo matches depth a
      (documents_at meaning.segment (docs_taken parent taken)) (value_of name results)

  -- under the name of each of several aggregations stands the result over the documents that their
  -- tree took under the parent, at every depth
  abbrev pub EachStands : Results → Type 0
  EachStands results =
      (meaning : Meaning) (taken : List (ℕ × ℕ)) → IsTrail meaning ctx h parent taken
      → (request : Request QueryTree) (plans : Plans)
      → ArePlansOf meaning ctx request plans → IsGroupOf plans h
      → (depth : ℕ) → All (λ a. StandsTo matches depth a.1
      (documents_at meaning.segment (docs_taken parent taken)) (value_of a.0 results)) request

  -- the results of several aggregations stand for the documents that their tree took under the
  -- parent: no other name is held
  abbrev pub GroupStands : Results → Type 0
  GroupStands results =
      (meaning : Meaning) (taken : List (ℕ × ℕ)) → IsTrail meaning ctx h parent taken
      → (request : Request QueryTree) (plans : Plans)
      → ArePlansOf meaning ctx request plans → IsGroupOf plans h
      → StandsFor matches request (documents_at meaning.segment (docs_taken parent taken)) results

-- results have no other names than before but these
abbrev pub HasOnlyMore : List (List ℕ) → Results → Results → Type 0
HasOnlyMore names old new =
    All (λ name. Contains (keys_of old) name ⊎ Contains names name) (keys_of new)

-- results have the same as before under all names but these
abbrev pub IsSameBut : List (List ℕ) → Results → Results → Type 0
IsSameBut names old new =
    (name : List ℕ) → ¬ (Contains names name) → value_of name new ≡ value_of name old

-- results hold none of these names
abbrev pub HoldsNone : List (List ℕ) → Results → Type 0
HoldsNone names results = All (λ name. value_of name results ≡ None) names

-- results hold all of these names
abbrev pub HoldsAll : List (List ℕ) → Results → Type 0
HoldsAll names results = All (λ name. IsSome (value_of name results)) names

-- a tree may add its results to others: it is right for what it took, nothing waits in it, and its
-- names are apart and not held
pub record MayAdd (ctx : PerRequestAggSegCtx) (h : Held) (old : Results) : Type 0 where
  pub meaning : Meaning
  pub taken : List (ℕ × ℕ)
  pub visits : ℕ
  pub meant : IsMeant meaning ctx
  pub right : IsFor meaning ctx h taken visits
  pub fits : Fits ctx h
  pub flushed : IsFlushed h
  pub apart : HasNamesApart ctx h
  pub absent : HoldsNone (names_of ctx h) old

-- a tree added its results for a parent
pub record Adds (ctx : PerRequestAggSegCtx) (h : Held) (parent : Option ℕ) (old new : Results)
    : Type 0 where
  pub others : IsSameBut (names_of ctx h) old new
  pub known : HasOnlyMore (names_of ctx h) old new
  pub held : HoldsAll (names_of ctx h) new
  pub one : NodeStands ctx h parent new
  pub each : EachStands ctx h parent new
  pub all : old ≡ [] → GroupStands ctx h parent new
