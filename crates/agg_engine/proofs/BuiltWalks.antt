-- A walk of a request is one of the request with a tree in place of each builder.
use Rattle.std.proofs.Common.{◌≡◌, ℕ, zero, suc, List, [], ◌∷◌, Bool, refl, subst, sym}
use Rattle.std.specs.List.{AllZip}
use Rattle.agg_values.specs.Names.{Named}
use Rattle.agg_values.specs.declared.after_key.AfterKey.{AfterKey}
use Rattle.agg_segment.specs.storage.Document.{Fields}
use Rattle.agg_segment.specs.Query.{matches}
use Rattle.agg_segment.specs.SnapshotDocuments.{SnapshotDocuments}
use Rattle.agg_segment.specs.declared.query.QueryTree.{QueryTree}
use Rattle.agg_request_tree.specs.Request.{Request, agg_of, below_of, with_builders}
use Rattle.agg_request_tree.specs.Request.{with_builders_in, with_own_builder}
use Rattle.agg_request_tree.specs.declared.aggregation.Aggregation.{Aggregation}
use Rattle.agg_request_tree.specs.declared.aggregation.AggregationVariants as variants
use variants.{AggregationVariants}
use variants.TheVariants.{Filter, Composite, Count, Max, Min, Sum}
use Rattle.agg_request_tree.specs.ChangedRequest.{request_after, request_at_size, with_after}
use Rattle.agg_request_tree.specs.ChangedRequest.{with_size}
use Rattle.agg_engine_tree.proofs.lemmas.segment_context.Built.{agg-built, below-built}
use Rattle.agg_engine.proofs.lemmas.collectors.BuiltPages.{built-changed}
use Rattle.agg_engine.proofs.lemmas.collectors.BuiltRequests.{same-matching}
use Rattle.agg_results.specs.declared.final_results.types.AggregationResult.{AggregationResult}
use Rattle.agg_results.specs.declared.final_results.types.AggregationResults.{AggregationResults}
use Rattle.agg_results.specs.intermediate_results.Shown.{Results}
use Rattle.agg_results.specs.Results.{AreResults, EachHas, IsBucket, IsFilterShown, IsResult}
use Rattle.agg_results.specs.Results.{IsResultTo}
use Rattle.agg_engine.specs.Walk.{IfFull, IsWalk, after_in, matching_documents}

-- what is told of each two is told of them otherwise
zip-weaker : {X Y : Type 0} (P Q : X → Y → Type 0) → ((x : X) (y : Y) → P x y → Q x y)
    → (xs : List X) (ys : List Y) → AllZip P xs ys → AllZip Q xs ys
zip-weaker P Q weaker [] [] all = all
zip-weaker P Q weaker [] (y ∷ ys) all = all
zip-weaker P Q weaker (x ∷ xs) [] all = all
zip-weaker P Q weaker (x ∷ xs) (y ∷ ys) all =
    (weaker x y all.0, zip-weaker P Q weaker xs ys all.1)

module _ {B : Type 0} (is_match : B → Fields → Bool) (of : B → QueryTree)
    (built : (b : B) (d : Fields) → is_match b d ≡ matches (of b) d) where
  -- what is told to a depth of an aggregation is told of the built one
  abbrev Falls : ℕ → Type 0
  Falls depth =
      (a : Aggregation B) (documents : List Fields) (s : AggregationResult)
      → IsResultTo is_match depth a documents s
      → IsResultTo matches depth (with_builders_in of a) documents s

  -- what is told of the results below, and of those below a built aggregation
  abbrev Below : ℕ → Request B → List Fields → Results → Type 0
  Below depth = EachHas is_match (IsResultTo is_match depth)

  abbrev BuiltBelow : ℕ → Request QueryTree → List Fields → Results → Type 0
  BuiltBelow depth = EachHas matches (IsResultTo matches depth)

  each-built : (depth : ℕ) → Falls depth → (request : Request B) (documents : List Fields)
      (results : Results) → Below depth request documents results
      → BuiltBelow depth (with_builders of request) documents results
  each-built depth falls [] documents [] each = each
  each-built depth falls [] documents (s ∷ ss) each = each
  each-built depth falls (a ∷ request) documents [] each = each
  each-built depth falls (a ∷ request) documents (s ∷ ss) each = (
    (each.0.0, falls a.1 documents s.1 each.0.1),
    each-built depth falls request documents ss each.1,
  )

  own-built : (depth : ℕ) → Falls depth → (agg : AggregationVariants B) (below : Request B)
      (documents : List Fields) (s : AggregationResult)
      → IsResult is_match (Below depth) agg below documents s
      → IsResult matches (BuiltBelow depth) (with_own_builder of agg) (with_builders of below)
      documents s
  own-built depth falls (Filter a) below documents s (inside, has, is) =
      subst (λ ds. IsFilterShown matches (BuiltBelow depth) ds (with_builders of below) s)
      (sym (same-matching is_match of built a.query documents))
      (inside, each-built depth falls below _ inside has, is)
  own-built depth falls (Composite a) below documents s (page, entries, is_page, buckets, is) = (
    page,
    entries,
    is_page,
    zip-weaker (IsBucket is_match (Below depth) a.sources below)
        (IsBucket matches (BuiltBelow depth) a.sources (with_builders of below))
        (λ entry bucket (inside, has, shown).
        (inside, each-built depth falls below entry.documents inside has, shown))
        page entries buckets,
    is,
  )
  own-built depth falls (Count a) below documents s is = is
  own-built depth falls (Max a) below documents s is = is
  own-built depth falls (Min a) below documents s is = is
  own-built depth falls (Sum a) below documents s is = is

  result-built : (depth : ℕ) → Falls depth
  result-built zero a documents s is = is
  result-built (suc depth) a documents s is =
      subst (λ (agg : AggregationVariants QueryTree).
      IsResult matches (BuiltBelow depth) agg (below_of (with_builders_in of a)) documents s)
      (sym (agg-built of a))
      (subst (λ (below : Request QueryTree).
      IsResult matches (BuiltBelow depth) (with_own_builder of (agg_of a)) below documents s)
      (sym (below-built of a))
      (own-built depth (result-built depth) (agg_of a) (below_of a) documents s is))

  -- the results of a request are those of the built one
  pub results-built : (request : Request B) (documents : List Fields)
      (results : AggregationResults) → AreResults is_match request documents results
      → AreResults matches (with_builders of request) documents results
  results-built request documents results are depth =
      each-built depth (result-built depth) request documents results.0 (are depth)

  pub size-built : (size : ℕ) (agg : AggregationVariants B)
      → with_own_builder of (with_size size agg) ≡ with_size size (with_own_builder of agg)
  size-built size (Composite c) = refl
  size-built size (Filter a) = refl
  size-built size (Count a) = refl
  size-built size (Max a) = refl
  size-built size (Min a) = refl
  size-built size (Sum a) = refl

  after-built : (after : Named AfterKey) (agg : AggregationVariants B)
      → with_own_builder of (with_after after agg) ≡ with_after after (with_own_builder of agg)
  after-built after (Composite c) = refl
  after-built after (Filter a) = refl
  after-built after (Count a) = refl
  after-built after (Max a) = refl
  after-built after (Min a) = refl
  after-built after (Sum a) = refl

  module _ (name : List ℕ) (query : QueryTree) where
    full-weaker : (after : Named AfterKey) (P Q R : Type 0) → (Q → R) → IfFull after P Q
        → IfFull after P R
    full-weaker [] P Q R weaker is = is
    full-weaker (key ∷ after) P Q R weaker is = weaker is

    -- a walk of a request is one of the built request
    pub walk-built : (request : Request B) (snapshots : List SnapshotDocuments)
        (pages : List AggregationResults) (ended : Bool)
        → IsWalk is_match name query request snapshots pages ended
        → IsWalk matches name query (with_builders of request) snapshots pages ended
    walk-built request [] [] ended walk = walk
    walk-built request [] (r ∷ rs) ended walk = walk
    walk-built request (s ∷ snapshots) [] ended walk = walk
    walk-built request (s ∷ snapshots) (r ∷ rs) ended (here, later) = (
      subst (λ (built_request : Request QueryTree). AreResults matches built_request
          (matching_documents query s) r)
          (built-changed of (with_size s.page_size) (with_size s.page_size)
          (size-built s.page_size) name request)
          (results-built (request_at_size name s.page_size request) (matching_documents query s) r
          here),
      full-weaker (after_in name r) _ _ _
          (λ walk.
          subst (λ (built_request : Request QueryTree).
          IsWalk matches name query built_request snapshots rs ended)
          (built-changed of (with_after (after_in name r)) (with_after (after_in name r))
          (after-built (after_in name r)) name request)
          (walk-built (request_after name (after_in name r) request) snapshots rs ended walk))
          later,
    )
