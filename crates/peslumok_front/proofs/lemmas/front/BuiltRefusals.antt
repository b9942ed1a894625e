-- Why the walk of a page's request is refused is why that of the request without builders is.
use Rattle.std.proofs.Common.{◌≡◌, ◌≤◌, ◌+◌, ◌^◌, ◌∷◌, [], ℕ, zero, suc, List}
use Rattle.std.proofs.Common.{None, Option, Some, ap, arith, inl, inr, length}
use Rattle.std.proofs.Common.{subst, sym}
use Rattle.std.specs.Prelude.{All, Any, IsSome, codes}
use Rattle.agg_values.specs.declared.request_error.AggregationError.TheVariants as aggregation
use Rattle.agg_values.specs.declared.request_error.RequestError.{RequestError}
use Rattle.agg_values.specs.declared.request_error.RequestError.TheVariants as refusal
use Rattle.agg_segment.specs.storage.Document.{Fields}
use Rattle.agg_segment.specs.Query.{matches}
use Rattle.agg_segment.specs.SnapshotDocuments.{SnapshotDocuments}
use Rattle.agg_segment.specs.declared.query.QueryTree.{QueryTree}
use Rattle.agg_request_tree.specs.Faults.{HasFault, IsSound, RequestHasFault}
use Rattle.agg_request_tree.specs.Matching.{built_matches}
use Rattle.agg_request_tree.specs.Ranges.{HasOwnStartOutOfRange, HasStartOutOfRange}
use Rattle.agg_request_tree.specs.Request.{Request, with_builders}
use Rattle.agg_request_tree.specs.Uncut.{CountsTooMany}
use Rattle.agg_request_tree.specs.ChangedRequest.{request_at_size, with_size}
use Rattle.agg_request_tree.specs.BuiltRequest.{built_tree}
use Rattle.agg_engine.proofs.lemmas.collectors.BuiltLists.{lists-built}
use Rattle.agg_engine.proofs.lemmas.collectors.BuiltPages.{built-changed}
use Rattle.agg_engine.proofs.lemmas.collectors.BuiltTrees.{tree-matches}
use Rattle.agg_cache.specs.Limits.{Limits}
use Rattle.agg_engine.specs.snapshot_results.MemoryLimits.{TellsMemory}
use Rattle.agg_engine.specs.Refusals.{MayBeCounted, RefusedAtMost, WalkFailsAtMost}
use Rattle.agg_engine.specs.Refusals.{WalkRefusedAtMost}
use Rattle.agg_engine.specs.Walk.{MayBeAsked, matching_among}
use Rattle.agg_engine.specs.declared.walk.error.WalkError.{WalkError}
use Rattle.agg_engine.specs.declared.walk.error.WalkError.TheVariants as error
use Rattle.agg_engine.proofs.BuiltCounts.{composites-built}
use Rattle.agg_engine.proofs.BuiltRoofs.{low_roof-built, roof-built}
use Rattle.peslumok_front.specs.grouping.Request.{HasNoRequest, IsRequestOf}
use Rattle.peslumok_front.specs.declared.grouping.error.GroupingError.{GroupingError}
use Rattle.peslumok_front.specs.declared.grouping.grouping.Grouping.{Grouping}
use Rattle.peslumok_front.specs.declared.grouping.request.AskedPage.{AskedPage}
use Rattle.peslumok_front.proofs.lemmas.grouping.NoBuilders.{request-none}
use Rattle.peslumok_records.specs.record_index.Index.{AreOneOf}
use Rattle.peslumok_front.specs.front.Causes.{HasNoPage, IsPageRefused, limits_of_people}
use Rattle.peslumok_front.specs.front.Codes.{failure_of_grouping, failure_of_walk}
use Rattle.peslumok_front.proofs.lemmas.front.BuiltRequests.{request-built}
use Rattle.agg_engine.proofs.BuiltWalks.{results-built, size-built}
use Rattle.peslumok_front.proofs.lemmas.front.Failures.{of-grouping, of-walk}
use Rattle.peslumok_front.proofs.lemmas.front.ShownKeys.{groups-named}

-- what holds of some element of one holds of that
of-one : {X : Type 0} (P : X → Type 0) (x : X) → Any P (x ∷ []) → P x
of-one P x (zero, y, within, is, holds) = subst P (sym is) holds
of-one P x (suc k, y, within, is, holds) = absurd (omega (arith, within))

module _ {B : Type 0} (query_for : B → Option QueryTree) (limits : Limits) where
  -- the request with a tree in place of each builder
  abbrev built : Request B → Request QueryTree
  built request = with_builders (built_tree query_for) request

  fault-built : (request : Request B) (refusal : RequestError) → RequestHasFault request refusal
      → RequestHasFault (built request) refusal
  fault-built request refusal =
      subst (Any (λ c. HasFault c refusal))
      (sym (composites-built (built_tree query_for) request))

  out-same : (request : Request B) (documents : List Fields)
      → HasStartOutOfRange (built request) documents ≡ HasStartOutOfRange request documents
  out-same request documents =
      ap (Any (λ c. HasOwnStartOutOfRange c documents))
      (composites-built (built_tree query_for) request)

  many-same : (request : Request B) (documents : List Fields)
      → CountsTooMany matches (built request) documents
      ≡ CountsTooMany (built_matches query_for) request documents
  many-same request documents =
      ap (Any (λ (list : List Fields). 2 ^ 32 ≤ length list))
      (lists-built (built_matches query_for) (built_tree query_for) (tree-matches query_for)
      request documents)

  module _ (query : QueryTree) (request : Request B) (segments : List (List Fields)) where
    abbrev matching : List Fields
    matching = matching_among query segments

    collected-built : MayBeCounted (built_matches query_for) query request segments
        → MayBeCounted matches query (built request) segments
    collected-built (within, few) = (
      subst (λ P. ¬ P) (sym (out-same request matching)) within,
      subst (λ P. ¬ P) (sym (many-same request matching)) few,
    )

    -- why results are refused
    refused-built : (why : WalkError)
        → RefusedAtMost (built_matches query_for) limits query request segments why
        → RefusedAtMost matches limits query (built request) segments why
    refused-built error.BucketOutOfRange is =
        subst (λ P. P) (sym (out-same request matching)) is
    refused-built error.TooMany (within, many) = (
      subst (λ P. ¬ P) (sym (out-same request matching)) within,
      subst (λ P. P) (sym (many-same request matching)) many,
    )
    refused-built (error.Aggregation (aggregation.MemoryExceeded told current)) (may, passed) = (
      collected-built may,
      subst (λ (bytes : List Fields → ℕ). Any (λ documents. TellsMemory limits.memory_limit
          (limits.in_use + bytes documents) 0 told current) segments)
          (sym (roof-built (built_matches query_for) (built_tree query_for)
          (tree-matches query_for) request query)) passed,
    )
    refused-built (error.Aggregation (aggregation.BucketLimitExceeded given n))
        (may, room, same, over, (results, are, count)) = (
          collected-built may,
          subst (λ (bytes : List Fields → ℕ). All (λ documents.
              limits.in_use + bytes documents ≤ limits.memory_limit) segments)
              (sym (low_roof-built (built_matches query_for) (built_tree query_for)
              (tree-matches query_for) request query)) room,
          same,
          over,
          (
            results,
            results-built (built_matches query_for) (built_tree query_for) (tree-matches query_for)
                request matching results are,
            count,
          ),
        )
    refused-built (error.Aggregation (aggregation.DateHistogramParseError part)) is = absurd is
    refused-built (error.Invalid fault) is = absurd is
    refused-built error.UnknownComposite is = absurd is
    refused-built error.QueryBuild is = absurd is
    refused-built error.OutOfMemory is = absurd is

  module _ (grouping : Grouping) (query : QueryTree) (page : AskedPage) (request : Request B)
      (asked : IsRequestOf grouping page request) (only : SnapshotDocuments) where
    -- of the one snapshot
    at-only : (why : WalkError)
        → WalkRefusedAtMost (built_matches query_for) limits (codes "groups") query request
        (only ∷ []) why
        → WalkRefusedAtMost matches limits (codes "groups") query (built request) (only ∷ []) why
    at-only why (inr (none, (results, are, full, later))) = absurd later
    at-only why (inl here) =
        inl (subst
        (λ (r : Request QueryTree). RefusedAtMost matches limits query r only.segments why)
        (built-changed (built_tree query_for) (with_size only.page_size)
        (with_size only.page_size) (size-built (built_matches query_for)
        (built_tree query_for) (tree-matches query_for) only.page_size)
        (codes "groups") request)
        (refused-built query (request_at_size (codes "groups") only.page_size request)
        only.segments why here))

    built_asked : IsRequestOf grouping page (built request)
    built_asked = request-built (built_tree query_for) grouping page request asked

    may-built : MayBeAsked query_for (codes "groups") request (only ∷ [])
        → MayBeAsked Some (codes "groups") (built request) (only ∷ [])
    may-built may = record {
      sound = subst (All IsSound) (sym (composites-built (built_tree query_for) request))
          may.sound;
      room = may.room;
      named = (
        built_asked.are_groups.composite,
        groups-named grouping page (built request)
            built_asked,
      );
      each = subst (All (λ tree. IsSome (Some tree)))
          (sym (request-none grouping page (built request) built_asked))
          (λ k d within. absurd (omega (arith, within)));
    }

    refused-page : (why : WalkError)
        → WalkFailsAtMost query_for limits (codes "groups") query request (only ∷ []) why
        → WalkFailsAtMost Some limits (codes "groups") query (built request) (only ∷ []) why
    refused-page (error.Invalid fault) (inl has) =
        inl (fault-built request (refusal.Invalid fault) has)
    refused-page (error.Invalid fault) (inr none) = inr none
    refused-page error.UnknownComposite unknown =
        absurd (unknown (asked.are_groups.composite, groups-named grouping page request asked))
    refused-page error.QueryBuild (sound, room, named, none) =
        let builder = subst (Any (λ b. query_for b ≡ None))
        (request-none grouping page request asked) none in
        absurd (omega (arith, builder.2))
    refused-page (error.Aggregation (aggregation.DateHistogramParseError part)) has =
        fault-built request (refusal.Aggregation (aggregation.DateHistogramParseError part)) has
    refused-page error.OutOfMemory has = tt
    refused-page error.BucketOutOfRange (may, is) =
        (may-built may, at-only error.BucketOutOfRange is)
    refused-page error.TooMany (may, is) = (may-built may, at-only error.TooMany is)
    refused-page (error.Aggregation (aggregation.BucketLimitExceeded given n)) (may, is) = (
      may-built may,
      at-only (error.Aggregation (aggregation.BucketLimitExceeded given n)) is,
    )
    refused-page (error.Aggregation (aggregation.MemoryExceeded told current)) (may, is) = (
      may-built may,
      at-only (error.Aggregation (aggregation.MemoryExceeded told current)) is,
    )

-- the walk of a page's request over the one snapshot of documents is refused as that of the page is
pub page-refused : {B : Type 0} (query_for : B → Option QueryTree) (grouping : Grouping)
    (query : QueryTree) (page : AskedPage) (request : Request B)
    (snapshots : List SnapshotDocuments)
    (documents : List Fields) (name : List ℕ) (limits : Limits) (why : WalkError)
    → name ≡ codes "groups" → limits ≡ limits_of_people → IsRequestOf grouping page request
    → AreOneOf documents page.size snapshots
    → WalkFailsAtMost query_for limits name query request snapshots why
    → IsPageRefused grouping query documents page why
page-refused query_for grouping query page request snapshots documents name limits why named most
    asked one cause = record {
      request = with_builders (built_tree query_for) request;
      asked = request-built (built_tree query_for) grouping page request asked;
      snapshots = one.only ∷ [];
      one = subst (AreOneOf documents page.size) one.alone one;
      cause = refused-page query_for limits_of_people grouping query page request asked one.only why
          (subst (λ ss.
          WalkFailsAtMost query_for limits_of_people (codes "groups") query request ss why)
          one.alone
          (subst (λ (l : Limits).
          WalkFailsAtMost query_for l (codes "groups") query request snapshots why)
          most
          (subst (λ n. WalkFailsAtMost query_for limits n query request snapshots why) named
          cause)));
    }

-- so there is no page
pub no-walk : {B : Type 0} (query_for : B → Option QueryTree) (grouping : Grouping)
    (query : QueryTree) (page : AskedPage) (request : Request B)
    (snapshots : List SnapshotDocuments)
    (documents : List Fields) (name : List ℕ) (limits : Limits) (why : WalkError)
    → name ≡ codes "groups" → limits ≡ limits_of_people → IsRequestOf grouping page request
    → AreOneOf documents page.size snapshots
    → WalkFailsAtMost query_for limits name query request snapshots why
    → HasNoPage grouping query documents page (failure_of_walk why)
no-walk query_for grouping query page request snapshots documents name limits why named most asked
    one =
    of-walk (WalkFailsAtMost query_for limits name query request snapshots)
    (HasNoPage grouping query documents page) tt
    (λ error. page-refused query_for grouping query page request snapshots documents name limits
    error named most asked one) why

-- there is no page where there is no request
pub no-request : (grouping : Grouping) (query : QueryTree) (page : AskedPage)
    (documents : List Fields)
    (why : GroupingError) → HasNoRequest grouping why
    → HasNoPage grouping query documents page (failure_of_grouping why)
no-request grouping query page documents =
    of-grouping (HasNoRequest grouping) (HasNoPage grouping query documents page) tt
    (λ why has. has)
