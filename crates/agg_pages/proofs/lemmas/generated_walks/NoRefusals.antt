-- The walk of a generated request is never refused where it has its room.
use Rattle.std.proofs.Common.{◌≡◌, ◌≤◌, ◌<◌, ◌+◌, ◌^◌, List, [], ◌∷◌, Bool, codes}
use Rattle.std.proofs.Common.{length, inl, inr, refl, subst, ap, ◌∙◌, arith}
use Rattle.std.specs.Prelude.{filter}
use Rattle.std.specs.List.{AllByRecursion, flat_map}
use Rattle.std.proofs.lemmas.List.Elements.{All-filter, All-from_recursion, recursion_from_All}
use Rattle.std.proofs.lemmas.List.Sums.{count_by-le-length, length-filter}
use Rattle.agg_values.specs.Names.{Named}
use Rattle.agg_values.specs.declared.after_key.AfterKey.{AfterKey}
use Rattle.agg_values.specs.declared.request_error.AggregationError.TheVariants as aggregation
use Rattle.agg_cache.specs.Limits.{Limits}
use Rattle.agg_segment.specs.storage.Document.{Fields}
use Rattle.agg_segment.specs.Query.{matches}
use Rattle.agg_segment.specs.SnapshotDocuments.{SnapshotDocuments}
use Rattle.agg_segment.specs.declared.query.QueryTree.{QueryTree}
use Rattle.agg_request_tree.specs.Request.{Request}
use Rattle.agg_request_tree.specs.ChangedRequest.{with_after, with_size}
use Rattle.agg_engine.specs.Refusals.{RefusedAtMost, SnapshotRefusedAtMost, WalkRefusedAtMost}
use Rattle.agg_engine.specs.Walk.{after_in, documents_in, matching_among}
use Rattle.agg_engine.specs.declared.walk.error.WalkError.{WalkError}
use Rattle.agg_engine.specs.declared.walk.error.WalkError.TheVariants as error
use Rattle.agg_pages.specs.generated_walks.Walks.{most_buckets, most_bytes}
use Rattle.agg_pages.proofs.lemmas.generated_walks.FewBuckets.{buckets-few}
use Rattle.agg_pages.proofs.lemmas.generated_walks.FewOccurrences.{not-many, not-out}
use Rattle.agg_pages.proofs.lemmas.generated_walks.FewValues.{HasFewValues}
use Rattle.agg_pages.proofs.lemmas.generated_walks.GeneratedRequests.{changed-request}
use Rattle.agg_pages.proofs.lemmas.generated_walks.GeneratedRequests.{composite_after, request_of}
use Rattle.agg_pages.proofs.lemmas.generated_walks.GeneratedRoofs.{roof-most}

-- few documents of few values, and pages of 100
pub record IsSmall (snapshot : SnapshotDocuments) : Type 0 where
  pub values : AllByRecursion HasFewValues (documents_in snapshot)
  pub short : length (documents_in snapshot) < 2 ^ 32
  pub size : snapshot.page_size ≡ most_buckets

module _ {B : Type 0} (is_match : B → Fields → Bool) (limits : Limits)
    (memory : limits.in_use + most_bytes ≤ limits.memory_limit)
    (buckets : most_buckets ≤ limits.bucket_limit) (query : QueryTree) where
  -- the request that goes on from an after key
  abbrev asked : Named AfterKey → Request B
  asked after = request_of (composite_after after)

  module _ (after : Named AfterKey) (segments : List (List Fields))
      (values : AllByRecursion HasFewValues (flat_map (λ documents. documents) segments))
      (short : length (flat_map (λ documents. documents) segments) < 2 ^ 32) where
    -- the documents of all segments
    abbrev all : List Fields
    all = flat_map (λ documents. documents) segments

    -- those that match have few values, and are few
    matching_values : AllByRecursion HasFewValues (matching_among query segments)
    matching_values =
        recursion_from_All HasFewValues (matching_among query segments)
        (All-filter (matches query) HasFewValues all (All-from_recursion HasFewValues all values))

    matching_short : length (matching_among query segments) < 2 ^ 32
    matching_short =
        omega (
          arith,
          short,
          length-filter (matches query) all,
          count_by-le-length (matches query) all,
        )

    -- it isn't refused over them
    not-refused : (why : WalkError)
        → ¬ (RefusedAtMost is_match limits query (asked after) segments why)
    not-refused error.BucketOutOfRange out =
        not-out B after (matching_among query segments) out
    not-refused error.TooMany (within, many) =
        not-many is_match after (matching_among query segments) matching_values matching_short many
    not-refused (error.Aggregation (aggregation.MemoryExceeded told current))
        (may, (k, documents, within, at, tells)) =
        let above = tells.above in
        let most = tells.within in
        omega (
          arith,
          roof-most is_match after (length documents) (filter (matches query) documents),
        )
    not-refused (error.Aggregation (aggregation.BucketLimitExceeded given n))
        (may, room, same, over, (results, are, count)) =
        omega (
          arith,
          buckets-few is_match (composite_after after) (matching_among query segments) results are,
        )
    not-refused (error.Aggregation (aggregation.DateHistogramParseError part)) is = is
    not-refused (error.Invalid fault) is = is
    not-refused error.UnknownComposite is = is
    not-refused error.QueryBuild is = is
    not-refused error.OutOfMemory is = is

  -- it isn't refused at a snapshot
  not-here : (after : Named AfterKey) (s : SnapshotDocuments) → IsSmall s → (why : WalkError)
      → ¬ (SnapshotRefusedAtMost is_match limits (codes "g") query (asked after) s why)
  not-here after s small why is =
      not-refused after s.segments small.values small.short why
      (subst (λ (request : Request B). RefusedAtMost is_match limits query request s.segments why)
      (changed-request (with_size s.page_size) (composite_after after)
      (record (composite_after after) { size = s.page_size }) refl
      ∙ ap (λ size. request_of (record (composite_after after) { size = size })) small.size)
      is)

  -- no snapshot of a walk refuses it
  pub never-refused : (after : Named AfterKey) (snapshots : List SnapshotDocuments)
      → AllByRecursion IsSmall snapshots → (why : WalkError)
      → ¬ (WalkRefusedAtMost is_match limits (codes "g") query (asked after) snapshots why)
  never-refused after [] small why is = is
  never-refused after (s ∷ snapshots) small why (inl here) = not-here after s small.0 why here
  never-refused after (s ∷ snapshots) small why (inr (none, (r, are, full, later))) =
      never-refused (after_in (codes "g") r) snapshots small.1 why
      (subst (λ (request : Request B).
      WalkRefusedAtMost is_match limits (codes "g") query request snapshots why)
      (changed-request (with_after (after_in (codes "g") r)) (composite_after after)
      (composite_after (after_in (codes "g") r)) refl)
      later)
