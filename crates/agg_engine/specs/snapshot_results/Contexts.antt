-- The contexts of segments for a page.
use Rattle.std.specs.Prelude.{◌≡◌, ◌<◌, List, All, filter, length}
use Rattle.std.specs.List.{AllZip}
use Rattle.agg_segment.specs.storage.Document.{HasNumbersOf64Bits}
use Rattle.agg_segment.specs.Query.{matches}
use Rattle.agg_segment.specs.Segment.{Stored, documents_at, documents_of}
use Rattle.agg_segment.specs.declared.query.QueryTree.{QueryTree}
use Rattle.agg_request_tree.specs.Names.{NamesAscend}
use Rattle.agg_request_tree.specs.Ranges.{HasStartOutOfRange}
use Rattle.agg_request_tree.specs.Request.{Request}
use Rattle.agg_request_tree.specs.Uncut.{CountsTooMany}
use Rattle.agg_engine_tree.specs.segment_context.Context as context
use Rattle.agg_engine_tree.specs.segment_context.Context.{Meaning}
use Rattle.agg_engine.specs.snapshot_results.Documents.{matching_in}
use Rattle.agg_engine.specs.declared.snapshot_results.context.SegmentContext.{SegmentContext}

-- what the data of a segment's context means
pub record IsOfSegment (request : Request QueryTree) (segment : Stored) (given : SegmentContext)
    (meaning : Meaning) : Type 0 where
  pub same : meaning.segment ≡ segment
  pub aggregations : context.IsContextOf meaning given.aggregations.per_request request

-- the context of a segment for a page: the documents that match, and the data of the request's
-- aggregations
pub record IsContextOf (request : Request QueryTree) (query : QueryTree) (segment : Stored)
    (given : SegmentContext) : Type 0 where
  pub reader : given.reader.now ≡ segment
  pub docs : documents_at segment given.docs.items
      ≡ filter (matches query) (documents_of segment)
  pub within : All (λ doc. doc < length (documents_of segment)) given.docs.items
  pub numbers : All HasNumbersOf64Bits (documents_of segment)
  pub meaning : Meaning
  pub means : IsOfSegment request segment given meaning

-- each segment has its context
abbrev pub AreContextsOf : Request QueryTree → QueryTree → List Stored → List SegmentContext
    → Type 0
AreContextsOf request query = AllZip (IsContextOf request query)

-- segments may be collected by their contexts: names ascend, all starts are in range, and few
-- documents are counted
pub record MayBeCollected (request : Request QueryTree) (query : QueryTree)
    (segments : List Stored) (contexts : List SegmentContext) : Type 0 where
  pub each : AreContextsOf request query segments contexts
  pub names : NamesAscend request
  pub range : ¬ (HasStartOutOfRange request (matching_in query segments))
  pub few : ¬ (CountsTooMany matches request (matching_in query segments))
