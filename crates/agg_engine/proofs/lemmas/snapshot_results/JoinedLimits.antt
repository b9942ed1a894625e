-- What a memory limit says of segments in two parts.
use Rattle.std.proofs.Common.{◌≡◌, ◌≤◌, ◌+◌, ◌++◌, ℕ, List, map, sym, ap, ◌∙◌, subst, take, drop}
use Rattle.std.proofs.lemmas.List.{map-append, take-append-drop}
use Rattle.std.proofs.lemmas.List.Elements.{All-append}
use Rattle.agg_cache.specs.Limits.{Limits}
use Rattle.agg_segment.specs.storage.Document.{Fields}
use Rattle.agg_segment.specs.Query.{matches}
use Rattle.agg_segment.specs.Segment.{Stored, documents_of}
use Rattle.agg_segment.specs.declared.query.QueryTree.{QueryTree}
use Rattle.agg_request_tree.specs.Request.{Request}
use Rattle.agg_engine.specs.snapshot_results.Answers.{IsMemoryRefusal}
use Rattle.agg_engine.specs.snapshot_results.MemoryLimits.{HaveRoom, MayPassLimit, TellsMemory}
use Rattle.agg_engine.specs.snapshot_results.MemoryLimits.{low_roof_in, roof_in}
use Rattle.agg_engine.specs.declared.snapshot_results.error.SnapshotError.{SnapshotError}
use Rattle.agg_engine.specs.declared.snapshot_results.error.SnapshotError.TheVariants as error
use Rattle.agg_engine.proofs.lemmas.snapshot_results.TreeRanges.{any-left, any-right}

module _ (request : Request QueryTree) (query : QueryTree) (segments : List Stored) (i : ℕ)
    (limits : Limits) where
  -- the documents of all segments
  documents-cut : map documents_of segments
      ≡ map documents_of (take i segments) ++ map documents_of (drop i segments)
  documents-cut =
      ap (map documents_of) (sym (take-append-drop i segments))
      ∙ map-append documents_of (take i segments) (drop i segments)

  -- a segment whose roof passes the limit, as the error tells
  abbrev Passes : ℕ → ℕ → List Fields → Type 0
  Passes told current documents =
      TellsMemory limits.memory_limit (limits.in_use + roof_in matches query request documents) 0
      told current

  -- a refusal of the segments in front is one of all
  pub refusal-front : (e : SnapshotError)
      → IsMemoryRefusal request query (take i segments) limits e
      → IsMemoryRefusal request query segments limits e
  refusal-front (error.MemoryExceeded told current) passed =
      subst (λ each. MayPassLimit matches query request limits each told current)
      (sym documents-cut)
      (any-left (Passes told current) (map documents_of (take i segments))
      (map documents_of (drop i segments)) passed)
  refusal-front error.OutOfMemory refused = tt
  refusal-front error.BucketOutOfRange refused = absurd refused
  refusal-front error.TooMany refused = absurd refused

  -- a refusal of the segments that are left is one of all
  pub refusal-back : (e : SnapshotError)
      → IsMemoryRefusal request query (drop i segments) limits e
      → IsMemoryRefusal request query segments limits e
  refusal-back (error.MemoryExceeded told current) passed =
      subst (λ each. MayPassLimit matches query request limits each told current)
      (sym documents-cut)
      (any-right (Passes told current) (map documents_of (take i segments))
      (map documents_of (drop i segments)) passed)
  refusal-back error.OutOfMemory refused = tt
  refusal-back error.BucketOutOfRange refused = absurd refused
  refusal-back error.TooMany refused = absurd refused

  -- where both have room, all have
  pub room-both : HaveRoom matches query request limits (map documents_of (take i segments))
      → HaveRoom matches query request limits (map documents_of (drop i segments))
      → HaveRoom matches query request limits (map documents_of segments)
  room-both front back =
      subst (HaveRoom matches query request limits) (sym documents-cut)
      (All-append
      (λ documents. limits.in_use + low_roof_in matches query request documents
      ≤ limits.memory_limit)
      (map documents_of (take i segments)) (map documents_of (drop i segments)) front back)
