-- The documents that a page counts.
use Rattle.std.specs.Prelude.{List, filter}
use Rattle.std.specs.List.{flat_map}
use Rattle.agg_segment.specs.storage.Document.{Fields}
use Rattle.agg_segment.specs.Query.{matches}
use Rattle.agg_segment.specs.Segment.{Stored, documents_of}
use Rattle.agg_segment.specs.declared.query.QueryTree.{QueryTree}

-- the documents of segments that a query matches
abbrev pub matching_in : QueryTree → List Stored → List Fields
matching_in query segments = filter (matches query) (flat_map documents_of segments)
