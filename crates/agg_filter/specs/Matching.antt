-- Which documents of a segment a query matches, by their numbers.
use Rattle.std.specs.Prelude.{◌&&◌, ℕ, Bool, nat_lt}
use Rattle.agg_segment.specs.Query.{matches}
use Rattle.agg_segment.specs.Segment.{Stored, document_at}
use Rattle.agg_segment.specs.declared.query.QueryTree.{QueryTree}

-- whether a document of a segment has this number, which a query matches
abbrev pub is_matching : QueryTree → Stored → ℕ → Bool
is_matching tree segment doc =
    nat_lt doc segment.count && matches tree (document_at segment doc)
