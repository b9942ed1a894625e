-- What a memory limit says of the segments of a snapshot.
use Rattle.std.specs.Prelude.{◌≡◌, ◌≤◌, ◌<◌, ◌+◌, ◌-◌, ◌^◌, ℕ, List, Bool, Any, filter, length, min}
use Rattle.std.specs.List.{All}
use Rattle.agg_cache.specs.Limits.{Limits}
use Rattle.agg_request_tree.specs.charges.Roof.{low_roof, roof}
use Rattle.agg_segment.specs.storage.Document.{Fields}
use Rattle.agg_request_tree.specs.Request.{Request}
use Rattle.agg_segment.specs.Query.{matches}
use Rattle.agg_segment.specs.declared.query.QueryTree.{QueryTree}

-- why bytes are refused: with them more than the limit would be in use, which the error tells, as
-- far as u64 goes; these are, with the bytes given up before, at most so many
pub record TellsMemory (limit most given_up told current : ℕ) : Type 0 where
  pub is_limit : told ≡ limit
  pub sum : ℕ
  pub above : limit < sum
  pub within : sum + given_up ≤ most
  pub is_sum : current ≡ min sum (2 ^ 64 - 1)

module _ {B : Type 0} (is_match : B → Fields → Bool) (query : QueryTree)
    (request : Request B) where
  -- the roof of a request in a segment of these documents, of which those that match are counted
  abbrev pub roof_in : List Fields → ℕ
  roof_in documents =
      roof is_match request (length documents) (filter (matches query) documents)

  -- the low roof
  abbrev pub low_roof_in : List Fields → ℕ
  low_roof_in documents =
      low_roof is_match request (length documents) (filter (matches query) documents)

  module _ (limits : Limits) where
    -- memory may be refused: in some segment the limit is passed within the roof, which the error
    -- tells
    abbrev pub MayPassLimit : List (List Fields) → ℕ → ℕ → Type 0
    MayPassLimit segments told current =
        Any (λ documents. TellsMemory limits.memory_limit (limits.in_use + roof_in documents) 0
        told current) segments

    -- each segment has room for its low roof
    abbrev pub HaveRoom : List (List Fields) → Type 0
    HaveRoom segments =
        All (λ documents. limits.in_use + low_roof_in documents ≤ limits.memory_limit) segments
