-- The walks of generated inputs, and the room that they take.
use Rattle.std.specs.Prelude.{ℕ, Option}
use Rattle.agg_cache.specs.Limits.{Limits}
use Rattle.agg_segment.specs.declared.query.QueryTree.{QueryTree}
use Rattle.agg_request_tree.specs.Matching.{built_matches}
use Rattle.agg_engine.specs.Refusals.{WalkRefusedAtMost}
use Rattle.agg_engine.specs.Walk.{MayBeAsked}
use Rattle.agg_engine.specs.declared.walk.error.WalkError.{WalkError}
use Rattle.agg_pages.specs.input_text.Input.{Input}
use Rattle.agg_pages.specs.generator.Generator.{generated}

-- ---- room

-- the buckets of a page: at most 100
abbrev pub most_buckets : ℕ
most_buckets = 100

-- the bytes that a walk takes in a segment: at most those of two nodes and two sources, 256 each,
-- and of 100 buckets, 128 each
abbrev pub most_bytes : ℕ
most_bytes = 13_824

-- ---- walks

module _ {B : Type 0} (query_for : B → Option QueryTree) (seed : ℕ) where
  -- the input of a seed, with such builders of queries
  abbrev input : Input B
  input = generated seed

  -- the walk of a seed's input may be asked, where the builders make these queries
  abbrev pub GeneratedMayBeAsked : Type 0
  GeneratedMayBeAsked =
      MayBeAsked query_for input.header.name input.header.request input.snapshots

  -- the walk of a seed's input may be refused so
  abbrev pub GeneratedRefusedAtMost : Limits → WalkError → Type 0
  GeneratedRefusedAtMost limits =
      WalkRefusedAtMost (built_matches query_for) limits input.header.name input.header.query
      input.header.request input.snapshots
