-- Documents of a segment, and what the aggregations of a request are asked there.
use Rattle.std.specs.Prelude.{◌≡◌, ◌<◌, ℕ, List, All, length}
use Rattle.agg_segment.specs.storage.Document.{Fields}
use Rattle.agg_segment.specs.Segment.{documents_at, documents_of}
use Rattle.agg_engine_tree.specs.segment_context.Context.{IsMeant, Meaning}
use Rattle.agg_engine_tree.specs.uncut.Uncut.{AddsLengths}
use Rattle.agg_engine_tree.specs.uncut.Weights.{weights_of}
use Rattle.agg_engine_tree.specs.declared.uncut.uncut.Block.{Block}
use Rattle.agg_engine_tree.specs.declared.uncut.weights.Weights.{Weights}

-- the data has its meaning in the segment, which has the documents
pub record IsGiven (meaning : Meaning) (block : Block) : Type 0 where
  pub segment : meaning.segment ≡ block.segment.now
  pub meant : IsMeant meaning block.ctx.now
  pub within : All (λ doc. doc < length (documents_of block.segment.now)) block.docs.now

-- the lengths of some lists over the documents with these weights come after those that are there
abbrev pub AddsFor : (List Fields → List (List Fields)) → Block → Weights → List ℕ → List ℕ
    → Type 0
AddsFor lists block weights =
    AddsLengths lists (documents_at block.segment.now block.docs.now)
    (weights_of weights (length block.docs.now))
