-- How often documents stand in a list.
use Rattle.std.specs.Prelude.{◌≡◌, ◌<◌, ℕ, List, All, length, map, replicate}
use Rattle.std.specs.Io.Iter.{u64_saturate}
use Rattle.agg_segment.specs.Segment.{Stored, documents_of}
use Rattle.agg_engine_tree.specs.uncut.NodeData.{IsDataOf}
use Rattle.agg_engine_tree.specs.uncut.Uncut.{Asked}
use Rattle.agg_engine_tree.specs.declared.uncut.node_data.NodeData.{NodeData}
use Rattle.agg_engine_tree.specs.declared.uncut.weights.Weights.{Weights}
use Rattle.agg_engine_tree.specs.declared.uncut.weights.Weights.TheVariants.{Ones, Each}

-- the weights of so many documents
abbrev pub weights_of : Weights → ℕ → List ℕ
weights_of Ones count = replicate count 1
weights_of (Each numbers) count = numbers.now

-- a node's data is that of what an aggregation asks, and documents of the segment have these
-- weights, which are cut to what the number holds
pub record AreWeighed (segment : Stored) (asks : Asked) (exact : List ℕ) (node : NodeData)
    (docs : List ℕ) (weights : Weights) : Type 0 where
  pub node_data : IsDataOf segment asks node
  pub within : All (λ doc. doc < length (documents_of segment)) docs
  pub as_many : length exact ≡ length docs
  pub weights_cut : weights_of weights (length docs) ≡ map u64_saturate exact
