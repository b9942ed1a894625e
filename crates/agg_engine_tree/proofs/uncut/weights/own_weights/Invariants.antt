use Rattle.std.proofs.Common.{◌≡◌, ℕ, List, map}
use Rattle.std.specs.Io.Iter.{u64_saturate}
use Rattle.agg_segment.specs.Segment.{Stored}
use Rattle.agg_segment.specs.declared.query.QueryTree.{QueryTree}
use Rattle.agg_request_tree.specs.declared.aggregation.AggregationVariants.{AggregationVariants}
use Rattle.agg_engine_tree.specs.uncut.Weights.{AreWeighed}
use Rattle.agg_engine_tree.proofs.lemmas.uncut.WeighedLists.{first_weights}
use Rattle.agg_engine_tree.proofs.uncut.weights.own_weights.Given as goal

abbrev pub invariant-loop-index : goal.invariant-loop-index
invariant-loop-index l =
    (segment : Stored) (asks : AggregationVariants QueryTree) (exact : List ℕ)
    → AreWeighed segment asks exact l.node l.docs l.weights
    → l.own.items
    ≡ map u64_saturate (first_weights segment asks l.docs exact l.index)
