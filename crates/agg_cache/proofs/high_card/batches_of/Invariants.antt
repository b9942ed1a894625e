use Rattle.std.proofs.Common.{◌≡◌, take}
use Rattle.std.specs.List.{flat_map}
use Rattle.agg_cache.specs.Partitions.{items_of}
use Rattle.agg_cache.specs.Waiting.{AreFilled, pairs_of}
use Rattle.agg_cache.proofs.high_card.batches_of.Given as goal

abbrev pub invariant-loop-partition : goal.invariant-loop-partition
invariant-loop-partition l = record {
  pairs : pairs_of l.batches.items
      ≡ flat_map (λ p. p) (items_of (take l.partition-index l.partitions));
  filled : AreFilled l.batches.items;
}
