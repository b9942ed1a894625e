use Rattle.std.proofs.Common.{◌≡◌, ◌<◌, ℕ, [], get_or, length}
use Rattle.agg_cache.specs.Partitions.{items_of}
use Rattle.agg_cache.proofs.high_card.clear_partitions.Given as goal

abbrev pub invariant-loop-i : goal.invariant-loop-i
invariant-loop-i l = record {
  none : (place : ℕ) → place < l.i → get_or (items_of l.partitions.items) place [] ≡ [];
  as_many : length l.partitions.items ≡ length l.initial.partitions.items;
}
