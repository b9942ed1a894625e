use Rattle.std.proofs.Common.{◌≡◌, ℕ, length}
use Rattle.agg_cache.specs.Partitions.{ArePartitioned, documents_of, items_of}
use Rattle.agg_cache.proofs.high_card.sort_partitions.Given as goal

abbrev pub invariant-loop-i : goal.invariant-loop-i
invariant-loop-i l = record {
  partitioned : ArePartitioned (items_of l.partitions.items);
  same : (id : ℕ) → documents_of (items_of l.partitions.items) id
      ≡ documents_of (items_of l.initial.partitions.items) id;
  as_many : length l.partitions.items ≡ length l.initial.partitions.items;
}
