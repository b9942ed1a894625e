use Rattle.std.proofs.Common.{◌≡◌, ◌-◌, ℕ, [], get_or}
use Rattle.std.specs.Vec.{vec_len}
use Rattle.agg_cache.specs.Partitions.{items_of}
use Rattle.agg_cache.proofs.high_card.make_partitions.Given as goal

abbrev pub invariant-loop-partitions : goal.invariant-loop-partitions
invariant-loop-partitions l = (place : ℕ)
    → get_or (items_of l.partitions.items) place []
    ≡ get_or (items_of l.initial.partitions.items) place []

abbrev pub decreases-loop-partitions : goal.decreases-loop-partitions
decreases-loop-partitions l = 16 - vec_len l.partitions
