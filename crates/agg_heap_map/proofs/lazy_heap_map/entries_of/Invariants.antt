use Rattle.std.proofs.Common.{◌≡◌}
use Rattle.agg_heap_map.proofs.lazy_heap_map.entries_of.Given as goal

abbrev pub invariant-loop-entry : goal.invariant-loop-entry
invariant-loop-entry g l = l.entries.items ≡ l.yielded
