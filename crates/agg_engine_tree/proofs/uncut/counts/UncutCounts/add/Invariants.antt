use Rattle.std.proofs.Common.{◌≡◌, ◌+◌, ◌<◌, ◌≤◌, ℕ, get_or}
use Rattle.std.specs.Io.Iter.{u64_saturate}
use Rattle.agg_engine_tree.proofs.uncut.counts.UncutCounts.add.Given as goal

abbrev pub invariant-loop-index : goal.invariant-loop-index
invariant-loop-index l = record {
  added : (k : ℕ) → k < l.index → get_or l.count-items k 0
      ≡ u64_saturate (get_or l.initial.count-items k 0 + get_or l.counts k 0);
  rest : (k : ℕ) → l.index ≤ k → get_or l.count-items k 0 ≡ get_or l.initial.count-items k 0;
}
