use Rattle.std.proofs.Common.{◌≤◌, ◌<◌, ℕ, length, get_or}
use Rattle.agg_segment.specs.storage.Growing.{many_docs}
use Rattle.agg_segment.proofs.storage.rows.growing.count_before.Given as goal

abbrev pub decreases-loop-count : goal.decreases-loop-count
decreases-loop-count l = l.count

abbrev pub invariant-loop-count : goal.invariant-loop-count
invariant-loop-count l = record {
  within : l.count ≤ length l.many.numbers.items;
  after : (k : ℕ) → l.count ≤ k → k < length l.many.numbers.items
      → l.doc ≤ get_or (many_docs l.many) k 0;
}
