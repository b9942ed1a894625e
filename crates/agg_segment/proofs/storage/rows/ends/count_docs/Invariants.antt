use Rattle.std.proofs.Common.{◌-◌, ◌≤◌, length}
use Rattle.agg_segment.proofs.storage.rows.ends.count_docs.Given as goal

abbrev pub decreases-loop-at : goal.decreases-loop-at
decreases-loop-at l = length l.docs - l.at

abbrev pub invariant-loop-at : goal.invariant-loop-at
invariant-loop-at l = record {
  fewer : l.count ≤ l.at;
  within : l.at ≤ length l.docs;
}
