use Rattle.std.proofs.Common.{◌≡◌, ◌-◌, ◌<◌, ◌≤◌, ℕ, length, get_or}
use Rattle.agg_segment.proofs.storage.rows.ends.past_doc.Given as goal

abbrev pub decreases-loop-at : goal.decreases-loop-at
decreases-loop-at l = length l.docs - l.at

abbrev pub invariant-loop-at : goal.invariant-loop-at
invariant-loop-at l = record {
  further : l.from ≤ l.at;
  within : l.at ≤ length l.docs;
  same : (k d : ℕ) → l.from ≤ k → k < l.at → get_or l.docs k d ≡ l.doc;
}
