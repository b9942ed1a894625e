use Rattle.std.proofs.Common.{◌≡◌, ◌-◌, ◌<◌, ◌≤◌, ℕ, length, get_or, take}
use Rattle.std.specs.List.{All}
use Rattle.agg_segment.specs.storage.Rows.{listed_docs, last_end, AreEnds}
use Rattle.agg_segment.proofs.storage.rows.ends.doc_ends.Given as goal

abbrev pub decreases-loop-at : goal.decreases-loop-at
decreases-loop-at l = length l.docs - l.at

abbrev pub invariant-loop-at : goal.invariant-loop-at
invariant-loop-at l = record {
  within : l.at ≤ length l.docs;
  listed : listed_docs 0 l.ends.items ≡ take l.at l.docs;
  rise : AreEnds 0 l.ends.items;
  all : last_end 0 l.ends.items ≡ l.at;
  below : (d : ℕ) → l.at < length l.docs → All (λ e. e.doc < get_or l.docs l.at d) l.ends.items;
}
