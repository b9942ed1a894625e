use Rattle.std.proofs.Common.{◌≡◌, ℕ, ◌<◌, ◌≤◌, ◌||◌}
use Rattle.agg_segment.specs.Marks.{mark_at}
use Rattle.agg_segment.proofs.query.marks.add_marks.Given as goal

abbrev pub invariant-loop-doc : goal.invariant-loop-doc
invariant-loop-doc l = record {
  done : (k : ℕ) → k < l.doc → mark_at l.marks k ≡ (mark_at l.fn.marks k || mark_at l.others k);
  rest : (k : ℕ) → l.doc ≤ k → mark_at l.marks k ≡ mark_at l.fn.marks k;
}
