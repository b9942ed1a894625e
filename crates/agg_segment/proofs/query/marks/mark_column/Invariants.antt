use Rattle.std.proofs.Common.{◌≡◌, ℕ, ◌<◌, ◌≤◌, ◌||◌, Bool, Some}
use Rattle.agg_values.specs.TypedKey.{CompositeIntermediateKey}
use Rattle.agg_segment.specs.Marks.{mark_at, has_key}
use Rattle.agg_segment.specs.Spans.{IsSpanOf}
use Rattle.agg_segment.proofs.query.marks.mark_column.Given as goal

abbrev pub invariant-loop-doc : goal.invariant-loop-doc
invariant-loop-doc l = record {
  done : (is_such : CompositeIntermediateKey → Bool) (k : ℕ)
      → IsSpanOf l.column.keys is_such (Some l.span) → k < l.doc
      → mark_at l.marks k ≡ (mark_at l.fn.marks k || has_key is_such k l.column);
  rest : (k : ℕ) → l.doc ≤ k → mark_at l.marks k ≡ mark_at l.fn.marks k;
}
