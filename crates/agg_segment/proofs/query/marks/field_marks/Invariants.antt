use Rattle.std.proofs.Common.{◌≡◌, ℕ, ◌<◌, ◌≤◌, length, take}
use Rattle.std.specs.List.{list_any}
use Rattle.agg_segment.specs.Marks.{mark_at, has_key, passes}
use Rattle.agg_segment.specs.Segment.{documents_of}
use Rattle.agg_segment.specs.SegmentLimits.{max_documents}
use Rattle.agg_segment.proofs.query.marks.field_marks.Given as goal

abbrev pub invariant-loop-column : goal.invariant-loop-column
invariant-loop-column l = record {
  each : length l.marks.items ≡ length (documents_of l.segment);
  few : length l.marks.items ≤ max_documents;
  told : (doc : ℕ) → doc < length l.marks.items
      → mark_at l.marks.items doc ≡ list_any (has_key (passes l.test) doc)
      (take l.column-index l.column-items);
}
