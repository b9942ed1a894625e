use Rattle.std.proofs.Common.{◌≡◌}
use Rattle.agg_segment.specs.Segment.{gathered_documents, open_document}
use Rattle.agg_segment.proofs.AddedValues.{add_all}
use Rattle.agg_segment.proofs.builder.SegmentBuilder.try_document.Given as goal

abbrev pub invariant-loop-name : goal.invariant-loop-name
invariant-loop-name l = record {
  added : add_all l.name-iterator.rest.items (open_document l.self) ≡ add_all l.fn.document
      (open_document l.fn.self);
  documents : gathered_documents l.self ≡ gathered_documents l.fn.self;
}
