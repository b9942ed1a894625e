use Rattle.std.proofs.Common.{◌≡◌}
use Rattle.agg_segment.specs.Segment.{gathered_documents, open_document}
use Rattle.peslumok_records.specs.held.Held.{held_documents}
use Rattle.peslumok_records.proofs.held.records.Records.number_fields.Given as goal

-- the documents stay as they were
abbrev pub invariant-loop-field : goal.invariant-loop-field
invariant-loop-field l = record {
  held : held_documents l.self ≡ held_documents l.initial.self;
  opened : open_document l.self.builder ≡ open_document l.initial.self.builder;
  closed : gathered_documents l.self.builder ≡ gathered_documents l.initial.self.builder;
}
