use Rattle.std.proofs.Common.{◌≡◌, take}
use Rattle.json.specs.Value.{value_view}
use Rattle.agg_segment.specs.Segment.{gathered_documents}
use Rattle.peslumok_records.specs.held.Values.{Gains, values_of_fields}
use Rattle.peslumok_records.specs.objects.Objects.{field_values}
use Rattle.peslumok_records.proofs.objects.objects.push_object.Given as goal

-- the values of the fields so far were appended
abbrev pub invariant-loop-field : goal.invariant-loop-field
invariant-loop-field l = record {
  documents : gathered_documents l.builder ≡ gathered_documents l.initial.builder;
  gained : Gains (values_of_fields (field_values (value_view l.object))
      (take l.field-index l.asked)) l.initial.builder l.builder;
}
