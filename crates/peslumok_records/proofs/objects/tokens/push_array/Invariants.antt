use Rattle.std.proofs.Common.{◌≡◌, length}
use Rattle.agg_segment.specs.Segment.{IsNameOf, gathered_documents}
use Rattle.peslumok_records.proofs.lemmas.objects.TakenValues.{HasTakenItems}
use Rattle.peslumok_records.proofs.objects.tokens.push_array.Given as goal

-- the items so far were taken, and no document was closed
abbrev pub invariant-items : goal.invariant-items
invariant-items l = record {
  taken : HasTakenItems l.field l.fn.reader l.reader l.fn.builder l.builder;
  documents : gathered_documents l.builder ≡ gathered_documents l.fn.builder;
  numbered : IsNameOf l.builder l.number l.field.name;
}

abbrev pub decreases-items : goal.decreases-items
decreases-items l = length l.reader
