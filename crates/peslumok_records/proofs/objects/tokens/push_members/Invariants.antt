use Rattle.std.proofs.Common.{◌≡◌, length}
use Rattle.agg_segment.specs.Segment.{gathered_documents}
use Rattle.peslumok_records.proofs.lemmas.objects.TakenMembers.{HasTaken}
use Rattle.peslumok_records.proofs.objects.tokens.push_members.Given as goal

-- the members so far were taken, and no document was closed
abbrev pub invariant-members : goal.invariant-members
invariant-members l = record {
  taken : HasTaken l.asked l.fn.reader l.reader l.seen l.fn.builder l.builder;
  documents : gathered_documents l.builder ≡ gathered_documents l.fn.builder;
}

abbrev pub decreases-members : goal.decreases-members
decreases-members l = length l.reader
