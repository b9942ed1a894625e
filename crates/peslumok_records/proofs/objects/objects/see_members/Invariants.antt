use Rattle.std.proofs.Common.{◌≡◌}
use Rattle.peslumok_records.specs.held.Held.{held_documents}
use Rattle.peslumok_records.proofs.objects.objects.see_members.Given as goal

abbrev pub invariant-loop-member : goal.invariant-loop-member
invariant-loop-member l = held_documents l.records ≡ held_documents l.initial.records
