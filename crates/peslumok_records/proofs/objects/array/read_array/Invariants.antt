use Rattle.std.proofs.Common.{length}
use Rattle.peslumok_records.proofs.lemmas.objects.ArrayItems.{HasItems}
use Rattle.peslumok_records.proofs.objects.array.read_array.Given as goal

abbrev pub invariant-items : goal.invariant-items
invariant-items l = HasItems l.asked l.initial.reader l.reader l.initial.into l.into

abbrev pub decreases-items : goal.decreases-items
decreases-items l = length l.reader
