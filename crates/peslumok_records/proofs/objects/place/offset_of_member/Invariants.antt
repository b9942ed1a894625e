use Rattle.std.proofs.Common.{length}
use Rattle.peslumok_records.proofs.objects.place.offset_of_member.Given as goal

abbrev pub decreases-members : goal.decreases-members
decreases-members l = length l.reader
