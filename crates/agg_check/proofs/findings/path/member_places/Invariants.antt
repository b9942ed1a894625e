use Rattle.std.proofs.Common.{length}
use Rattle.agg_check.proofs.findings.path.member_places.Given as goal

abbrev pub decreases-members : goal.decreases-members
decreases-members l = length l.reader
