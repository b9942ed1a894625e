use Rattle.std.proofs.Common.{◌+◌, ◌*◌}
use Rattle.agg_check.proofs.findings.object.+values.Given as goal

abbrev pub decreases-check_value : goal.decreases-check_value
decreases-check_value l = 4 * l.asked.1

abbrev pub decreases-check_items : goal.decreases-check_items
decreases-check_items l = 4 * l.asked.1 + 3

abbrev pub decreases-check_members : goal.decreases-check_members
decreases-check_members l = 4 * l.asked.1 + 3

abbrev pub decreases-check_member : goal.decreases-check_member
decreases-check_member l = 4 * l.asked.1 + 2
