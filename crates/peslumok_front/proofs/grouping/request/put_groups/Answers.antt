use Rattle.std.proofs.Common.{refl}
use Rattle.peslumok_front.proofs.grouping.request.put_groups.Goals as goal

pub returns-clause-asked : goal.returns-clause-asked
returns-clause-asked g c = record {
  groups = c.in_ok-groups_of.field-0;
  are_groups = c.in_ok-groups_of.ensures.asked;
  entries = rw (c.in_ok-put.ensures, c.in_ok-name.ensures) refl;
}
