use Rattle.std.proofs.Common.{refl}
use Rattle.peslumok_front.proofs.grouping.request.put_total.Goals as goal

pub returns : goal.returns
returns g c = record {
  total = c.in_ok-total_of.field-0;
  is_total = c.in_ok-total_of.ensures;
  entries = rw (c.in_ok-put.ensures, c.in_ok-name.ensures) refl;
}
