use Rattle.std.proofs.Common.{◌∷◌, [], refl}
use Rattle.peslumok_front.proofs.front.written.add_total.Goals as goal

pub returns-in_ok-push : goal.returns-in_ok-push
returns-in_ok-push c =
    rw c.in-Some.is (
      c.in_ok-row.row ∷ [],
      (
        c.in_ok-row.row,
        record { kind = c.in_ok-row.ensures.kind; cells = c.in_ok-row.ensures.cells },
        refl,
      ),
      c.in_ok-push.ensures.items,
    )
