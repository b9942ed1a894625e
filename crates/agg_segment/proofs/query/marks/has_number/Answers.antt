use Rattle.std.proofs.Common.{arith}
use Rattle.std.proofs.lemmas.List.{get_or_default}
use Rattle.agg_segment.proofs.query.marks.has_number.Goals as goal

pub returns-clause-fit : goal.returns-clause-fit
returns-clause-fit c k d l = let h = c.type_inv.numbers k in
    omega (arith, h, get_or_default c.args.numbers.now k d 0 l)
