use Rattle.std.proofs.Common.{◌≡◌, false, length, sym, ◌∙◌, arith}
use Rattle.std.specs.Prelude.{◌==◌}
use Rattle.std.proofs.lemmas.Bool.Decides.{nat_tests}
use Rattle.agg_segment.proofs.lemmas.storage.DenseEnds.{last_is_greatest}
use Rattle.agg_segment.proofs.storage.rows.ends.count_up_to_last.Goals as goal

pub returns : goal.returns
returns c =
    let some : (length c.args.docs.now == 0) ≡ false =
    sym c.is_empty.ensures ∙ c.if-is_empty.false in
    last_is_greatest c.args.docs.now c.requires _ (grind (arith, nat_tests))
