use Rattle.std.proofs.Common.{◌≡◌, ◌-◌, suc, ap, ◌∙◌, arith}
use Rattle.agg_segment.specs.storage.Rows.{start_at}
use Rattle.agg_segment.proofs.lemmas.storage.Layouts.{start_is}
use Rattle.agg_segment.proofs.storage.rows.start_of.Goals as goal

pub returns : goal.returns
returns c =
    let same : suc (c.args.at - 1) ≡ c.args.at = omega arith in
    start_is 0 c.args.ends.now (c.args.at - 1) _ (omega (arith, c.requires))
    ∙ ap (start_at 0 c.args.ends.now) same
