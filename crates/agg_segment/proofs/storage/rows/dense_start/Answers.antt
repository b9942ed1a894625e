use Rattle.std.proofs.Common.{◌≡◌, ◌-◌, suc, ap, ◌∙◌, arith}
use Rattle.agg_segment.specs.storage.Rows.{start_at, numbered}
use Rattle.agg_segment.proofs.lemmas.storage.DenseEnds.{dense_start_is}
use Rattle.agg_segment.proofs.storage.rows.dense_start.Goals as goal

pub returns : goal.returns
returns c =
    let same : suc (c.args.doc - 1) ≡ c.args.doc = omega arith in
    dense_start_is c.args.ends.now (c.args.doc - 1) _ (omega (arith, c.requires))
    ∙ ap (start_at 0 (numbered 0 c.args.ends.now)) same
