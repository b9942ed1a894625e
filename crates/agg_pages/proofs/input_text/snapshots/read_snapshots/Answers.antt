use Rattle.std.proofs.Common.{sym, subst}
use Rattle.agg_values.specs.Nothing.{NoneIs}
use Rattle.agg_pages.specs.input_text.SnapshotLines.{AreSnapshots}
use Rattle.agg_pages.proofs.input_text.snapshots.read_snapshots.Goals as goal

pub returns-in-Some-clause-not_input : goal.returns-in-Some-clause-not_input
returns-in-Some-clause-not_input c = λ refused.
    subst (λ lines. NoneIs (AreSnapshots lines))
    (sym c.in-Some.ensures.steps) (c.read_from.ensures.not_input refused)
