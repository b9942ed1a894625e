use Rattle.agg_request_tree.specs.Faults.{HasInterval}
use Rattle.agg_request_tree.proofs.Checks.{All-next, All-whole}
use Rattle.agg_request_tree.proofs.check.intervals.check_intervals.Goals as goal

pub loop-source-preserved : goal.loop-source-preserved
loop-source-preserved c =
    All-next HasInterval c.args.sources.now c.loop-source.source-index c.source-item.result
    c.loop-source-test.true c.source-item.is c.loop-source.invariant
    c.in_ok-check_interval.ensures.ok

pub returns-clause-ok : goal.returns-clause-ok
returns-clause-ok c =
    All-whole HasInterval c.args.sources.now c.loop-source.source-index c.loop-source-test.false
    c.loop-source.invariant
