use Rattle.std.proofs.Common.{false, true}
use Rattle.agg_values.proofs.KeyTexts.{passed_on}
use Rattle.agg_engine.specs.collectors.Segment.{IsBlockCause}
use Rattle.agg_engine.proofs.lemmas.collectors.FailedCollectors.{cause-marked, few-marked}
use Rattle.agg_engine.proofs.lemmas.collectors.FailedCollectors.{right-marked, right-usable}
use Rattle.agg_engine.proofs.lemmas.collectors.FailedCollectors.{takes-marked, usable-taken}
use Rattle.agg_engine.proofs.lemmas.collectors.RightCollectors.{few-none}
use Rattle.agg_engine.proofs.collectors.segment.AggregationSegmentCollector.collect_block.Goals
    as goal

pub returns-then-self-clause-most : goal.returns-then-self-clause-most
returns-then-self-clause-most g c =
    few-none c.args.self.now c.args.docs.now c.args.steps.now

pub take-requires-clause-right : goal.take-requires-clause-right
take-requires-clause-right g c =
    let r = right-usable c.args.self.now c.requires.usable c.if-self.false in
    (r.0, r.1, r.2, r.3, right-marked c.args.self.now true r.0 r.1 r.2 r.3 r.4)

pub returns-in_err-take-clause-cause : goal.returns-in_err-take-clause-cause
returns-in_err-take-clause-cause g c =
    passed_on c.from_residual.result c.in_err-take.field-0.0
    (IsBlockCause c.args.docs.now c.args.self.now c.args.limits.now) c.from_residual.ensures.1
    (cause-marked c.args.self.now c.args.docs.now c.args.limits.now c.in_err-take.field-0.0
    c.in_err-take.ensures.cause)

pub returns-in_err-take-clause-most : goal.returns-in_err-take-clause-most
returns-in_err-take-clause-most g c =
    few-marked c.args.self.now c.args.docs.now c.args.steps.now c.take.new.steps
    c.in_err-take.ensures.most

pub returns-clause-ok : goal.returns-clause-ok
returns-clause-ok g c =
    takes-marked c.args.self.now c.args.docs.now c.take.new.self c.args.steps.now
    c.take.new.steps c.if-self.false c.in_ok-take.ensures.ok

pub returns-clause-most : goal.returns-clause-most
returns-clause-most g c =
    few-marked c.args.self.now c.args.docs.now c.args.steps.now c.take.new.steps
    c.in_ok-take.ensures.most

pub returns-clause-usable : goal.returns-clause-usable
returns-clause-usable g c =
    usable-taken c.args.self.now (record c.take.new.self { has_failed = false })
    c.args.docs.now c.args.steps.now c.take.new.steps
    (right-usable c.args.self.now c.requires.usable c.if-self.false)
    (takes-marked c.args.self.now c.args.docs.now c.take.new.self c.args.steps.now
    c.take.new.steps c.if-self.false c.in_ok-take.ensures.ok)
