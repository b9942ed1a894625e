use Rattle.std.proofs.Common.{Some, subst}
use Rattle.agg_values.proofs.KeyTexts.{passed_on}
use Rattle.agg_cache.specs.Waiting.{under}
use Rattle.agg_engine_tree.specs.collector_tree.Tree.{held_of}
use Rattle.agg_engine_tree.specs.tree_results.Results.{GroupStands}
use Rattle.agg_engine.specs.snapshot_results.ChargeErrors.{collect_error}
use Rattle.agg_engine.specs.collectors.Segment.{IsHarvestCause}
use Rattle.agg_engine.proofs.lemmas.collectors.FailedCollectors.{right-usable}
use Rattle.agg_engine.proofs.lemmas.collectors.FlushedCollectors.{apart-flushed, few-failed}
use Rattle.agg_engine.proofs.lemmas.collectors.FlushedCollectors.{few-flushed, may-flush}
use Rattle.agg_engine.proofs.lemmas.collectors.FlushedCollectors.{right-flushed, room-flushed}
use Rattle.agg_engine.proofs.lemmas.collectors.FlushedCollectors.{stands-flushed}
use Rattle.agg_engine.proofs.lemmas.collectors.MemoryCauses.{cause-flushed}
use Rattle.agg_engine.proofs.collectors.segment.AggregationSegmentCollector.results.Goals as goal

pub returns-then-self-clause-most : goal.returns-then-self-clause-most
returns-then-self-clause-most g c = few-failed c.args.self.now c.args.steps.now

pub flush-requires-clause-may : goal.flush-requires-clause-may
flush-requires-clause-may g c =
    let r = right-usable c.args.self.now c.requires.usable c.if-self.false in
    may-flush r.0 r.1 r.2 r.3 c.args.self.now r.4

pub flush-requires-clause-exact : goal.flush-requires-clause-exact
flush-requires-clause-exact g c =
    (right-usable c.args.self.now c.requires.usable c.if-self.false).4.charged

pub returns-in_err-flush-clause-cause : goal.returns-in_err-flush-clause-cause
returns-in_err-flush-clause-cause g c =
    passed_on c.from_residual.result (collect_error c.in_err-flush.field-0.0)
    (IsHarvestCause c.args.self.now c.args.limits.now) c.from_residual.ensures.1
    (cause-flushed c.args.self.now c.args.limits.now c.in_err-flush.field-0.0
    c.in_err-flush.ensures.cause)

pub returns-in_err-flush-clause-most : goal.returns-in_err-flush-clause-most
returns-in_err-flush-clause-most g c =
    few-flushed c.args.self.now c.args.steps.now c.flush.new.steps c.flush.ensures.most

pub into_results-requires-clause-right : goal.into_results-requires-clause-right
into_results-requires-clause-right g c =
    let r = right-usable c.args.self.now c.requires.usable c.if-self.false in
    let now = right-flushed r.0 r.1 r.2 r.3 c.args.self.now r.4 (held_of c.flush.new.self.tree)
    c.args.steps.now c.flush.new.steps c.in_ok-flush.ensures.takes in
    rw (c.take_tree.ensures.tree)
    (r.4.meaning, under 0 r.2, now.0, now.1.context.meant, now.1.right)

pub into_results-requires-clause-fits : goal.into_results-requires-clause-fits
into_results-requires-clause-fits g c =
    let r = right-usable c.args.self.now c.requires.usable c.if-self.false in
    rw (c.take_tree.ensures.tree) (c.in_ok-flush.ensures.takes.fits r.4.right.fits)

pub into_results-requires-clause-apart : goal.into_results-requires-clause-apart
into_results-requires-clause-apart g c =
    let r = right-usable c.args.self.now c.requires.usable c.if-self.false in
    rw (c.take_tree.ensures.tree)
    (apart-flushed r.0 r.1 r.2 r.3 c.args.self.now r.4 (held_of c.flush.new.self.tree)
    c.args.steps.now c.flush.new.steps c.in_ok-flush.ensures.takes)

pub returns-in_err-into_results-clause-most : goal.returns-in_err-into_results-clause-most
returns-in_err-into_results-clause-most g c =
    few-flushed c.args.self.now c.args.steps.now c.flush.new.steps c.flush.ensures.most

pub returns-clause-ok : goal.returns-clause-ok
returns-clause-ok g c = λ request segment docs visits right.
    stands-flushed request segment docs visits c.args.self.now right.right
    (held_of c.flush.new.self.tree) c.args.steps.now c.flush.new.steps c.in_ok-flush.ensures.takes
    c.into_results.new.results.results
    (subst (λ t. GroupStands c.args.self.now.aggregations.per_request (held_of t) (Some 0)
    c.into_results.new.results.results) c.take_tree.ensures.tree
    (c.in_ok-into_results.ensures.all c.new-results.ensures))

pub returns-clause-room : goal.returns-clause-room
returns-clause-room g c = record {
  room = λ request segment docs visits right.
      room-flushed request segment docs visits c.args.self.now right c.flush.new.self
      c.args.steps.now c.flush.new.steps c.in_ok-flush.ensures.takes c.args.limits.now
      c.flush.new.limits c.flush.ensures.charges c.in_ok-flush.ensures.exact
      c.in_ok-flush.ensures.within;
}

pub returns-clause-most : goal.returns-clause-most
returns-clause-most g c =
    few-flushed c.args.self.now c.args.steps.now c.flush.new.steps c.flush.ensures.most
