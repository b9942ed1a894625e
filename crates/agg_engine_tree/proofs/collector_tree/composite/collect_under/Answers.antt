use Rattle.std.proofs.Common.{Ok, ap}
use Rattle.std.specs.Prelude.{not}
use Rattle.std.proofs.lemmas.Bool.{ne_eqb}
use Rattle.agg_cache.specs.Waiting.{under}
use Rattle.agg_composite.proofs.OpenedBuckets.{prepared-no_fewer}
use Rattle.agg_composite.proofs.lemmas.accessor.SegmentRanges.{range-everywhere}
use Rattle.agg_engine_tree.proofs.lemmas.collector_tree.CompositeCalls.{answers-in_range}
use Rattle.agg_engine_tree.proofs.lemmas.collector_tree.CompositeCalls.{answers-prepared}
use Rattle.agg_engine_tree.proofs.lemmas.collector_tree.CompositeCalls.{answers-under}
use Rattle.agg_engine_tree.proofs.lemmas.collector_tree.CompositeCalls.{refuses-in_range}
use Rattle.agg_engine_tree.proofs.collector_tree.composite.collect_under.Goals as goal

pub returns-then-not-this : goal.returns-then-not-this
returns-then-not-this g c = λ segment after fits.
    let req = c.args.req.now in
    let mid = c.prepare_max_bucket.new.self in
    let new = c.collect_uncharged.new.self in
    let steps_now = c.collect_uncharged.new.steps in
    let answers = c.collect_uncharged.ensures in
    answers-prepared req segment after (under c.args.parent c.args.docs.now) c.args.collector.now
    mid new c.args.steps.now steps_now c.collect_uncharged.result
    (c.prepare_max_bucket.ensures.right req) c.prepare_max_bucket.ensures.rest
    (prepared-no_fewer c.args.collector.now mid c.prepare_max_bucket.ensures.parents)
    (answers-under req segment after c.args.parent c.args.docs.now mid new c.args.steps.now
    steps_now c.collect_uncharged.result (answers.visits segment after fits)
    (answers.many segment after fits) (answers.range segment after fits))

pub returns-in_err-collect_in_range : goal.returns-in_err-collect_in_range
returns-in_err-collect_in_range g c = λ segment after fits.
    let req = c.args.req.now in
    let docs = c.args.docs.now in
    let mid = c.prepare_max_bucket.new.self in
    let new = c.collect_in_range.new.self in
    let steps_now = c.collect_in_range.new.steps in
    let returned = c.from_residual-in_err-collect_in_range.result in
    let all = range-everywhere req docs (c.requires.range (ap not (ne_eqb _ 0 c.if-not-this.false)))
    segment after fits in
    answers-prepared req segment after (under c.args.parent docs) c.args.collector.now
    mid new c.args.steps.now steps_now returned
    (c.prepare_max_bucket.ensures.right req) c.prepare_max_bucket.ensures.rest
    (prepared-no_fewer c.args.collector.now mid c.prepare_max_bucket.ensures.parents)
    (refuses-in_range req segment after c.args.parent docs mid new c.args.steps.now steps_now all
    c.in_err-collect_in_range.field-0.0 returned
    (c.in_err-collect_in_range.ensures.visits segment after fits)
    c.from_residual-in_err-collect_in_range.ensures.1)

pub returns : goal.returns
returns g c = λ segment after fits.
    let req = c.args.req.now in
    let docs = c.args.docs.now in
    let mid = c.prepare_max_bucket.new.self in
    let new = c.collect_in_range.new.self in
    let steps_now = c.collect_in_range.new.steps in
    let all = range-everywhere req docs (c.requires.range (ap not (ne_eqb _ 0 c.if-not-this.false)))
    segment after fits in
    answers-prepared req segment after (under c.args.parent docs) c.args.collector.now
    mid new c.args.steps.now steps_now (Ok tt)
    (c.prepare_max_bucket.ensures.right req) c.prepare_max_bucket.ensures.rest
    (prepared-no_fewer c.args.collector.now mid c.prepare_max_bucket.ensures.parents)
    (answers-in_range req segment after c.args.parent docs mid new c.args.steps.now steps_now all
    (c.in_ok-collect_in_range.ensures.visits segment after fits))
