use Rattle.agg_cache.specs.Waiting.{under}
use Rattle.agg_engine_tree.specs.collector_tree.Took.{MetricAnswers}
use Rattle.agg_engine_tree.proofs.lemmas.collector_tree.MetricCalls.{answers-prepared}
use Rattle.agg_engine_tree.proofs.lemmas.collector_tree.MetricCalls.{answers-under}
use Rattle.agg_engine_tree.proofs.lemmas.collector_tree.MetricCalls.{answers-unprepared}
use Rattle.agg_engine_tree.proofs.lemmas.collector_tree.PassedErrors.{error-passed}
use Rattle.agg_engine_tree.proofs.collector_tree.metric.collect_under.Goals as goal

pub returns-in_err-prepare_max_bucket : goal.returns-in_err-prepare_max_bucket
returns-in_err-prepare_max_bucket c =
    let pairs = under c.args.parent c.args.docs.now in
    let new = c.prepare_max_bucket.new.self in
    let error = c.in_err-prepare_max_bucket.field-0.0 in
    error-passed (MetricAnswers pairs c.args.collector.now new) c.from_residual.result error
    c.from_residual.ensures.1
    (answers-unprepared pairs c.args.collector.now new error
    c.in_err-prepare_max_bucket.ensures.errors)

pub returns : goal.returns
returns c =
    let mid = c.prepare_max_bucket.new.self in
    answers-prepared (under c.args.parent c.args.docs.now) c.args.collector.now mid
    c.collect.new.self c.collect.result c.prepare_max_bucket.ensures.right
    c.prepare_max_bucket.ensures.parents
    (answers-under c.args.parent c.args.docs.now mid c.collect.new.self c.collect.result
    c.collect.ensures.visits c.collect.ensures.too_many c.collect.ensures.errors)
