use Rattle.std.proofs.Common.{[], ◌∷◌, ap, Err}
use Rattle.agg_cache.specs.Waiting.{under}
use Rattle.agg_filter.specs.Matching.{is_matching}
use Rattle.agg_engine_tree.specs.collector_tree.Took.{FilterAnswers}
use Rattle.agg_engine_tree.proofs.lemmas.collector_tree.FilterCalls.{answers-prepared}
use Rattle.agg_engine_tree.proofs.lemmas.collector_tree.FilterCalls.{answers-under}
use Rattle.agg_engine_tree.proofs.lemmas.collector_tree.FilterCalls.{answers-unprepared}
use Rattle.agg_engine_tree.proofs.lemmas.collector_tree.PassedErrors.{error-passed}
use Rattle.agg_engine_tree.proofs.collector_tree.filter.collect_under.Goals as goal

pub returns-in_err-prepare_max_bucket : goal.returns-in_err-prepare_max_bucket
returns-in_err-prepare_max_bucket c = λ tree segment marks.
    let p = is_matching tree segment in
    let pairs = under c.args.parent c.args.docs.now in
    let new = c.prepare_max_bucket.new.self in
    let error = c.in_err-prepare_max_bucket.field-0.0 in
    error-passed (FilterAnswers p pairs (c.args.parent ∷ []) c.args.collector.now new)
    c.from_residual.result error c.from_residual.ensures.1
    (answers-unprepared p pairs c.args.parent c.args.collector.now new error
    (λ e. c.in_err-prepare_max_bucket.ensures.too_many.0 (ap Err e))
    c.in_err-prepare_max_bucket.ensures.errors)

pub returns : goal.returns
returns c = λ tree segment marks.
    let p = is_matching tree segment in
    let pairs = under c.args.parent c.args.docs.now in
    let mid = c.prepare_max_bucket.new.self in
    answers-prepared p pairs (c.args.parent ∷ []) c.args.collector.now mid c.collect.new.self
    c.collect.result c.prepare_max_bucket.ensures.right c.prepare_max_bucket.ensures.parents
    (answers-under p c.args.parent c.args.docs.now (c.args.parent ∷ []) mid c.collect.new.self
    c.collect.result (c.collect.ensures.visits tree segment marks)
    (c.collect.ensures.too_many tree segment marks).0 c.collect.ensures.errors)
