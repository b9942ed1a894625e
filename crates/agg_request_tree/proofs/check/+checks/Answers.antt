use Rattle.std.specs.List.{Any}
use Rattle.agg_request_tree.specs.Faults.{CompositeHasCause, HasCause}
use Rattle.agg_request_tree.specs.Request.{below_of, composites_in}
use Rattle.agg_request_tree.proofs.CheckedRequests.{IsCheckedUpTo-all, IsCheckedUpTo-more}
use Rattle.agg_request_tree.proofs.CheckedRequests.{IsCheckedUpTo-refused, NamesAscend-all}
use Rattle.agg_request_tree.proofs.CheckedRequests.{below-cause, each-refusal, sound-aggregation}
use Rattle.agg_request_tree.proofs.Checks.{passed_on}
use Rattle.std.proofs.lemmas.Result.{on_ok_weaker}
use Rattle.agg_request_tree.proofs.check.+checks.Goals as goal

pub check_aggregations-loop-aggregation-preserved
    : goal.check_aggregations-loop-aggregation-preserved
check_aggregations-loop-aggregation-preserved g t c =
    IsCheckedUpTo-more c.args.request.now c.loop-aggregation.aggregation-iterator
    c.in-Some.field-0-0.now c.in-Some.aggregation.now c.next.new.self
    c.loop-aggregation.invariant c.in-Some.ensures.steps c.in_ok-check_aggregation.ensures.ok
    c.in_ok-check_aggregation.ensures.names

pub check_aggregations-returns-in_err-check_aggregation-clause-err
    : goal.check_aggregations-returns-in_err-check_aggregation-clause-err
check_aggregations-returns-in_err-check_aggregation-clause-err g t c =
    let refusal = c.in_err-check_aggregation.field-0.0 in
    passed_on (HasCause c.args.request.now) refusal c.from_residual.result c.from_residual.ensures.1
    (IsCheckedUpTo-refused c.args.request.now c.loop-aggregation.aggregation-iterator
    c.in-Some.field-0-0.now c.in-Some.aggregation.now c.next.new.self refusal
    c.loop-aggregation.invariant c.in-Some.ensures.steps c.in_err-check_aggregation.ensures.err)

pub check_aggregation-returns-clause-ok : goal.check_aggregation-returns-clause-ok
check_aggregation-returns-clause-ok g t c =
    on_ok_weaker c.check_aggregations.result
    (sound-aggregation c.args.aggregation.now c.in_ok-check_own.ensures.ok)
    c.check_aggregations.ensures.ok

pub check_aggregation-returns-clause-err : goal.check_aggregation-returns-clause-err
check_aggregation-returns-clause-err g t c =
    let a = c.args.aggregation.now in
    each-refusal (λ e. HasCause (below_of a) e)
    (λ e. Any (λ composite. CompositeHasCause composite e) (composites_in a))
    c.check_aggregations.result (below-cause a) c.check_aggregations.ensures.err

pub check_aggregations-returns-clause-ok : goal.check_aggregations-returns-clause-ok
check_aggregations-returns-clause-ok g t c =
    IsCheckedUpTo-all c.args.request.now c.loop-aggregation.aggregation-iterator
    c.loop-aggregation.invariant c.in-None.ensures.steps.0

pub check_aggregations-returns-clause-names : goal.check_aggregations-returns-clause-names
check_aggregations-returns-clause-names g t c =
    NamesAscend-all c.args.request.now c.loop-aggregation.aggregation-iterator
    c.loop-aggregation.invariant c.in-None.ensures.steps.0
    c.iter-aggregation-items.ensures.ascending
