use Rattle.std.proofs.Common.{subst, rules}
use Rattle.agg_request_tree.specs.FieldNames.{HasMore}
use Rattle.agg_request_tree.proofs.FieldNames.{AreAddedUpTo-all, AreAddedUpTo-more}
use Rattle.agg_request_tree.proofs.FieldNames.{AreAddedUpTo-none, adds-aggregation}
use Rattle.std.proofs.lemmas.Result.{on_ok_weaker}
use Rattle.agg_request_tree.proofs.field_names.+fields.Goals as goal

pub add_aggregation-returns : goal.add_aggregation-returns
add_aggregation-returns g t c =
    let own = subst (HasMore c.args.names.now c.add_all.new.names)
    c.in_ok-get_fast_field_names.ensures c.in_ok-add_all.ensures in
    on_ok_weaker c.add_request.result
    (adds-aggregation c.args.aggregation.now c.args.names.now c.add_all.new.names
    c.add_request.new.names own) c.add_request.ensures

pub add_request-loop-aggregation-init : goal.add_request-loop-aggregation-init
add_request-loop-aggregation-init g t c =
    AreAddedUpTo-none c.args.aggs.now c.into_iter-aggregation-iterator.result c.args.names.now
    (search rules)

pub add_request-loop-aggregation-preserved : goal.add_request-loop-aggregation-preserved
add_request-loop-aggregation-preserved g t c =
    AreAddedUpTo-more c.args.aggs.now c.loop-aggregation.aggregation-iterator c.args.names.now
    c.loop-aggregation.names c.add_aggregation.new.names c.in-Some.field-0-0.now
    c.in-Some.aggregation.now c.next.new.self c.loop-aggregation.invariant
    c.in-Some.ensures.steps c.in_ok-add_aggregation.ensures

pub add_request-returns : goal.add_request-returns
add_request-returns g t c =
    AreAddedUpTo-all c.args.aggs.now c.loop-aggregation.aggregation-iterator c.args.names.now
    c.loop-aggregation.names c.loop-aggregation.invariant c.in-None.ensures.steps.0
