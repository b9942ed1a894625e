use Rattle.std.proofs.Common.{rules}
use Rattle.agg_request_tree.proofs.SourceOrders.{orders-all, orders-more, unnegated}
use Rattle.agg_results.proofs.intermediate_results.final_results.other_shapes.are_orders_of.Goals
    as goal

pub loop-i-preserved : goal.loop-i-preserved
loop-i-preserved c =
    orders-more c.args.orders.now c.args.sources.now c.loop-i.i c.index-sources-i.result
    c.order.result c.missing_order.result _ c.if-orders-sources.false c.loop-i-test.true
    c.index-sources-i.is c.order.ensures c.missing_order.ensures (unnegated _ c.if-ne.ensures)
    c.loop-i.invariant

pub returns : goal.returns
returns c = (
  λ yes. orders-all c.args.orders.now c.args.sources.now c.loop-i.i c.if-orders-sources.false
      c.loop-i-test.false c.loop-i.invariant,
  λ same. search rules,
)
