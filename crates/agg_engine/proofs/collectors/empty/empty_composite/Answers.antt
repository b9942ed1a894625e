use Rattle.std.proofs.Common.{take, ap}
use Rattle.agg_results.specs.intermediate_results.Intermediate.{as_composite}
use Rattle.agg_results.proofs.lemmas.intermediate_results.EmptyPages.{empty_page-all}
use Rattle.agg_results.proofs.lemmas.intermediate_results.EmptyPages.{empty_page-empty}
use Rattle.agg_results.proofs.lemmas.intermediate_results.EmptyPages.{empty_page-more}
use Rattle.agg_engine.proofs.collectors.empty.empty_composite.Goals as goal

pub add_order-requires : goal.add_order-requires
add_order-requires c = record {
  empty = empty_page-empty (take c.loop-source.source-index c.as_slice-source-items.result.now)
      c.args.size c.loop-source.buckets c.loop-source.invariant;
}

pub loop-source-preserved : goal.loop-source-preserved
loop-source-preserved c =
    empty_page-more c.as_slice-source-items.result.now c.loop-source.source-index
    c.args.size c.source-item.result c.order.result c.missing_order.result
    c.loop-source.buckets c.add_order.new.self c.loop-source-test.true c.source-item.is
    c.order.ensures c.missing_order.ensures c.loop-source.invariant c.in_ok-add_order.ensures.ok

pub returns : goal.returns
returns c =
    ap as_composite (empty_page-all c.as_slice-source-items.result.now
    c.args.composite.now.sources c.loop-source.source-index c.args.size c.loop-source.buckets
    c.as_slice-source-items.ensures c.loop-source-test.false c.loop-source.invariant)
