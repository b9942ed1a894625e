use Rattle.std.proofs.Common.{◌<◌, List, arith, length, ap, ◌∙◌, get_or}
use Rattle.std.proofs.lemmas.Bool.Decides.{nat_tests}
use Rattle.std.proofs.lemmas.Option.{slice_get_read}
use Rattle.agg_composite.specs.declared.accessor.request_data.CompositeAggReqData.{
  CompositeAggReqData,
}
use Rattle.agg_engine_tree.specs.declared.segment_context.node.AggRefNode.TheViews.{out-AggRefNode}
use Rattle.agg_engine.proofs.lemmas.snapshot_results.LoneNodes.{lone-read}
use Rattle.agg_engine.proofs.snapshot_results.lone.lone_composite.Goals as goal

pub returns-clause-lone : goal.returns-clause-lone
returns-clause-lone c =
    let ctx = c.args.context.now.aggregations.per_request in
    let req = c.in_ok-req.req.now in
    let index = (out-AggRefNode c.node-item.result).idx_in_req_data in
    let none : length c.as_slice-2.result.now < 1 =
    grind (arith, nat_tests, c.if-not-is_empty.ensures) in
    let found = c.in_ok-req.ensures.lookup in
    lone-read ctx c.as_slice.result.now c.node-item.result req c.as_slice.ensures (omega arith)
    c.node-item.is c.in-Composite.is (omega (arith, none, ap length c.as_slice-2.ensures))
    (slice_get_read ctx.composite_req_data (length c.as_slice-3.result.now) index req
    (ap length c.as_slice-3.ensures) found.3.0
    (found.1 ∙ ap (λ (xs : List CompositeAggReqData). get_or xs index req) c.as_slice-3.ensures))
    (omega (arith, c.if-as_slice-ne1.false, ap length c.as_slice-4.ensures))

pub has_room-requires : goal.has_room-requires
has_room-requires c =
    let ctx = c.args.context.now.aggregations.per_request in
    let req = c.in_ok-req.req.now in
    let index = (out-AggRefNode c.node-item.result).idx_in_req_data in
    let meaning = c.requires.0 in
    let found = c.in_ok-req.ensures.lookup in (
      meaning.segment,
      meaning.after_at index,
      (c.requires.1.composites index req
          (slice_get_read ctx.composite_req_data (length c.as_slice-3.result.now) index req
          (ap length c.as_slice-3.ensures) found.3.0
          (found.1 ∙ ap (λ (xs : List CompositeAggReqData). get_or xs index req)
          c.as_slice-3.ensures))).fits,
    )
