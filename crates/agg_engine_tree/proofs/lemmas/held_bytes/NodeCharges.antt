-- What a node is charged by itself, by the data that stands at its index.
use Rattle.std.proofs.Common.{◌≡◌, ◌+◌, ◌*◌, ◌-◌, ◌/◌, ◌^◌, ℕ, List, get_or, length, min}
use Rattle.std.proofs.Common.{sym, ap, ◌∙◌, arith}
use Rattle.std.specs.Int.{div_ceil}
use Rattle.agg_segment.specs.Segment.{documents_of}
use Rattle.agg_segment.specs.declared.query.QueryTree.{QueryTree}
use Rattle.agg_request_tree.specs.declared.aggregation.AggregationVariants.{AggregationVariants}
use Rattle.agg_request_tree.specs.declared.aggregation.AggregationVariants.TheVariants as asks
use Rattle.agg_request_tree.specs.charges.Charges.{node_charge}
use Rattle.agg_composite.specs.declared.accessor.request_data.CompositeAggReqData.{
  CompositeAggReqData,
}
use Rattle.agg_filter.specs.declared.request_data.FilterAggReqData.{FilterAggReqData}
use Rattle.agg_engine_tree.specs.segment_context.Context.{Meaning}
use Rattle.agg_engine_tree.specs.declared.segment_context.context.PerRequestAggSegCtx.{
  PerRequestAggSegCtx,
}
use Rattle.agg_engine_tree.specs.declared.segment_context.node.AggKind.TheVariants as kind
use Rattle.agg_engine_tree.proofs.lemmas.collector_tree.NodeData.{read-at}
use Rattle.agg_engine_tree.specs.held_bytes.Nodes.{IsNodeFor}

module _ (meaning : Meaning) (ctx : PerRequestAggSegCtx) (index : ℕ) where
  abbrev documents : ℕ
  documents = length (documents_of meaning.segment)

  -- a composite by its data
  pub composite-charge : (asked : AggregationVariants QueryTree)
      → IsNodeFor meaning ctx asked kind.Composite index
      → (read : List CompositeAggReqData) (r : CompositeAggReqData)
      → read ≡ ctx.composite_req_data → r ≡ get_or read index r
      → min (256 * (1 + length r.req.now.sources)) (2 ^ 64 - 1) ≡ node_charge documents asked
  composite-charge (asks.Composite a) of read r same is =
      let d = of.data_at in
      let at = read-at ctx.composite_req_data read index d.0 r same d.1 is in
      let one : d.0 ≡ r = cc (d.1, at) in
      let sources = (of.meant.composites index d.0 d.1).sources in
      omega (
        arith,
        sources.1,
        ap (λ (q : CompositeAggReqData). length q.req.now.sources) one,
        ap length d.3,
      )
  composite-charge _ of read r same is = absurd of.data_at

  -- a filter by its data
  pub filter-charge : (asked : AggregationVariants QueryTree)
      → IsNodeFor meaning ctx asked kind.Filter index
      → (read : List FilterAggReqData) (r : FilterAggReqData)
      → read ≡ ctx.filter_req_data → r ≡ get_or read index r
      → 256 + div_ceil (length r.evaluator) 8 ≡ node_charge documents asked
  filter-charge (asks.Filter a) of read r same is =
      let d = of.data_at in
      let at = read-at ctx.filter_req_data read index d.0 r same d.1 is in
      let one : d.0 ≡ r = cc (d.1, at) in
      let marks = (of.meant.filters index d.0 d.1).each in
      let many : length r.evaluator ≡ documents =
      sym (ap (λ (q : FilterAggReqData). length q.evaluator) one) ∙ marks in
      ap (λ n. 256 + n) (ap (λ n. div_ceil n 8) many ∙ in_eights documents)
    where
      in_eights : (n : ℕ) → div_ceil n 8 ≡ (n + 7) / 8
      in_eights n = omega arith
  filter-charge _ of read r same is = absurd of.data_at
