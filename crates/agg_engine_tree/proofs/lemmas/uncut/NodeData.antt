-- The data of a node is that of what its aggregation asks, and tells how often it lists a document.
use Rattle.std.proofs.Common.{◌≡◌, ℕ, ◌<◌, List, [], ◌∷◌, Bool, true, false, Some, cond, get_or}
use Rattle.std.proofs.Common.{length, refl, sym, ap, ◌∙◌, subst, Bor}
use Rattle.std.specs.Prelude.{filter_map}
use Rattle.std.specs.Io.Iter.{u64_saturate}
use Rattle.std.proofs.lemmas.Option.{get_or_from_slice_get}
use Rattle.std.proofs.lemmas.List.{append-nil}
use Rattle.std.proofs.lemmas.List.Concat.{flat_map-cons}
use mir.Val.{bool_byte}
use Rattle.agg_values.specs.Names.{Named}
use Rattle.agg_values.specs.declared.after_key.AfterKey.{AfterKey}
use Rattle.agg_segment.specs.storage.Columns.{StoredColumn, all_keys}
use Rattle.agg_segment.specs.storage.Document.{Fields}
use Rattle.agg_segment.specs.Marks.{AreMarks, mark_at}
use Rattle.agg_segment.specs.Query.{matches}
use Rattle.agg_segment.specs.Segment.{Stored, document_at, documents_at, documents_of}
use Rattle.agg_segment.specs.declared.query.QueryTree.{QueryTree}
use Rattle.agg_request_tree.specs.Matching.{filter_matches}
use Rattle.agg_request_tree.specs.Metrics.{number_of}
use Rattle.agg_request_tree.specs.Occurrences.{occurrences}
use Rattle.agg_request_tree.specs.Uncut.{counted, once_each, uncut}
use Rattle.agg_request_tree.specs.declared.aggregation.AggregationVariants.{AggregationVariants}
use Rattle.agg_request_tree.specs.declared.aggregation.AggregationVariants.TheVariants as asks
use Rattle.agg_request_tree.specs.declared.aggregation.CompositeAggregation.{CompositeAggregation}
use Rattle.agg_request_tree.specs.declared.aggregation.filter.FilterQuery.{FilterQuery}
use Rattle.agg_request_tree.specs.declared.aggregation.filter.FilterQuery.TheVariants as by_query
use Rattle.agg_request_tree.proofs.UncutLength.{length-each}
use Rattle.agg_composite.specs.accessor.Accessors.{Fits}
use Rattle.agg_composite.specs.declared.accessor.request_data.CompositeAggReqData.{
  CompositeAggReqData,
}
use Rattle.agg_filter.specs.declared.request_data.FilterAggReqData.{FilterAggReqData}
use Rattle.agg_metric.specs.declared.request_data.MetricAggReqData.{MetricAggReqData}
use Rattle.agg_metric.specs.declared.request_data.StatsType.{StatsType}
use Rattle.agg_metric.specs.declared.request_data.StatsType.TheVariants as stats
use Rattle.agg_engine_tree.specs.segment_context.Context.{IsAskedAt, IsCompositeAt, IsMeant}
use Rattle.agg_engine_tree.specs.segment_context.Context.{IsMetricAt, Meaning, tree_in}
use Rattle.agg_engine_tree.specs.declared.segment_context.context.PerRequestAggSegCtx.{
  PerRequestAggSegCtx,
}
use Rattle.agg_engine_tree.specs.declared.segment_context.node.AggKind.TheVariants as kind
use Rattle.agg_engine_tree.specs.uncut.NodeData.{AreColumnsOf, HasAccessorsFor, IsDataOf, num_read}
use Rattle.agg_engine_tree.specs.uncut.Uncut.{times}
use Rattle.agg_engine_tree.specs.declared.uncut.node_data.NodeData.TheVariants as by

-- a filter's query matches what its tree does
tree-matches : (query : FilterQuery QueryTree)
    → matches (tree_in query) ≡ filter_matches matches query
tree-matches (by_query.Tree tree) = refl
tree-matches (by_query.CustomBuilder tree) = refl

-- ---- the data at the index of a node

module _ (meaning : Meaning) (ctx : PerRequestAggSegCtx) (segment : Stored)
    (is : meaning.segment ≡ segment) (meant : IsMeant meaning ctx) (name : List ℕ) (index : ℕ) where
  -- that of a composite
  pub composite-accessors : (a : CompositeAggregation) (req d : CompositeAggReqData)
      → req ≡ get_or ctx.composite_req_data index d → IsCompositeAt meaning ctx name a index
      → HasAccessorsFor segment a.sources req
  composite-accessors a req d at asked =
      let same : req ≡ asked.0 =
      at ∙ get_or_from_slice_get ctx.composite_req_data index asked.0 d asked.1 in
      let fits = (meant.composites index req (asked.1 ∙ ap Some (sym same))).fits in (
        meaning.after_at index,
        subst (λ s. Fits s (meaning.after_at index) req) is fits,
        ap (λ (r : CompositeAggReqData). r.req.now.sources) same ∙ asked.3,
      )

  pub composite-data : (v : AggregationVariants QueryTree) (req : Bor CompositeAggReqData)
      (d : CompositeAggReqData) → req.now ≡ get_or ctx.composite_req_data index d
      → IsAskedAt meaning ctx name v kind.Composite index → IsDataOf segment v (by.Composite req)
  composite-data (asks.Composite a) req d at asked =
      composite-accessors a req.now d at asked
  composite-data (asks.Filter a) req d at asked = absurd asked
  composite-data (asks.Count a) req d at asked = absurd asked
  composite-data (asks.Max a) req d at asked = absurd asked
  composite-data (asks.Min a) req d at asked = absurd asked
  composite-data (asks.Sum a) req d at asked = absurd asked

  -- that of a filter
  pub filter-data : (v : AggregationVariants QueryTree) (evaluator : Bor (List Bool))
      (d : FilterAggReqData)
      → evaluator.now ≡ (get_or ctx.filter_req_data index d).evaluator
      → IsAskedAt meaning ctx name v kind.Filter index → IsDataOf segment v (by.Filter evaluator)
  filter-data (asks.Filter a) evaluator d own asked =
      let same : evaluator.now ≡ asked.0.evaluator =
      own ∙ ap (λ (r : FilterAggReqData). r.evaluator)
      (get_or_from_slice_get ctx.filter_req_data index asked.0 d asked.1) in
      let marks = meant.filters index asked.0 asked.1 in
      let is_match = ap matches asked.3 ∙ tree-matches a.query in
      subst (λ (p : (Fields → Bool) × Stored × List Bool). AreMarks p.0 p.1 p.2)
      (λ i. (is_match i, is i, sym same i)) marks
  filter-data (asks.Composite a) evaluator d own asked = absurd asked
  filter-data (asks.Count a) evaluator d own asked = absurd asked
  filter-data (asks.Max a) evaluator d own asked = absurd asked
  filter-data (asks.Min a) evaluator d own asked = absurd asked
  filter-data (asks.Sum a) evaluator d own asked = absurd asked

  -- that of a metric
  metric-columns : (computed : StatsType) (field : List ℕ) (columns : Bor (List StoredColumn))
      (d : MetricAggReqData)
      → AreColumnsOf segment (get_or ctx.stats_metric_req_data index d).field columns.now
      → IsMetricAt meaning ctx name computed field index → AreColumnsOf segment field columns.now
  metric-columns computed field columns d own asked =
      subst (λ f. AreColumnsOf segment f columns.now)
      (ap (λ (r : MetricAggReqData). r.field)
      (get_or_from_slice_get ctx.stats_metric_req_data index asked.0 d asked.1) ∙ asked.3) own

  pub metric-data : (v : AggregationVariants QueryTree) (computed : StatsType)
      (columns : Bor (List StoredColumn)) (d : MetricAggReqData)
      → AreColumnsOf segment (get_or ctx.stats_metric_req_data index d).field columns.now
      → IsAskedAt meaning ctx name v (kind.StatsKind computed) index
      → IsDataOf segment v (by.Metric computed columns)
  metric-data (asks.Count a) stats.Count = metric-columns stats.Count a.field
  metric-data (asks.Max a) stats.Max = metric-columns stats.Max a.field
  metric-data (asks.Min a) stats.Min = metric-columns stats.Min a.field
  metric-data (asks.Sum a) stats.Sum = metric-columns stats.Sum a.field
  metric-data _ _ = λ columns d own asked. absurd asked

-- ---- how often a node lists a document

-- once for each element of a document
length-one : {X : Type 0} (elements : Fields → List X) (document : Fields)
    → length (once_each elements (document ∷ [])) ≡ length (elements document)
length-one elements document =
    length-each elements (document ∷ [])
    ∙ ap length (flat_map-cons elements document [] ∙ append-nil (elements document))

-- once where it matches
length-match : (b : Bool) (document : Fields)
    → bool_byte b ≡ u64_saturate (length (cond b (document ∷ []) []))
length-match true document = refl
length-match false document = refl

-- how many documents a composite lists of some
pub composite-lists : (segment : Stored) (docs : List ℕ) (v : AggregationVariants QueryTree)
    (req : Bor CompositeAggReqData) (n : ℕ) → IsDataOf segment v (by.Composite req)
    → ((stored : Stored) (after : Named AfterKey) → Fits stored after req.now
    → n ≡ u64_saturate (length (counted req.now.req.now (documents_at stored docs))))
    → n ≡ u64_saturate (length (uncut matches v (documents_at segment docs)))
composite-lists segment docs (asks.Composite a) req n of count =
    count segment of.0 of.1
    ∙ ap (λ sources. u64_saturate (length (once_each (occurrences sources)
    (documents_at segment docs)))) of.2
composite-lists segment docs (asks.Filter a) req n of count = absurd of
composite-lists segment docs (asks.Count a) req n of count = absurd of
composite-lists segment docs (asks.Max a) req n of count = absurd of
composite-lists segment docs (asks.Min a) req n of count = absurd of
composite-lists segment docs (asks.Sum a) req n of count = absurd of

module _ (segment : Stored) (doc : ℕ) where
  -- a composite
  pub composite-times : (v : AggregationVariants QueryTree) (req : Bor CompositeAggReqData) (n : ℕ)
      → IsDataOf segment v (by.Composite req)
      → ((stored : Stored) (after : Named AfterKey) → Fits stored after req.now
      → n ≡ u64_saturate (length (counted req.now.req.now (documents_at stored (doc ∷ [])))))
      → n ≡ u64_saturate (times v (document_at segment doc))
  composite-times v req n of count = composite-lists segment (doc ∷ []) v req n of count

  -- a filter
  pub filter-times : (v : AggregationVariants QueryTree) (evaluator : Bor (List Bool)) (b : Bool)
      → IsDataOf segment v (by.Filter evaluator) → doc < length (documents_of segment)
      → b ≡ mark_at evaluator.now doc
      → bool_byte b ≡ u64_saturate (times v (document_at segment doc))
  filter-times (asks.Filter a) evaluator b of within marked =
      let is_match = filter_matches matches a.query (document_at segment doc) in
      let told : b ≡ is_match =
      marked ∙ of.told doc (subst (λ n. doc < n) (sym of.each) within) in
      ap bool_byte told ∙ length-match is_match (document_at segment doc)
  filter-times (asks.Composite a) evaluator b of within marked = absurd of
  filter-times (asks.Count a) evaluator b of within marked = absurd of
  filter-times (asks.Max a) evaluator b of within marked = absurd of
  filter-times (asks.Min a) evaluator b of within marked = absurd of
  filter-times (asks.Sum a) evaluator b of within marked = absurd of

  -- a metric of numbers and dates
  numbers-times : (field : List ℕ) (columns : Bor (List StoredColumn))
      → AreColumnsOf segment field columns.now
      → length (filter_map number_of (all_keys columns.now doc))
      ≡ length (once_each (λ d. filter_map number_of (d field)) (document_at segment doc ∷ []))
  numbers-times field columns of =
      ap (λ ks. length (filter_map number_of ks)) (of doc)
      ∙ sym (length-one (λ d. filter_map number_of (d field)) (document_at segment doc))

  -- a metric
  pub metric-times : (v : AggregationVariants QueryTree) (computed : StatsType)
      (columns : Bor (List StoredColumn)) → IsDataOf segment v (by.Metric computed columns)
      → num_read computed (all_keys columns.now doc) ≡ times v (document_at segment doc)
  metric-times (asks.Count a) stats.Count columns of =
      ap length (of doc) ∙ sym (length-one (λ d. d a.field) (document_at segment doc))
  metric-times (asks.Max a) stats.Max columns of = numbers-times a.field columns of
  metric-times (asks.Min a) stats.Min columns of = numbers-times a.field columns of
  metric-times (asks.Sum a) stats.Sum columns of = numbers-times a.field columns of
  metric-times _ _ columns of = absurd of
