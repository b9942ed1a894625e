-- The result of one node is added, by what its collector has of the parent.
use Rattle.std.proofs.Common.{◌≡◌, ◌<◌, ℕ, List, [], ◌∷◌, Bool, true, Option}
use Rattle.std.proofs.Common.{Some}
use Rattle.std.proofs.Common.{None, length, get_or, filter, refl, sym}
use Rattle.std.proofs.Common.{ap, ◌∙◌, subst}
use Rattle.std.specs.Prelude.{slice_get}
use Rattle.std.specs.List.{All}
use Rattle.std.specs.Map.{keys_of}
use Rattle.std.specs.declared.alloc.Global.{Global}
use Rattle.std.specs.declared.boxed.Box.{Box}
use Rattle.std.proofs.lemmas.List.Elements.{All-contains}
use Rattle.std.proofs.lemmas.Option.{slice_get_read, slice_get_within}
use Rattle.agg_values.specs.Names.{put, value_of}
use Rattle.agg_segment.specs.Segment.{Stored, documents_at}
use Rattle.agg_request_tree.specs.Metrics.{values_of_field}
use Rattle.agg_request_tree.proofs.Lists.{Contains-here}
use Rattle.agg_composite.specs.accessor.Decoded.{IsEncoded}
use Rattle.agg_composite.specs.accessor.Encoding.{EncodedTuple}
use Rattle.agg_composite.specs.declared.accessor.request_data.CompositeAggReqData.{
  CompositeAggReqData,
}
use Rattle.agg_composite.specs.buckets.Page.{Page}
use Rattle.agg_composite.specs.Composite.{Composite, CompositeFor}
use Rattle.agg_composite.specs.PageEntries.{page_entries}
use Rattle.agg_filter.specs.Filter.{Filter, FilterFor}
use Rattle.agg_filter.specs.declared.request_data.FilterAggReqData.{FilterAggReqData}
use Rattle.agg_metric.specs.Collector.{Metric, MetricFor}
use Rattle.agg_metric.specs.Metric.{metric_of}
use Rattle.agg_metric.specs.declared.request_data.MetricAggReqData.{MetricAggReqData}
use Rattle.agg_results.specs.declared.metric_results.metric.IntermediateMetricResult as metrics
use metrics.{IntermediateMetricResult}
use Rattle.agg_results.specs.intermediate_results.Intermediate.{Held as Results, as_composite}
use Rattle.agg_results.specs.intermediate_results.Intermediate.{as_filter}
use Rattle.agg_results.specs.declared.intermediate_results as intermediate
use intermediate.composite.IntermediateCompositeBucketResult.{IntermediateCompositeBucketResult}
use intermediate.results.IntermediateAggregationResult.TheVariants as result
use intermediate.results.IntermediateAggregationResults.{IntermediateAggregationResults}
use Rattle.agg_engine_tree.specs.segment_context.Context.{IsCompositeMeant}
use Rattle.agg_engine_tree.specs.declared.segment_context.context.PerRequestAggSegCtx.{
  PerRequestAggSegCtx,
}
use Rattle.agg_engine_tree.specs.collector_tree.Caches.{Cache, waiting_in}
use Rattle.agg_engine_tree.specs.collector_tree.Tree.{Held, held_of, visits_of}
use Rattle.agg_engine_tree.specs.declared.collector_tree.tree.SegmentCollectorTree as tree
use tree.{SegmentCollectorTree}
use Rattle.agg_engine_tree.specs.tree_results.Entries.{HoldsPage, IsAscending}
use Rattle.agg_engine_tree.specs.tree_results.Names.{composite_name, filter_name, metric_name}
use Rattle.agg_engine_tree.specs.tree_results.Pages.{IsPageUnder, encoded_under}
use Rattle.agg_engine_tree.specs.tree_results.Results.{Adds, GroupStands, MayAdd, docs_taken}
use Rattle.agg_engine_tree.proofs.lemmas.tree_results.CompositeNodes.{composite-stands}
use Rattle.agg_engine_tree.proofs.lemmas.tree_results.FilterNodes.{filter-stands}
use Rattle.agg_engine_tree.proofs.lemmas.tree_results.Levels.{held-composite, held-filter}
use Rattle.agg_engine_tree.proofs.lemmas.tree_results.Levels.{held-metric}
use Rattle.agg_engine_tree.proofs.lemmas.tree_results.MetricNodes.{metric-stands}
use Rattle.agg_engine_tree.proofs.lemmas.tree_results.NamedNodes.{composite_name-at, filter_name-at}
use Rattle.agg_engine_tree.proofs.lemmas.tree_results.NamedNodes.{metric_name-at}
use Rattle.agg_engine_tree.proofs.lemmas.tree_results.PutNames.{adds-node}
use Rattle.agg_engine_tree.proofs.lemmas.tree_results.TakenPages.{entries-encoded, entries-told}

-- what is read at an index is there
pub found-at : {X : Type 0} (xs ys : List X) (i : ℕ) (x : X) → xs ≡ ys → i < length xs
    → x ≡ get_or xs i x → slice_get ys i ≡ Some x
found-at xs ys i x same within is =
    ap (λ zs. slice_get zs i) (sym same) ∙ slice_get_read xs (length xs) i x refl within is

-- an index at which something is found lies within
pub index-within : {X : Type 0} (xs ys : List X) (i : ℕ) → xs ≡ ys
    → (x : X) → slice_get ys i ≡ Some x → i < length xs
index-within xs ys i same x found =
    slice_get_within xs i x (ap (λ zs. slice_get zs i) same ∙ found)

module _ (ctx : PerRequestAggSegCtx) (node : SegmentCollectorTree) (old : Results)
    (may : MayAdd ctx (held_of node) old) where
  -- what may be added, by what the node is
  abbrev as_is : (h : Held) → held_of node ≡ h → MayAdd ctx h old
  as_is h is = subst (λ h. MayAdd ctx h old) is may

  -- ---- a composite

  module _ (index : ℕ) (collector : Composite Cache) (child : Box SegmentCollectorTree Global)
      (is : node ≡ tree.Composite index collector child) where
    abbrev composite_held : Held
    composite_held = Held.composite index collector (held_of child.value)

    composite_is : held_of node ≡ composite_held
    composite_is = ap held_of is ∙ held-composite index collector child

    abbrev composite_may : MayAdd ctx composite_held old
    composite_may = as_is composite_held composite_is

    -- its data is at its index
    pub composite-within : (reqs : List CompositeAggReqData) → reqs ≡ ctx.composite_req_data
        → index < length reqs
    composite-within reqs same =
        let fits = composite_may.fits.0 in
        index-within reqs ctx.composite_req_data index same fits.0 fits.1

    -- the tree below it may add its results to none
    pub composite-below : (below : SegmentCollectorTree) (held : Results) → below ≡ child.value
        → held ≡ [] → MayAdd ctx (held_of below) held
    composite-below below held same none =
        let right = composite_may.right in
        subst (λ b. MayAdd ctx (held_of b) held) (sym same)
        (subst (MayAdd ctx (held_of child.value)) (sym none) (record {
          meaning = composite_may.meaning;
          taken = right.0;
          visits = right.2;
          meant = composite_may.meant;
          right = right.4;
          fits = composite_may.fits.2;
          flushed = composite_may.flushed.1;
          apart = composite_may.apart;
          absent = λ k d within. refl;
        }))

    module _ (req : CompositeAggReqData)
        (found : slice_get ctx.composite_req_data index ≡ Some req) where
      composite-meant : IsCompositeMeant composite_may.meaning index req
      composite-meant = composite_may.meant.composites index req found

      composite-right : CompositeFor waiting_in req collector
          (visits_of req composite_may.meaning.segment (composite_may.meaning.after_at index)
          composite_may.taken) composite_may.right.0
      composite-right = (composite_may.right.3 req found).0

      -- its entries are those of a parent
      module _ (parent : Option ℕ) (entries : Page EncodedTuple)
          (are : entries ≡ encoded_under collector parent) where
        composite-told : IsPageUnder collector req parent (page_entries req entries)
        composite-told =
            subst (λ es. IsPageUnder collector req parent (page_entries req es)) (sym are)
            (entries-told collector req composite_may.meaning.segment
            (composite_may.meaning.after_at index) composite-meant.fits parent)

        -- they ascend
        pub composite-ascending : IsAscending req.req.now.sources (page_entries req entries)
        composite-ascending =
            (composite-told composite_may.meaning.segment (composite_may.meaning.after_at index)
            composite_may.taken composite_may.right.0 composite-right).groups.ascending

        -- the tuples of the entries stand for tuples
        pub composite-encoded : All (IsEncoded req) (keys_of entries)
        composite-encoded =
            subst (λ (es : Page EncodedTuple). All (IsEncoded req) (keys_of es)) (sym are)
            (entries-encoded collector req
            (visits_of req composite_may.meaning.segment (composite_may.meaning.after_at index)
            composite_may.taken) composite_may.right.0 composite-right parent)

        -- a result that holds them is added
        pub composite-added : (c : IntermediateCompositeBucketResult)
            → HoldsPage ctx (held_of child.value) req.req.now.sources req.size
            (page_entries req entries) c
            → (new : Results) → new ≡ put req.name (as_composite c) old
            → Adds ctx (held_of node) parent old new
        composite-added c holds new put_is =
            let named = ap (λ n. n ∷ [])
            (composite_name-at composite_may.meaning ctx index req found) in
            subst (λ h. Adds ctx h parent old new) (sym composite_is)
            (subst (Adds ctx composite_held parent old) (sym put_is)
            (adds-node req.name (as_composite c) old ctx composite_held parent named
            (λ plans group. group)
            (composite-stands ctx index collector (held_of child.value) composite_may.fits.1 parent
            req found (page_entries req entries) composite_may.flushed.0 composite-told
            holds.entries holds.are c holds.is)))

      -- its name isn't held
      pub composite-absent : value_of req.name old ≡ None
      composite-absent =
          ap (λ n. value_of n old)
          (sym (composite_name-at composite_may.meaning ctx index req found))
          ∙ All-contains (λ name. value_of name old ≡ None) (composite_name ctx index ∷ [])
          (composite_name ctx index) composite_may.absent
          (Contains-here (composite_name ctx index) [])

  -- ---- a filter

  module _ (index : ℕ) (collector : Filter Cache) (child : Box SegmentCollectorTree Global)
      (is : node ≡ tree.Filter index collector child) where
    abbrev filter_held : Held
    filter_held = Held.filter index collector (held_of child.value)

    filter_is : held_of node ≡ filter_held
    filter_is = ap held_of is ∙ held-filter index collector child

    abbrev filter_may : MayAdd ctx filter_held old
    filter_may = as_is filter_held filter_is

    pub filter-within : (reqs : List FilterAggReqData) → reqs ≡ ctx.filter_req_data
        → index < length reqs
    filter-within reqs same =
        let fits = filter_may.fits.0 in
        index-within reqs ctx.filter_req_data index same fits.0 fits.1

    pub filter-below : (below : SegmentCollectorTree) (held : Results) → below ≡ child.value
        → held ≡ [] → MayAdd ctx (held_of below) held
    filter-below below held same none =
        let right = filter_may.right in
        subst (λ b. MayAdd ctx (held_of b) held) (sym same)
        (subst (MayAdd ctx (held_of child.value)) (sym none) (record {
          meaning = filter_may.meaning;
          taken = right.0;
          visits = filter_may.visits;
          meant = filter_may.meant;
          right = right.2;
          fits = filter_may.fits.2;
          flushed = filter_may.flushed.1;
          apart = filter_may.apart;
          absent = λ k d within. refl;
        }))

    module _ (req : FilterAggReqData) (found : slice_get ctx.filter_req_data index ≡ Some req) where
      pub filter-absent : value_of req.name old ≡ None
      filter-absent =
          ap (λ n. value_of n old) (sym (filter_name-at filter_may.meaning ctx index req found))
          ∙ All-contains (λ name. value_of name old ≡ None) (filter_name ctx index ∷ [])
          (filter_name ctx index) filter_may.absent (Contains-here (filter_name ctx index) [])

      pub filter-added : (parent id : Option ℕ) (count : ℕ) (below : IntermediateAggregationResults)
          → ((is_match : ℕ → Bool) (taken given : List (ℕ × ℕ))
          → FilterFor waiting_in is_match collector taken given
          → count ≡ length (filter is_match (docs_taken parent taken)))
          → ((is_match : ℕ → Bool) (taken given : List (ℕ × ℕ))
          → FilterFor waiting_in is_match collector taken given → collector.hands_on ≡ true
          → ((id : ℕ) → waiting_in collector.cache.0 id ≡ [])
          → docs_taken id given ≡ filter is_match (docs_taken parent taken))
          → GroupStands ctx (held_of child.value) id below.results
          → (new : Results) → new ≡ put req.name (as_filter count below.results) old
          → Adds ctx (held_of node) parent old new
      filter-added parent id count below counted passed stands new put_is =
          let named = ap (λ n. n ∷ []) (filter_name-at filter_may.meaning ctx index req found) in
          subst (λ h. Adds ctx h parent old new) (sym filter_is)
          (subst (Adds ctx filter_held parent old) (sym put_is)
          (adds-node req.name (as_filter count below.results) old ctx filter_held parent named
          (λ plans group. group)
          (filter-stands ctx index collector (held_of child.value) filter_may.fits.1 parent id count
          below filter_may.flushed.0 counted passed stands)))

  -- ---- a metric

  module _ (index : ℕ) (collector : Metric) (is : node ≡ tree.Metric index collector) where
    abbrev metric_held : Held
    metric_held = Held.metric index collector

    metric_is : held_of node ≡ metric_held
    metric_is = ap held_of is ∙ held-metric index collector

    abbrev metric_may : MayAdd ctx metric_held old
    metric_may = as_is metric_held metric_is

    pub metric-within : (reqs : List MetricAggReqData) → reqs ≡ ctx.stats_metric_req_data
        → index < length reqs
    metric-within reqs same =
        index-within reqs ctx.stats_metric_req_data index same metric_may.fits.0 metric_may.fits.1

    module _ (req : MetricAggReqData) (found : slice_get ctx.stats_metric_req_data index ≡ Some req)
      where
        pub metric-absent : value_of req.name old ≡ None
        metric-absent =
            ap (λ n. value_of n old) (sym (metric_name-at metric_may.meaning ctx index req found))
            ∙ All-contains (λ name. value_of name old ≡ None) (metric_name ctx index ∷ [])
            (metric_name ctx index) metric_may.absent (Contains-here (metric_name ctx index) [])

        pub metric-added : (parent : Option ℕ) (r : IntermediateMetricResult)
            → ((segment : Stored) (taken : List (ℕ × ℕ)) → MetricFor segment req collector taken
            → r ≡ metric_of req.collecting_for
            (values_of_field req.field (documents_at segment (docs_taken parent taken))))
            → (new : Results) → new ≡ put req.name (result.Metric r) old
            → Adds ctx (held_of node) parent old new
        metric-added parent r told new put_is =
            let named = ap (λ n. n ∷ []) (metric_name-at metric_may.meaning ctx index req found) in
            subst (λ h. Adds ctx h parent old new) (sym metric_is)
            (subst (Adds ctx metric_held parent old) (sym put_is)
            (adds-node req.name (result.Metric r) old ctx metric_held parent named
            (λ plans group. group)
            (metric-stands ctx index collector parent req found r told)))
