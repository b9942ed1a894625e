-- The names of the aggregations at the top of a tree of collectors.
use Rattle.std.specs.Prelude.{ℕ, List, [], ◌∷◌, ◌++◌, All, Contains, ⊤, slice_get}
use Rattle.std.specs.Option.{option_map_or}
use Rattle.agg_composite.specs.declared.accessor.request_data.CompositeAggReqData.{
  CompositeAggReqData,
}
use Rattle.agg_filter.specs.declared.request_data.FilterAggReqData.{FilterAggReqData}
use Rattle.agg_metric.specs.declared.request_data.MetricAggReqData.{MetricAggReqData}
use Rattle.agg_engine_tree.specs.declared.segment_context.context.PerRequestAggSegCtx.{
  PerRequestAggSegCtx,
}
use Rattle.agg_engine_tree.specs.collector_tree.Tree.{Held, Helds}

module _ (ctx : PerRequestAggSegCtx) where
  -- the name in the data of a composite, a filter and a metric
  abbrev pub composite_name : ℕ → List ℕ
  composite_name index =
      option_map_or (λ (req : CompositeAggReqData). req.name)
      (slice_get ctx.composite_req_data index) []

  abbrev pub filter_name : ℕ → List ℕ
  filter_name index =
      option_map_or (λ (req : FilterAggReqData). req.name) (slice_get ctx.filter_req_data index) []

  abbrev pub metric_name : ℕ → List ℕ
  metric_name index =
      option_map_or (λ (req : MetricAggReqData). req.name)
      (slice_get ctx.stats_metric_req_data index) []

  -- the names of a tree: that of its node, or those of several side by side
  abbrev mutual
    pub names_of : Held → List (List ℕ)
    names_of (Held.composite index collector h) = composite_name index ∷ []
    names_of (Held.filter index collector h) = filter_name index ∷ []
    names_of (Held.metric index collector) = metric_name index ∷ []
    names_of (Held.group hs) = names_in hs

    pub names_in : Helds → List (List ℕ)
    names_in Helds.none = []
    names_in (Helds.more h hs) = names_of h ++ names_in hs

  -- no two aggregations side by side have one name, at any depth
  abbrev mutual
    pub HasNamesApart : Held → Type 0
    HasNamesApart (Held.composite index collector h) = HasNamesApart h
    HasNamesApart (Held.filter index collector h) = HasNamesApart h
    HasNamesApart (Held.metric index collector) = ⊤
    HasNamesApart (Held.group hs) = HaveNamesApart hs

    pub HaveNamesApart : Helds → Type 0
    HaveNamesApart Helds.none = ⊤
    HaveNamesApart (Helds.more h hs) =
        All (λ name. ¬ (Contains (names_in hs) name)) (names_of h)
        × HasNamesApart h × HaveNamesApart hs
