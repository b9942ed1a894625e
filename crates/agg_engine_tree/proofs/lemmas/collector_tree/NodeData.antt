-- The data of a node of a tree.
use Rattle.std.proofs.Common.{◌≡◌, ◌≤◌, ℕ, List, Some, get_or, length, refl, sym, ap, ◌∙◌}
use Rattle.std.proofs.Common.{subst}
use Rattle.std.specs.Prelude.{slice_get}
use Rattle.std.specs.declared.boxed.Box.{Box}
use Rattle.std.specs.declared.alloc.Global.{Global}
use Rattle.std.proofs.lemmas.Option.{slice_get_read, slice_get_within}
use Rattle.agg_composite.specs.declared.accessor.request_data.CompositeAggReqData.{
  CompositeAggReqData,
}
use Rattle.agg_composite.specs.Composite as c
use Rattle.agg_filter.specs.Filter as f
use Rattle.agg_filter.specs.declared.request_data.FilterAggReqData.{FilterAggReqData}
use Rattle.agg_engine_tree.specs.declared.segment_context.context.PerRequestAggSegCtx.{
  PerRequestAggSegCtx,
}
use Rattle.agg_engine_tree.specs.declared.collector_tree.tree.SegmentCollectorTree as declared
use declared.{SegmentCollectorTree as Tree}
use declared.{Composite, Filter}
use Rattle.agg_engine_tree.specs.collector_tree.Step.{index_in}
use Rattle.agg_engine_tree.specs.collector_tree.Caches.{Cache}
use Rattle.agg_engine_tree.specs.collector_tree.Tree.{Fits, held_of}
use Rattle.agg_engine_tree.proofs.lemmas.collector_tree.Levels.{held-composite, held-filter}

-- what is read at an index is what is there
pub read-at : {X : Type 0} (list read : List X) (i : ℕ) (x r : X) → read ≡ list
    → slice_get list i ≡ Some x → r ≡ get_or read i r → slice_get list i ≡ Some r
read-at list read i x r same at is =
    slice_get_read list (length list) i r refl (slice_get_within list i x at)
    (is ∙ ap (λ xs. get_or xs i r) same)

module _ (ctx : PerRequestAggSegCtx) (node : Tree) (index field : ℕ)
    (is_index : index ≡ index_in (held_of node)) (fits : Fits ctx (held_of node)) where
  composite-index : (collector : c.Composite Cache) (child : Box Tree Global)
      → node ≡ Composite field collector child → index ≡ field
  composite-index collector child e =
      is_index ∙ ap index_in (ap held_of e ∙ held-composite field collector child)

  -- the data of a composite's node
  pub composite-data : (collector : c.Composite Cache) (child : Box Tree Global)
      → node ≡ Composite field collector child
      → (req : CompositeAggReqData) × (slice_get ctx.composite_req_data index ≡ Some req)
      × (length req.req.now.sources ≤ collector.room)
  composite-data collector child e =
      let all = subst (Fits ctx) (ap held_of e ∙ held-composite field collector child) fits in (
        all.0.0,
        ap (slice_get ctx.composite_req_data) (composite-index collector child e) ∙ all.0.1,
        all.0.2,
      )

  filter-index : (collector : f.Filter Cache) (child : Box Tree Global)
      → node ≡ Filter field collector child → index ≡ field
  filter-index collector child e =
      is_index ∙ ap index_in (ap held_of e ∙ held-filter field collector child)

  -- the data of a filter's node
  pub filter-data : (collector : f.Filter Cache) (child : Box Tree Global)
      → node ≡ Filter field collector child
      → (req : FilterAggReqData) × (slice_get ctx.filter_req_data index ≡ Some req)
  filter-data collector child e =
      let all = subst (Fits ctx) (ap held_of e ∙ held-filter field collector child) fits in (
        all.0.0,
        ap (slice_get ctx.filter_req_data) (filter-index collector child e) ∙ all.0.1,
      )

  -- what is read at the index is the data of the node
  pub composite-read : (collector : c.Composite Cache) (child : Box Tree Global)
      → node ≡ Composite field collector child → (read : List CompositeAggReqData)
      → read ≡ ctx.composite_req_data → (r : CompositeAggReqData) → r ≡ get_or read index r
      → (slice_get ctx.composite_req_data field ≡ Some r)
      × (length r.req.now.sources ≤ collector.room)
  composite-read collector child e read same r is =
      let d = composite-data collector child e in
      let at = read-at ctx.composite_req_data read index d.0 r same d.1 is in
      let one : d.0 ≡ r = cc (d.1, at) in (
        ap (slice_get ctx.composite_req_data) (sym (composite-index collector child e)) ∙ at,
        subst (λ (q : CompositeAggReqData). length q.req.now.sources ≤ collector.room) one d.2,
      )

  pub filter-read : (collector : f.Filter Cache) (child : Box Tree Global)
      → node ≡ Filter field collector child → (read : List FilterAggReqData)
      → read ≡ ctx.filter_req_data → (r : FilterAggReqData) → r ≡ get_or read index r
      → slice_get ctx.filter_req_data field ≡ Some r
  filter-read collector child e read same r is =
      let d = filter-data collector child e in
      ap (slice_get ctx.filter_req_data) (sym (filter-index collector child e))
      ∙ read-at ctx.filter_req_data read index d.0 r same d.1 is
