-- What a tree holds, one level at a time.
use Rattle.std.proofs.Common.{◌≡◌, ◌<◌, ◌≤◌, ◌+◌, ◌*◌, ℕ, List, Some, get_or, length, ap, ◌∙◌}
use Rattle.std.proofs.Common.{subst, sym}
use Rattle.std.specs.Prelude.{slice_get}
use Rattle.std.specs.Option.{option_map_or}
use Rattle.std.specs.declared.alloc.Global.{Global}
use Rattle.std.specs.declared.boxed.Box.{Box}
use Rattle.std.specs.declared.vec.Vec.{Vec}
use Rattle.std.proofs.lemmas.Option.{slice_get_within}
use Rattle.agg_request_tree.specs.Faults.{max_sources}
use Rattle.agg_request_tree.specs.charges.Charges.{bucket_bytes}
use Rattle.agg_composite.specs.declared.accessor.request_data.CompositeAggReqData.{
  CompositeAggReqData,
}
use Rattle.agg_composite.specs.Composite.{Composite, num_buckets}
use Rattle.agg_engine_tree.specs.segment_context.Context.{IsMeant, Meaning}
use Rattle.agg_engine_tree.specs.declared.segment_context.context.PerRequestAggSegCtx.{
  PerRequestAggSegCtx,
}
use Rattle.agg_engine_tree.specs.collector_tree.Caches.{Cache}
use Rattle.agg_engine_tree.specs.collector_tree.Tree.{Fits, Held, group_of, held_of}
use Rattle.agg_engine_tree.specs.declared.collector_tree.tree.SegmentCollectorTree as declared
use declared.{SegmentCollectorTree}
use Rattle.agg_engine_tree.proofs.lemmas.collector_tree.Levels.{fits-each, held-composite}
use Rattle.agg_engine_tree.proofs.lemmas.collector_tree.Levels.{held-group}
use Rattle.agg_engine_tree.proofs.lemmas.collector_tree.NodeData.{read-at}
use Rattle.agg_engine_tree.specs.held_bytes.HeldBytes.{held_bytes}

module _ (ctx : PerRequestAggSegCtx) (tree : SegmentCollectorTree)
    (fits : Fits ctx (held_of tree)) where
  -- ---- a composite

  module _ (index : ℕ) (collector : Composite Cache) (child : Box SegmentCollectorTree Global)
      (is : tree ≡ declared.Composite index collector child) where
    composite_is : held_of tree ≡ Held.composite index collector (held_of child.value)
    composite_is = ap held_of is ∙ held-composite index collector child

    composite_fits : Fits ctx (Held.composite index collector (held_of child.value))
    composite_fits = subst (Fits ctx) composite_is fits

    module _ (read : List CompositeAggReqData) (same : read ≡ ctx.composite_req_data) where
      -- its data is found at its index
      pub index-within : index < length read
      index-within =
          slice_get_within read index composite_fits.0.0
          (ap (λ reqs. slice_get reqs index) same ∙ composite_fits.0.1)

      module _ (req : CompositeAggReqData) (at : req ≡ get_or read index req) where
        found : slice_get ctx.composite_req_data index ≡ Some req
        found =
            read-at ctx.composite_req_data read index composite_fits.0.0 req same
            composite_fits.0.1 at

        pub few-sources : (meaning : Meaning) → IsMeant meaning ctx
            → length req.req.now.sources ≤ max_sources
        few-sources meaning is = (is.composites index req found).sources.1

        -- what it holds with what is below it
        pub composite-bytes : (below : SegmentCollectorTree) → below ≡ child.value
            → held_bytes ctx (held_of tree)
            ≡ bucket_bytes req.req.now * num_buckets collector + held_bytes ctx (held_of below)
        composite-bytes below same =
            ap (held_bytes ctx) composite_is
            ∙ ap (λ o. option_map_or (λ (r : CompositeAggReqData). bucket_bytes r.req.now) o 0
            * num_buckets collector + held_bytes ctx (held_of child.value)) found
            ∙ ap (λ t. bucket_bytes req.req.now * num_buckets collector
            + held_bytes ctx (held_of t)) (sym same)

  -- ---- several

  module _ (children : Vec SegmentCollectorTree Global) (is : tree ≡ declared.Group children)
      (trees : List SegmentCollectorTree) (same : trees ≡ children.items) where
    group_is : held_of tree ≡ group_of trees
    group_is = ap held_of is ∙ held-group children ∙ ap group_of (sym same)

    pub group-each : (i : ℕ) (one : SegmentCollectorTree) → i < length trees
        → one ≡ get_or trees i one → Fits ctx (held_of one)
    group-each i one within at =
        subst (λ t. Fits ctx (held_of t)) (sym at)
        (fits-each ctx trees (subst (Fits ctx) group_is fits) i one within)

    pub group-bytes : held_bytes ctx (held_of tree) ≡ held_bytes ctx (group_of trees)
    group-bytes = ap (held_bytes ctx) group_is
