-- The data of an aggregation and of those below it.
use Rattle.std.proofs.Common.{◌≡◌, ◌+◌, ℕ, List, ◌++◌, Option, None, ap, length, map, refl, sym}
use Rattle.std.proofs.Common.{subst, ◌∙◌}
use Rattle.std.specs.List.{All}
use Rattle.std.proofs.lemmas.List.{map-append}
use Rattle.agg_segment.specs.Segment.{Stored}
use Rattle.agg_segment.specs.declared.query.QueryTree.{QueryTree}
use Rattle.agg_request_tree.specs.Faults.{IsSound}
use Rattle.agg_request_tree.specs.Request.{Request, agg_of, below_of, composites_in, composites_of}
use Rattle.agg_request_tree.specs.Request.{listed_in, own_composite, with_builders}
use Rattle.agg_request_tree.specs.Request.{with_builders_in, with_own_builder}
use Rattle.agg_request_tree.specs.declared.aggregation.Aggregation.{Aggregation}
use Rattle.agg_request_tree.specs.declared.aggregation.AggregationVariants.{AggregationVariants}
use Rattle.agg_request_tree.specs.declared.aggregation.CompositeAggregation.{CompositeAggregation}
use Rattle.agg_request_tree.proofs.RequestTrees.{listed-out}
use Rattle.agg_engine_tree.specs.segment_context.Additions.{AddsData, AddsIn, AddsOwn, AddsRequest}
use Rattle.agg_engine_tree.specs.segment_context.Additions.{IsReadyFor, IsReadyForOwn, IsReadyIn}
use Rattle.agg_engine_tree.specs.segment_context.Additions.{TreesFollow, afters_of, page_of}
use Rattle.agg_engine_tree.specs.segment_context.Additions.{paged_agg, paged_each, paged_in}
use Rattle.agg_engine_tree.specs.segment_context.Context.{ArePlansOf, IsAskedAt, IsPlanOf, Meaning}
use Rattle.agg_engine_tree.specs.segment_context.Plan.{Plan, plan_of, plan_step, plans_of}
use Rattle.agg_engine_tree.specs.segment_context.Trees.{own_tree, trees_of}
use Rattle.agg_engine_tree.specs.declared.segment_context.context.PerRequestAggSegCtx.{
  PerRequestAggSegCtx,
}
use Rattle.agg_engine_tree.specs.declared.segment_context.node.AggKind.{AggKind}
use Rattle.agg_engine_tree.specs.declared.segment_context.node.AggRefNode.{AggRefNode}
use Rattle.agg_engine_tree.specs.declared.segment_context.node.AggRefNode.TheFolds.{
  fold-roll-AggRefNode,
}
use Rattle.agg_engine_tree.specs.declared.segment_context.node.AggRefNode.TheViews.{roll-AggRefNode}
use Rattle.agg_engine_tree.specs.declared.segment_context.params.Page.{Page}
use Rattle.agg_engine_tree.specs.declared.segment_context.segment.origin.Origin.{Origin}
use Rattle.agg_engine_tree.proofs.lemmas.segment_context.Additions.{adds-so, adds-then}
use Rattle.agg_engine_tree.proofs.lemmas.segment_context.Built.{agg-built, below-built}
use Rattle.agg_engine_tree.proofs.lemmas.segment_context.Keeps.{asked-kept}
use Rattle.agg_engine_tree.proofs.lemmas.segment_context.Pages.{agg-paged, below-paged, paged-each}
use Rattle.agg_engine_tree.proofs.lemmas.segment_context.Pages.{composites-paged}
use Rattle.agg_engine_tree.proofs.lemmas.segment_context.Parts.{All-parts, follows-first}
use Rattle.agg_engine_tree.proofs.lemmas.segment_context.Parts.{follows-next}

-- where no page is set, nothing is changed
each-unpaged : {B : Type 0} (page : Option Page) → page ≡ None → (request : Request B)
    → paged_each page request ≡ request
each-unpaged {B = B} page unpaged request =
    ap (λ (p : Option Page). paged_each p request) unpaged ∙ sym (paged-each None request)

-- a node's plan
pub plan-rolled : (k : AggKind) (index : ℕ) (children : List AggRefNode)
    → plan_of (roll-AggRefNode
    (record { kind = k; idx_in_req_data = index; children = children }))
    ≡ Plan.node k index (plans_of (map plan_of children))
plan-rolled k index children =
    fold-roll-AggRefNode Plan plan_step
    (record { kind = k; idx_in_req_data = index; children = children })

module _ {B : Type 0} where
  -- the trees of an aggregation are its own and those below it
  pub trees-out : (made : B → QueryTree) (a : Aggregation B)
      → listed_in own_tree (with_builders_in made a)
      ≡ own_tree (with_own_builder made (agg_of a)) ++ trees_of (with_builders made (below_of a))
  trees-out made a =
      listed-out own_tree (with_builders_in made a)
      ∙ (λ i. own_tree (agg-built made a i) ++ trees_of (below-built made a i))

  -- its own tree follows, and then those below it
  pub own-first : (made : B → QueryTree) (from : Origin) (ctx : PerRequestAggSegCtx)
      (a : Aggregation B) → TreesFollow from ctx (listed_in own_tree (with_builders_in made a))
      → TreesFollow from ctx (own_tree (with_own_builder made (agg_of a)))
  own-first made from ctx a follows =
      follows-first from ctx (own_tree (with_own_builder made (agg_of a)))
      (trees_of (with_builders made (below_of a)))
      (subst (λ ts. TreesFollow from ctx ts) (trees-out made a) follows)

  pub below-next : (made : B → QueryTree) (from below : Origin) (ctx mid : PerRequestAggSegCtx)
      (a : Aggregation B) → TreesFollow from ctx (listed_in own_tree (with_builders_in made a))
      → below.trees.now ≡ from.trees.now
      → length mid.filter_req_data
      ≡ length ctx.filter_req_data + length (own_tree (with_own_builder made (agg_of a)))
      → TreesFollow below mid (trees_of (with_builders made (below_of a)))
  below-next made from below ctx mid a follows same grown =
      follows-next from ctx (own_tree (with_own_builder made (agg_of a)))
      (trees_of (with_builders made (below_of a)))
      (subst (λ ts. TreesFollow from ctx ts) (trees-out made a) follows) below mid same grown

  module _ (from : Origin) (ctx : PerRequestAggSegCtx) (name : List ℕ) (a : Aggregation B)
      (ready : IsReadyIn from ctx name a) where
    sounds : All IsSound (own_composite (paged_agg (page_of from) name (agg_of a)))
        × All IsSound (composites_of (below_of a))
    sounds =
        All-parts IsSound (own_composite (paged_agg (page_of from) name (agg_of a)))
        (composites_of (below_of a))
        (subst (λ cs. All IsSound cs) (composites-paged (page_of from) name a) ready.sound)

    -- what it asks is ready
    pub ready-own : IsReadyForOwn from ctx name (agg_of a)
    ready-own = record {
      made = ready.made;
      trees = own-first ready.made from ctx a ready.trees;
      sound = sounds.0;
    }

    -- after what it asks, what is below it is ready
    pub ready-below : (below : Origin) (place : AggKind × ℕ) (mid : PerRequestAggSegCtx)
        → page_of below ≡ None → below.trees.now ≡ from.trees.now
        → ((made : B → QueryTree)
        → TreesFollow from ctx (own_tree (with_own_builder made (agg_of a)))
        → AddsOwn made from name (agg_of a) place ctx mid)
        → IsReadyFor below mid (below_of a)
    ready-below below place mid unpaged same adds = record {
      made = ready.made;
      trees = below-next ready.made from below ctx mid a ready.trees same
          (adds ready.made (own-first ready.made from ctx a ready.trees)).filters;
      sound = subst (λ (r : Request B). All IsSound (composites_of r))
          (paged-each None (below_of a)
          ∙ ap (λ page. paged_each page (below_of a)) (sym unpaged)) sounds.1;
    }

  -- the data of what an aggregation asks, and then that of those below it
  pub in-added : (made : B → QueryTree) (from below : Origin) (name : List ℕ) (a : Aggregation B)
      (k : AggKind) (index : ℕ) (children : List AggRefNode) (old mid new : PerRequestAggSegCtx)
      → page_of below ≡ None → below.reader.now ≡ from.reader.now
      → AddsOwn made from name (agg_of a) (k, index) old mid
      → AddsRequest made below (below_of a) children mid new
      → AddsIn made from name a
      (roll-AggRefNode (record { kind = k; idx_in_req_data = index; children = children })) old new
  in-added made from below name a k index children old mid new unpaged same own later =
      adds-so from.reader.now
      (own_tree (with_own_builder made (agg_of a)) ++ trees_of (with_builders made (below_of a)))
      (listed_in own_tree (with_builders_in made a))
      (afters_of (own_composite (paged_agg page name (agg_of a)))
      ++ afters_of (composites_of (below_of a)))
      (afters_of (composites_in (paged_in page name a)))
      (λ meaning ctx. IsOwn meaning ctx × AreBelow meaning ctx)
      (λ meaning ctx. IsPlanOf meaning ctx name (paged_in page name (with_builders_in made a))
      (plan_of node)) old new
      (adds-then from.reader.now (own_tree (with_own_builder made (agg_of a)))
      (trees_of (with_builders made (below_of a)))
      (afters_of (own_composite (paged_agg page name (agg_of a))))
      (afters_of (composites_of (below_of a))) IsOwn AreBelow old mid new own those
      (λ meaning kept is. asked-kept meaning mid new kept name
      (paged_agg page name (with_own_builder made (agg_of a))) k index is))
      (sym (trees-out made a))
      (sym (ap (λ cs. afters_of cs) (composites-paged (page_of from) name a)
      ∙ map-append (λ (c : CompositeAggregation). c.after)
      (own_composite (paged_agg page name (agg_of a))) (composites_of (below_of a))))
      planned
    where
      page : Option Page
      page = page_of from

      node : AggRefNode
      node = roll-AggRefNode (record { kind = k; idx_in_req_data = index; children = children })

      IsOwn : Meaning → PerRequestAggSegCtx → Type 0
      IsOwn meaning ctx =
          IsAskedAt meaning ctx name (paged_agg page name (with_own_builder made (agg_of a))) k
          index

      AreBelow : Meaning → PerRequestAggSegCtx → Type 0
      AreBelow meaning ctx =
          ArePlansOf meaning ctx (with_builders made (below_of a))
          (plans_of (map plan_of children))

      those : AddsData from.reader.now (trees_of (with_builders made (below_of a)))
          (afters_of (composites_of (below_of a))) AreBelow mid new
      those =
          subst (λ (s : Stored). AddsData s (trees_of (with_builders made (below_of a)))
          (afters_of (composites_of (below_of a))) AreBelow mid new) same
          (adds-so below.reader.now (trees_of (with_builders made (below_of a)))
          (trees_of (with_builders made (below_of a)))
          (afters_of (composites_of (paged_each (page_of below) (below_of a))))
          (afters_of (composites_of (below_of a)))
          (λ meaning ctx. ArePlansOf meaning ctx
          (paged_each (page_of below) (with_builders made (below_of a)))
          (plans_of (map plan_of children))) AreBelow mid new later refl
          (ap (λ (r : Request B). afters_of (composites_of r))
          (each-unpaged (page_of below) unpaged (below_of a)))
          (λ meaning are. subst (λ (r : Request QueryTree). ArePlansOf meaning new r
          (plans_of (map plan_of children)))
          (each-unpaged (page_of below) unpaged (with_builders made (below_of a))) are))

      planned : (meaning : Meaning) → IsOwn meaning new × AreBelow meaning new
          → IsPlanOf meaning new name (paged_in page name (with_builders_in made a))
          (plan_of node)
      planned meaning is =
          subst (λ plan. IsPlanOf meaning new name (paged_in page name (with_builders_in made a))
          plan) (sym (plan-rolled k index children)) (
            subst (λ (agg : AggregationVariants QueryTree). IsAskedAt meaning new name agg k index)
                (sym (agg-paged page name (with_builders_in made a)
                ∙ ap (λ (agg : AggregationVariants QueryTree). paged_agg page name agg)
                (agg-built made a))) is.0,
            subst (λ (r : Request QueryTree). ArePlansOf meaning new r
                (plans_of (map plan_of children)))
                (sym (below-paged page name (with_builders_in made a) ∙ below-built made a)) is.1,
          )

module _ {B : Type 0} (made : B → QueryTree) (from below : Origin) (name : List ℕ)
    (a : Aggregation B) (k : AggKind) (index : ℕ) (children : List AggRefNode)
    (old mid new : PerRequestAggSegCtx) where
  -- where the data of both was added for its trees, so was that of the aggregation
  pub node-added : page_of below ≡ None → below.reader.now ≡ from.reader.now
      → below.trees.now ≡ from.trees.now
      → ((made : B → QueryTree)
      → TreesFollow from old (own_tree (with_own_builder made (agg_of a)))
      → AddsOwn made from name (agg_of a) (k, index) old mid)
      → ((made : B → QueryTree)
      → TreesFollow below mid (trees_of (with_builders made (below_of a)))
      → AddsRequest made below (below_of a) children mid new)
      → TreesFollow from old (listed_in own_tree (with_builders_in made a))
      → AddsIn made from name a
      (roll-AggRefNode (record { kind = k; idx_in_req_data = index; children = children })) old new
  node-added unpaged same trees own later follows =
      let first = own made (own-first made from old a follows) in
      in-added made from below name a k index children old mid new unpaged same first
      (later made (below-next made from below old mid a follows trees first.filters))
