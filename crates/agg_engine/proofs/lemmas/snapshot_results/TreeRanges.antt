-- A start that a tree of collectors reads outside 64 bits is one of its request.
use Rattle.std.proofs.Common.{◌≡◌, ◌++◌, ℕ, zero, suc, List, [], ◌∷◌, Some, inl, inr}
use Rattle.std.proofs.Common.{refl, sym, ap, ◌∙◌, subst, arith}
use Rattle.std.specs.Prelude.{slice_get}
use Rattle.std.specs.List.{Any}
use Rattle.agg_segment.specs.Segment.{documents_at}
use Rattle.agg_segment.specs.declared.query.QueryTree.{QueryTree}
use Rattle.agg_request_tree.specs.Ranges.{HasOwnStartOutOfRange}
use Rattle.agg_request_tree.specs.Request.{Request, agg_of, below_of, composites_in, composites_of}
use Rattle.agg_request_tree.specs.Request.{own_composite}
use Rattle.agg_request_tree.specs.declared.aggregation.Aggregation.{Aggregation}
use Rattle.agg_request_tree.specs.declared.aggregation.AggregationVariants.{AggregationVariants}
use Rattle.agg_request_tree.specs.declared.aggregation.CompositeAggregation.{CompositeAggregation}
use Rattle.agg_request_tree.proofs.RequestTrees.{composites-out}
use Rattle.agg_composite.specs.accessor.Ranges.{AreAllInRange}
use Rattle.agg_engine_tree.specs.segment_context.Context.{ArePlansOf, IsPlanOf, Meaning}
use Rattle.agg_engine_tree.specs.segment_context.Plan.{Plan, Plans}
use Rattle.agg_engine_tree.specs.declared.segment_context.context.PerRequestAggSegCtx.{
  PerRequestAggSegCtx,
}
use Rattle.agg_engine_tree.specs.declared.segment_context.node.AggKind.TheVariants as kind
use Rattle.agg_engine_tree.specs.collector_tree.Refusals.{HasStartOutOfRange, SomeHasStart}
use Rattle.agg_engine_tree.specs.collector_tree.Tree.{AreOf, Held, Helds, IsGroupOf, IsOf}
use Rattle.agg_engine_tree.proofs.lemmas.collector_tree.MostVisits.{asked-composite}

module _ {X : Type 0} (P : X → Type 0) where
  -- what some of a list is, some of a longer one is
  pub any-left : (xs ys : List X) → Any P xs → Any P (xs ++ ys)
  any-left [] ys (k, x, within, at, so) = absurd (omega (arith, within))
  any-left (x ∷ xs) ys (zero, y, within, at, so) = (zero, y, omega arith, at, so)
  any-left (x ∷ xs) ys (suc k, y, within, at, so) =
      let rest = any-left xs ys (k, y, omega (arith, within), at, so) in
      (suc rest.0, rest.1, omega (arith, rest.2), rest.3, rest.4)

  pub any-right : (xs ys : List X) → Any P ys → Any P (xs ++ ys)
  any-right [] ys any = any
  any-right (x ∷ xs) ys any =
      let rest = any-right xs ys any in
      (suc rest.0, rest.1, omega (arith, rest.2), rest.3, rest.4)

module _ (meaning : Meaning) (ctx : PerRequestAggSegCtx) (docs : List ℕ) where
  -- some composite reads a start outside 64 bits in the documents
  abbrev IsOut : CompositeAggregation → Type 0
  IsOut c = HasOwnStartOutOfRange c (documents_at meaning.segment docs)

  mutual
    node-out : (plan : Plan) (name : List ℕ) (a : Aggregation QueryTree)
        → IsPlanOf meaning ctx name a plan → (h : Held) → IsOf plan h
        → HasStartOutOfRange meaning ctx h docs → Any IsOut (composites_in a)
    node-out (Plan.node kind.Composite i below) name a of (Held.composite j collector h) is
        (inl (req, at, out)) =
        let x = asked-composite meaning ctx name (agg_of a) i of.0 in
        let same_index : i ≡ j = is.0 in
        let own : slice_get ctx.composite_req_data j ≡ Some x.2.0 =
        ap (slice_get ctx.composite_req_data) (sym same_index) ∙ x.2.1 in
        let same : req ≡ x.2.0 = cc (at, own) in
        let sources : req.req.now.sources ≡ x.0.sources =
        ap (λ r. r.req.now.sources) same ∙ x.2.3 in
        subst (Any IsOut) (sym (composites-out a))
        (any-left IsOut (own_composite (agg_of a)) (composites_of (below_of a))
        (subst (λ (q : AggregationVariants QueryTree). Any IsOut (own_composite q)) (sym x.1) (
          zero,
          x.0,
          omega arith,
          refl,
          subst (λ ss. ¬ (AreAllInRange meaning.segment ss docs)) sources out,
        )))
    node-out (Plan.node kind.Composite i below) name a of (Held.composite j collector h) is
        (inr out) =
        subst (Any IsOut) (sym (composites-out a))
        (any-right IsOut (own_composite (agg_of a)) (composites_of (below_of a))
        (group-out below (below_of a) of.1 h is.1 out))
    node-out (Plan.node kind.Filter i below) name a of (Held.filter j collector h) is out =
        subst (Any IsOut) (sym (composites-out a))
        (any-right IsOut (own_composite (agg_of a)) (composites_of (below_of a))
        (group-out below (below_of a) of.1 h is.1 out))
    node-out (Plan.node (kind.StatsKind computed) i below) name a of (Held.metric j collector) is
        out = absurd out
    node-out (Plan.node kind.Composite i below) name a of (Held.filter j collector h) is out =
        absurd is
    node-out (Plan.node kind.Composite i below) name a of (Held.metric j collector) is out =
        absurd is
    node-out (Plan.node kind.Composite i below) name a of (Held.group hs) is out = absurd is
    node-out (Plan.node kind.Filter i below) name a of (Held.composite j collector h) is out =
        absurd is
    node-out (Plan.node kind.Filter i below) name a of (Held.metric j collector) is out = absurd is
    node-out (Plan.node kind.Filter i below) name a of (Held.group hs) is out = absurd is
    node-out (Plan.node (kind.StatsKind computed) i below) name a of (Held.composite j collector h)
        is out = absurd is
    node-out (Plan.node (kind.StatsKind computed) i below) name a of (Held.filter j collector h)
        is out = absurd is
    node-out (Plan.node (kind.StatsKind computed) i below) name a of (Held.group hs) is out =
        absurd is

    pub group-out : (plans : Plans) (request : Request QueryTree)
        → ArePlansOf meaning ctx request plans → (h : Held) → IsGroupOf plans h
        → HasStartOutOfRange meaning ctx h docs → Any IsOut (composites_of request)
    group-out plans request of (Held.group hs) is out = all-out plans request of hs is out
    group-out plans request of (Held.composite j collector h) is out = absurd is
    group-out plans request of (Held.filter j collector h) is out = absurd is
    group-out plans request of (Held.metric j collector) is out = absurd is

    all-out : (plans : Plans) (request : Request QueryTree)
        → ArePlansOf meaning ctx request plans → (hs : Helds) → AreOf plans hs
        → SomeHasStart meaning ctx hs docs → Any IsOut (composites_of request)
    all-out Plans.none [] of Helds.none is out = absurd out
    all-out Plans.none [] of (Helds.more h hs) is out = absurd is
    all-out Plans.none (a ∷ request) of hs is out = absurd of
    all-out (Plans.more plan plans) [] of hs is out = absurd of
    all-out (Plans.more plan plans) (a ∷ request) of Helds.none is out = absurd is
    all-out (Plans.more plan plans) (a ∷ request) of (Helds.more h hs) is (inl out) =
        any-left IsOut (composites_in a.1) (composites_of request)
        (node-out plan a.0 a.1 of.0 h is.0 out)
    all-out (Plans.more plan plans) (a ∷ request) of (Helds.more h hs) is (inr out) =
        any-right IsOut (composites_in a.1) (composites_of request)
        (all-out plans request of.1 hs is.1 out)
