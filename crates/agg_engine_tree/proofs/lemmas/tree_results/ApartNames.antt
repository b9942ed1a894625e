-- The names of a request's nodes are apart.
use Rattle.std.proofs.Common.{◌≡◌, ℕ, suc, List, [], ◌∷◌, Less, Equal, sym, ◌∙◌}
use Rattle.std.proofs.Common.{subst}
use Rattle.std.specs.List.{All, AllByRecursion, Contains}
use Rattle.std.specs.List.Sorted.{IsStrictlySortedBy}
use Rattle.std.specs.Map.{keys_of}
use Rattle.std.proofs.lemmas.Cmp.{nat_list_cmp_total, tied_itself}
use Rattle.std.proofs.lemmas.List.Elements.{All-contains, All-from_recursion, recursion_from_All}
use Rattle.std.proofs.lemmas.Map.Keys.{sorted_head, sorted_tail}
use Rattle.agg_values.specs.Names.{name_cmp}
use Rattle.agg_segment.specs.declared.query.QueryTree.{QueryTree}
use Rattle.agg_request_tree.specs.Names.{NamesAscend}
use Rattle.agg_request_tree.specs.Request.{Request, below_of}
use Rattle.agg_request_tree.specs.declared.aggregation.Aggregation.{Aggregation}
use Rattle.agg_engine_tree.specs.segment_context.Context.{ArePlansOf, IsPlanOf, Meaning}
use Rattle.agg_engine_tree.specs.segment_context.Plan.{Plan, Plans}
use Rattle.agg_engine_tree.specs.declared.segment_context.context.PerRequestAggSegCtx.{
  PerRequestAggSegCtx,
}
use Rattle.agg_engine_tree.specs.declared.segment_context.node.AggKind.TheVariants as kind
use Rattle.agg_engine_tree.specs.collector_tree.Tree.{AreOf, Held, Helds, IsGroupOf, IsOf}
use Rattle.agg_engine_tree.specs.tree_results.Names.{HasNamesApart, HaveNamesApart, names_in}
use Rattle.agg_engine_tree.specs.tree_results.Names.{names_of}
use Rattle.agg_engine_tree.proofs.lemmas.tree_results.NamedNodes.{composite-node, filter-node}
use Rattle.agg_engine_tree.proofs.lemmas.tree_results.NamedNodes.{names-asked, names-own}

-- a name is none of those above it
not_above : (name : List ℕ) (names : List (List ℕ)) → IsStrictlySortedBy name_cmp (name ∷ names)
    → ¬ (Contains names name)
not_above name names up has =
    let less = All-contains (λ l. name_cmp name l ≡ Less) names name
    (All-from_recursion (λ l. name_cmp name l ≡ Less) names
    (sorted_head name_cmp name names up)) has in
    let tied = tied_itself nat_list_cmp_total name in
    let e : Less ≡ Equal = sym less ∙ tied in
    cc

-- those below each aggregation ascend
below-ascend : (request : Request QueryTree) → NamesAscend request
    → AllByRecursion (λ (a : List ℕ × Aggregation QueryTree). NamesAscend (below_of a.1)) request
below-ascend request up =
    recursion_from_All (λ (a : List ℕ × Aggregation QueryTree). NamesAscend (below_of a.1)) request
    (λ k d within depth. (up (suc depth)).1 k d within)

module _ (meaning : Meaning) (ctx : PerRequestAggSegCtx) where
  mutual
    apart-node : (h : Held) (name : List ℕ) (a : Aggregation QueryTree) (plan : Plan)
        → IsPlanOf meaning ctx name a plan → IsOf plan h → NamesAscend (below_of a)
        → HasNamesApart ctx h
    apart-node (Held.composite index collector h) name a plan asked is up =
        let node = composite-node meaning ctx name a plan index collector h asked is in
        apart-group h (below_of a) node.plans node.below node.group up
    apart-node (Held.filter index collector h) name a plan asked is up =
        let node = filter-node meaning ctx name a plan index collector h asked is in
        apart-group h (below_of a) node.plans node.below node.group up
    apart-node (Held.metric index collector) name a plan asked is up = tt
    apart-node (Held.group hs) name a (Plan.node kind.Composite i plans) asked is up = absurd is
    apart-node (Held.group hs) name a (Plan.node kind.Filter i plans) asked is up = absurd is
    apart-node (Held.group hs) name a (Plan.node (kind.StatsKind computed) i plans) asked is up =
        absurd is

    -- where the names of a request ascend, those of its nodes are apart
    pub apart-group : (h : Held) (request : Request QueryTree) (plans : Plans)
        → ArePlansOf meaning ctx request plans → IsGroupOf plans h → NamesAscend request
        → HasNamesApart ctx h
    apart-group (Held.group hs) request plans asked group up =
        apart-all hs request plans asked group (up 1).0 (below-ascend request up)
    apart-group (Held.composite index collector h) request plans asked group up = absurd group
    apart-group (Held.filter index collector h) request plans asked group up = absurd group
    apart-group (Held.metric index collector) request plans asked group up = absurd group

    apart-all : (hs : Helds) (request : Request QueryTree) (plans : Plans)
        → ArePlansOf meaning ctx request plans → AreOf plans hs
        → IsStrictlySortedBy name_cmp (keys_of request)
        → AllByRecursion (λ (a : List ℕ × Aggregation QueryTree). NamesAscend (below_of a.1))
        request
        → HaveNamesApart ctx hs
    apart-all Helds.none request plans asked are up below = tt
    apart-all (Helds.more h hs) [] Plans.none asked are up below = absurd are
    apart-all (Helds.more h hs) [] (Plans.more plan plans) asked are up below = absurd asked
    apart-all (Helds.more h hs) (a ∷ request) Plans.none asked are up below = absurd asked
    apart-all (Helds.more h hs) (a ∷ request) (Plans.more plan plans) asked are up below = (
      subst (All (λ name. ¬ (Contains (names_in ctx hs) name)))
          (sym (names-own meaning ctx a.0 a.1 plan h asked.0 are.0))
          (All-from_recursion (λ name. ¬ (Contains (names_in ctx hs) name)) (a.0 ∷ []) (
            λ has. not_above a.0 (keys_of request) up (subst (λ ns. Contains ns a.0)
                (names-asked meaning ctx request plans hs asked.1 are.1) has),
            tt,
          )),
      apart-node h a.0 a.1 plan asked.0 are.0 below.0,
      apart-all hs request plans asked.1 are.1 (sorted_tail name_cmp a.0 (keys_of request) up)
          below.1,
    )

  -- a request's nodes have its names
  pub names-group : (h : Held) (request : Request QueryTree) (plans : Plans)
      → ArePlansOf meaning ctx request plans → IsGroupOf plans h → names_of ctx h ≡ keys_of request
  names-group (Held.group hs) request plans asked group =
      names-asked meaning ctx request plans hs asked group
  names-group (Held.composite index collector h) request plans asked group = absurd group
  names-group (Held.filter index collector h) request plans asked group = absurd group
  names-group (Held.metric index collector) request plans asked group = absurd group
