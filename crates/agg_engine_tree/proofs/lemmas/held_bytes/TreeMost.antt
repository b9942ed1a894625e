-- Whatever waits, a tree holds at most what its request counts.
use Rattle.std.proofs.Common.{◌<◌, ◌≤◌, ℕ, List, [], ◌∷◌, inl, inr, refl, ap, arith}
use Rattle.std.specs.List.{AllByRecursion}
use Rattle.agg_segment.specs.Query.{matches}
use Rattle.agg_segment.specs.declared.query.QueryTree.{QueryTree}
use Rattle.agg_request_tree.specs.Request.{Request, below_of}
use Rattle.agg_request_tree.specs.declared.aggregation.Aggregation.{Aggregation}
use Rattle.agg_request_tree.specs.declared.aggregation.AggregationVariants.TheVariants as asks
use Rattle.agg_request_tree.specs.charges.Roof.{Counts, counts, counts_of}
use Rattle.agg_request_tree.specs.charges.Roof.Height.{High}
use Rattle.agg_request_tree.proofs.lemmas.charges.LawfulRequests.{Lawful-request}
use Rattle.agg_engine_tree.specs.segment_context.Context.{ArePlansOf, IsMeant, IsPlanOf, Meaning}
use Rattle.agg_engine_tree.specs.segment_context.Plan.{Plan, Plans}
use Rattle.agg_engine_tree.specs.declared.segment_context.context.PerRequestAggSegCtx.{
  PerRequestAggSegCtx,
}
use Rattle.agg_engine_tree.specs.collector_tree.Tree.{AllFit, AllFor, AreOf, Fits, Held, Helds}
use Rattle.agg_engine_tree.specs.collector_tree.Tree.{IsFor, IsGroupOf, IsOf}
use Rattle.agg_engine_tree.proofs.lemmas.collector_tree.Levels.{no-node}
use Rattle.agg_engine_tree.proofs.lemmas.collector_tree.LowerDocuments.{top}
use Rattle.agg_engine_tree.proofs.lemmas.tree_results.NamedNodes.{composite-node, filter-node}
use Rattle.agg_engine_tree.specs.held_bytes.HeldBytes.{bytes_of_all, held_bytes}
use Rattle.agg_engine_tree.specs.held_bytes.Trees.{over_parents}
use Rattle.agg_engine_tree.proofs.lemmas.held_bytes.CompositeNodes.{given-low, node-most, passed}
use Rattle.agg_engine_tree.proofs.lemmas.held_bytes.CountedNodes.{asked-composite, counts-asked}
use Rattle.agg_engine_tree.proofs.lemmas.held_bytes.CountedNodes.{counts-more}
use Rattle.agg_engine_tree.proofs.lemmas.held_bytes.DocumentLists.{none-past}
use Rattle.agg_engine_tree.proofs.lemmas.held_bytes.FilterBytes.{filter-most}

-- the parents of pairs are below the number above them all
below-top : (m : ℕ) (pairs : List (ℕ × ℕ)) → top pairs ≤ m → AllByRecursion (λ e. e.0 < m) pairs
below-top m [] l = tt
below-top m (e ∷ pairs) l = (omega arith, below-top m pairs (omega arith))

module _ (meaning : Meaning) (ctx : PerRequestAggSegCtx) (is : IsMeant meaning ctx) where
  mutual
    -- a node with what is below it
    most-in : (h : Held) (name : List ℕ) (a : Aggregation QueryTree) (plan : Plan)
        → IsPlanOf meaning ctx name a plan → IsOf plan h → Fits ctx h
        → (taken : List (ℕ × ℕ)) (visits : ℕ) → IsFor meaning ctx h taken visits
        → (n : ℕ) → AllByRecursion (λ e. e.0 < n) taken
        → held_bytes ctx h ≤ over_parents (counts matches a High) meaning.segment taken n
    most-in (Held.composite index collector h) name a plan asked of fits taken visits
        (given, own, under, own_for, below_for, sum) n low =
        let node = composite-node meaning ctx name a plan index collector h asked of in
        let req = node.at.0 in
        let right = (own_for req node.at.1).0 in
        let down = passed meaning ctx is index req node.at.1 collector taken given right h fits.1
        under below_for in
        let below = counts_of matches (below_of a) in
        let lower = most-group h (below_of a) node.plans node.below node.group fits.2 down.1.given
        down.1.visits down.1.right collector.node.next
        (given-low meaning ctx is index req node.at.1 collector taken given right h down.0 down.1)
        in
        let here = node-most meaning ctx is index req node.at.1 collector taken given right h
        down.0 down.1 below (Lawful-request matches (below_of a)) n low in
        let counted = asked-composite meaning ctx name a index h node in
        omega (
          arith,
          lower,
          here,
          ap (λ (c : Counts). over_parents (c High) meaning.segment taken n) counted,
        )
    most-in (Held.filter index collector h) name a plan asked of (data_at, inr none, fits) taken
        visits (given, own_for, below_for) n low =
        omega (arith, ap (held_bytes ctx) none)
    most-in (Held.filter index collector h) name a plan asked of (data_at, inl on, fits) taken
        visits (given, own_for, below_for) n low =
        let node = filter-node meaning ctx name a plan index collector h asked of in
        let below = counts_of matches (below_of a) in
        let lower = most-group h (below_of a) node.plans node.below node.group fits given visits
        below_for (top given) (below-top (top given) given (omega arith)) in
        let here = filter-most (meaning.query_at index) meaning.segment node.query node.at.3
        collector taken given on own_for below (Lawful-request matches (below_of a)) (top given) n
        (none-past n taken low) in
        omega (
          arith,
          lower,
          here,
          ap (λ (c : Counts). over_parents (c High) meaning.segment taken n)
              (counts-asked a (asks.Filter (record { query = node.query })) node.agg_is),
        )
    most-in (Held.metric index collector) name a plan asked of fits taken visits f n low =
        omega arith
    most-in (Held.group hs) name a plan asked of fits taken visits f n low =
        absurd (no-node plan hs of)

    -- a tree of several
    pub most-group : (h : Held) (request : Request QueryTree) (plans : Plans)
        → ArePlansOf meaning ctx request plans → IsGroupOf plans h → Fits ctx h
        → (taken : List (ℕ × ℕ)) (visits : ℕ) → IsFor meaning ctx h taken visits
        → (n : ℕ) → AllByRecursion (λ e. e.0 < n) taken
        → held_bytes ctx h
        ≤ over_parents (counts_of matches request High) meaning.segment taken n
    most-group (Held.group hs) request plans asked of fits taken visits f n low =
        most-all hs request plans asked of fits taken visits f n low
    most-group (Held.composite index collector h) request plans asked of fits taken visits f n low =
        absurd of
    most-group (Held.filter index collector h) request plans asked of fits taken visits f n low =
        absurd of
    most-group (Held.metric index collector) request plans asked of fits taken visits f n low =
        absurd of

    most-all : (hs : Helds) (request : Request QueryTree) (plans : Plans)
        → ArePlansOf meaning ctx request plans → AreOf plans hs → AllFit ctx hs
        → (taken : List (ℕ × ℕ)) (visits : ℕ) → AllFor meaning ctx hs taken visits
        → (n : ℕ) → AllByRecursion (λ e. e.0 < n) taken
        → bytes_of_all ctx hs
        ≤ over_parents (counts_of matches request High) meaning.segment taken n
    most-all Helds.none request plans asked of fits taken visits f n low = omega arith
    most-all (Helds.more h hs) request Plans.none asked of fits taken visits f n low = absurd of
    most-all (Helds.more h hs) [] (Plans.more plan plans) asked of fits taken visits f n low =
        absurd asked
    most-all (Helds.more h hs) (a ∷ request) (Plans.more plan plans) asked of fits taken visits
        (own, others, own_for, others_for, sum) n low =
        omega (
          arith,
          most-in h a.0 a.1 plan asked.0 of.0 fits.0 taken own own_for n low,
          most-all hs request plans asked.1 of.1 fits.1 taken others others_for n low,
          counts-more meaning.segment taken n (λ c. c High) (λ request documents. refl) a request,
        )
