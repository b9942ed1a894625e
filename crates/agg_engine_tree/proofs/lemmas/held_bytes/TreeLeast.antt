-- Where nothing waits, a tree holds at least what its request counts at least.
use Rattle.std.proofs.Common.{◌≡◌, ◌<◌, ◌≤◌, ℕ, List, [], ◌∷◌, inl, inr, refl, ap}
use Rattle.std.proofs.Common.{filter, arith}
use Rattle.std.specs.List.{Contains}
use Rattle.agg_segment.specs.Query.{matches}
use Rattle.agg_segment.specs.declared.query.QueryTree.{QueryTree}
use Rattle.agg_request_tree.specs.Matching.{matching}
use Rattle.agg_request_tree.specs.Request.{Request, below_of}
use Rattle.agg_request_tree.specs.declared.aggregation.Aggregation.{Aggregation}
use Rattle.agg_request_tree.specs.declared.aggregation.AggregationVariants.TheVariants as asks
use Rattle.agg_request_tree.specs.charges.Roof.{Counts, counts, counts_of}
use Rattle.agg_request_tree.specs.charges.Roof.Height.{Low}
use Rattle.agg_request_tree.proofs.lemmas.charges.LawfulRequests.{Lawful-request}
use Rattle.agg_composite.specs.buckets.Visits.{docs_in}
use Rattle.agg_engine_tree.specs.segment_context.Context.{ArePlansOf, IsMeant, IsPlanOf, Meaning}
use Rattle.agg_engine_tree.specs.segment_context.Plan.{Plan, Plans}
use Rattle.agg_engine_tree.specs.declared.segment_context.context.PerRequestAggSegCtx.{
  PerRequestAggSegCtx,
}
use Rattle.agg_filter.specs.Matching.{is_matching}
use Rattle.agg_engine_tree.specs.collector_tree.Tree.{AllFit, AllFor, AreFlushed, AreOf, Fits, Held}
use Rattle.agg_engine_tree.specs.collector_tree.Tree.{Helds, IsFlushed, IsFor, IsGroupOf, IsOf}
use Rattle.agg_engine_tree.proofs.lemmas.collector_tree.Levels.{no-node}
use Rattle.agg_engine_tree.proofs.lemmas.collector_tree.MatchedDocuments.{given-matched}
use Rattle.agg_engine_tree.proofs.lemmas.collector_tree.MatchedDocuments.{matching-within}
use Rattle.agg_engine_tree.proofs.lemmas.collector_tree.WithinLists.{within-both, within-contains}
use Rattle.agg_engine_tree.proofs.lemmas.tree_results.NamedNodes.{composite-node, filter-node}
use Rattle.agg_engine_tree.proofs.lemmas.tree_results.NamedNodes.{metric-node}
use Rattle.agg_engine_tree.specs.held_bytes.HeldBytes.{bytes_of_all, held_bytes}
use Rattle.agg_engine_tree.specs.held_bytes.Trees.{over_parents}
use Rattle.agg_engine_tree.proofs.lemmas.held_bytes.CompositeNodes.{given-part, node-least, passed}
use Rattle.agg_engine_tree.proofs.lemmas.held_bytes.CountedNodes.{asked-composite, counts-asked}
use Rattle.agg_engine_tree.proofs.lemmas.held_bytes.CountedNodes.{counts-more, asked-metric}
use Rattle.agg_engine_tree.proofs.lemmas.held_bytes.CountedNodes.{no-counts, nothing-asked}
use Rattle.agg_engine_tree.proofs.lemmas.held_bytes.FilterBytes.{above, filter-least}

module _ (meaning : Meaning) (ctx : PerRequestAggSegCtx) (is : IsMeant meaning ctx) where
  -- the documents of pairs are of the segment
  abbrev AreInside : List (ℕ × ℕ) → Type 0
  AreInside taken = (d : ℕ) → Contains (docs_in taken) d → d < meaning.segment.count

  -- nothing is counted over no documents
  no-low : (request : Request QueryTree) → counts_of matches request Low [] ≡ 0
  no-low request =
      let lawful = Lawful-request matches request in
      omega (arith, lawful.lower [], lawful.most [], lawful.weighs [])

  mutual
    -- a node with what is below it
    least-in : (h : Held) (name : List ℕ) (a : Aggregation QueryTree) (plan : Plan)
        → IsPlanOf meaning ctx name a plan → IsOf plan h → Fits ctx h → IsFlushed h
        → (taken : List (ℕ × ℕ)) (visits : ℕ) → IsFor meaning ctx h taken visits
        → AreInside taken → (n : ℕ)
        → over_parents (counts matches a Low) meaning.segment taken n ≤ held_bytes ctx h
    least-in (Held.composite index collector h) name a plan asked of fits flushed taken visits
        (given, own, under, own_for, below_for, sum) inside n =
        let node = composite-node meaning ctx name a plan index collector h asked of in
        let req = node.at.0 in
        let right = (own_for req node.at.1).0 in
        let down = passed meaning ctx is index req node.at.1 collector taken given right h fits.1
        under below_for in
        let below = counts_of matches (below_of a) in
        let lower = least-group h (below_of a) node.plans node.below node.group fits.2 flushed.1
        down.1.given down.1.visits down.1.right
        (λ d c. inside d (given-part meaning ctx is index req node.at.1 collector taken given right
        h down.0 down.1 d c)) collector.node.next in
        let here = node-least meaning ctx is index req node.at.1 collector taken given right h
        down.0 down.1 below (Lawful-request matches (below_of a)) n (down.2 flushed.0) in
        let counted = asked-composite meaning ctx name a index h node in
        omega (
          arith,
          lower,
          here,
          ap (λ (c : Counts). over_parents (c Low) meaning.segment taken n) counted,
        )
    least-in (Held.filter index collector h) name a plan asked of (data_at, inr none, fits) flushed
        taken visits (given, own_for, below_for) inside n =
        let node = filter-node meaning ctx name a plan index collector h asked of in
        let nothing = nothing-asked meaning ctx node.plans (below_of a) node.below h none node.group
        in
        omega (
          arith,
          ap (λ (c : Counts). over_parents (c Low) meaning.segment taken n)
              (counts-asked a (asks.Filter (record { query = node.query })) node.agg_is),
          no-counts meaning.segment taken n
              (λ documents.
              counts_of matches (below_of a) Low (matching matches node.query documents))
              (λ documents.
              ap (λ (request : Request QueryTree).
              counts_of matches request Low (matching matches node.query documents))
              nothing),
        )
    least-in (Held.filter index collector h) name a plan asked of (data_at, inl on, fits) flushed
        taken visits (given, own_for, below_for) inside n =
        let node = filter-node meaning ctx name a plan index collector h asked of in
        let below = counts_of matches (below_of a) in
        let tree = meaning.query_at index in
        let part = within-both (docs_in given)
        (filter (is_matching tree meaning.segment) (docs_in taken)) (docs_in taken)
        (given-matched (is_matching tree meaning.segment) collector taken given on own_for)
        (matching-within (is_matching tree meaning.segment) (docs_in taken)) in
        let lower = least-group h (below_of a) node.plans node.below node.group fits flushed.1
        given visits below_for
        (λ d c. inside d (within-contains (docs_in given) (docs_in taken) part d c))
        (above collector.ids) in
        let here = filter-least tree meaning.segment node.query node.at.3 collector taken given on
        own_for flushed.0 inside (below Low) (no-low (below_of a)) n in
        omega (
          arith,
          lower,
          here,
          ap (λ (c : Counts). over_parents (c Low) meaning.segment taken n)
              (counts-asked a (asks.Filter (record { query = node.query })) node.agg_is),
        )
    least-in (Held.metric index collector) name a plan asked of fits flushed taken visits f
        inside n =
        let node = metric-node meaning ctx name a plan index collector asked of in
        omega (
          arith,
          no-counts meaning.segment taken n (counts matches a Low)
              (λ documents. ap (λ (c : Counts). c Low documents)
              (asked-metric meaning ctx name a node.0 index node.1)),
        )
    least-in (Held.group hs) name a plan asked of fits flushed taken visits f inside n =
        absurd (no-node plan hs of)

    -- a tree of several
    pub least-group : (h : Held) (request : Request QueryTree) (plans : Plans)
        → ArePlansOf meaning ctx request plans → IsGroupOf plans h → Fits ctx h → IsFlushed h
        → (taken : List (ℕ × ℕ)) (visits : ℕ) → IsFor meaning ctx h taken visits
        → AreInside taken → (n : ℕ)
        → over_parents (counts_of matches request Low) meaning.segment taken n
        ≤ held_bytes ctx h
    least-group (Held.group hs) request plans asked of fits flushed taken visits f inside n =
        least-all hs request plans asked of fits flushed taken visits f inside n
    least-group (Held.composite index collector h) request plans asked of fits flushed taken
        visits f inside n = absurd of
    least-group (Held.filter index collector h) request plans asked of fits flushed taken
        visits f inside n = absurd of
    least-group (Held.metric index collector) request plans asked of fits flushed taken visits
        f inside n = absurd of

    least-all : (hs : Helds) (request : Request QueryTree) (plans : Plans)
        → ArePlansOf meaning ctx request plans → AreOf plans hs → AllFit ctx hs → AreFlushed hs
        → (taken : List (ℕ × ℕ)) (visits : ℕ) → AllFor meaning ctx hs taken visits
        → AreInside taken → (n : ℕ)
        → over_parents (counts_of matches request Low) meaning.segment taken n
        ≤ bytes_of_all ctx hs
    least-all Helds.none [] plans asked of fits flushed taken visits f inside n =
        omega (
          arith,
          no-counts meaning.segment taken n (counts_of matches [] Low) (λ documents. refl),
        )
    least-all Helds.none (a ∷ request) Plans.none asked of fits flushed taken visits f inside n
        = absurd asked
    least-all Helds.none (a ∷ request) (Plans.more plan plans) asked of fits flushed taken
        visits f inside n = absurd of
    least-all (Helds.more h hs) request Plans.none asked of fits flushed taken visits f inside
        n = absurd of
    least-all (Helds.more h hs) [] (Plans.more plan plans) asked of fits flushed taken visits f
        inside n = absurd asked
    least-all (Helds.more h hs) (a ∷ request) (Plans.more plan plans) asked of fits flushed
        taken visits (own, others, own_for, others_for, sum) inside n =
        omega (
          arith,
          least-in h a.0 a.1 plan asked.0 of.0 fits.0 flushed.0 taken own own_for inside n,
          least-all hs request plans asked.1 of.1 fits.1 flushed.1 taken others others_for
              inside n,
          counts-more meaning.segment taken n (λ c. c Low) (λ request documents. refl) a
              request,
        )
