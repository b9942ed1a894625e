-- The composites of a tree visit no more than those of its request count.
use Rattle.std.proofs.Common.{◌≡◌, ◌≤◌, ◌+◌, ℕ, List, [], ◌∷◌, Some, inl, inr}
use Rattle.std.proofs.Common.{length, map, refl, sym, ap, ◌∙◌, subst, arith}
use Rattle.std.specs.Prelude.{slice_get}
use Rattle.std.specs.List.{sum_by}
use Rattle.std.proofs.lemmas.List.{length-map}
use Rattle.std.proofs.lemmas.List.Sums.{sum_by-cons}
use Rattle.agg_segment.specs.storage.Document.{Fields}
use Rattle.agg_segment.specs.Query.{matches}
use Rattle.agg_segment.specs.Segment.{document_at, documents_at}
use Rattle.agg_segment.specs.declared.query.QueryTree.{QueryTree}
use Rattle.agg_request_tree.specs.Request.{Request, agg_of, below_of}
use Rattle.agg_request_tree.specs.Occurrences.{occurrences}
use Rattle.agg_request_tree.specs.Uncut.{counted, once_each, uncut}
use Rattle.agg_request_tree.specs.declared.aggregation.Aggregation.{Aggregation}
use Rattle.agg_request_tree.specs.declared.aggregation.Aggregation.TheFolds.{fold_out-Aggregation}
use Rattle.agg_request_tree.specs.declared.aggregation.AggregationVariants.{AggregationVariants}
use Rattle.agg_request_tree.specs.declared.aggregation.AggregationVariants.TheVariants as asks
use Rattle.agg_request_tree.specs.declared.aggregation.CompositeAggregation.{CompositeAggregation}
use Rattle.agg_request_tree.specs.declared.aggregation.filter.FilterAggregation.{FilterAggregation}
use Rattle.agg_composite.specs.declared.accessor.request_data.CompositeAggReqData.{
  CompositeAggReqData,
}
use Rattle.agg_composite.specs.buckets.Visits.{docs_in}
use Rattle.agg_engine_tree.specs.segment_context.Context.{ArePlansOf, IsAskedAt, IsCompositeAt}
use Rattle.agg_engine_tree.specs.segment_context.Context.{IsFilterAt, IsPlanOf, Meaning, tree_in}
use Rattle.agg_engine_tree.specs.segment_context.Plan.{Plan, Plans}
use Rattle.agg_engine_tree.specs.declared.segment_context.context.PerRequestAggSegCtx.{
  PerRequestAggSegCtx,
}
use Rattle.agg_engine_tree.specs.declared.segment_context.node.AggKind.TheVariants as kind
use Rattle.agg_engine_tree.specs.collector_tree.Counting.{counted_in, counted_of, counted_step}
use Rattle.agg_engine_tree.specs.collector_tree.Counting.{own_counted}
use Rattle.agg_engine_tree.specs.collector_tree.Tree.{AllFit, AllFor, AreOf, Fits, Held, Helds}
use Rattle.agg_engine_tree.specs.collector_tree.Tree.{IsFor, IsGroupOf, IsOf, nothing, visits_of}
use Rattle.agg_engine_tree.proofs.lemmas.collector_tree.HandedDocuments.{composite-lighter}
use Rattle.agg_engine_tree.proofs.lemmas.collector_tree.HandedDocuments.{filter-lighter}
use Rattle.agg_engine_tree.proofs.lemmas.collector_tree.UncutParts.{Lighter, lighter-length}
use Rattle.agg_engine_tree.proofs.lemmas.collector_tree.UncutParts.{lighter-uncut, visits-counted}

-- ---- one level open

sum-mapped : {X Y : Type 0} (f : Y → ℕ) (g : X → Y) (xs : List X)
    → sum_by f (map g xs) ≡ sum_by (λ x. f (g x)) xs
sum-mapped f g [] = refl
sum-mapped f g (x ∷ xs) =
    sum_by-cons f (g x) (map g xs)
    ∙ ap (λ n. f (g x) + n) (sum-mapped f g xs)
    ∙ sym (sum_by-cons (λ y. f (g y)) x xs)

pub counted_in-out : (a : Aggregation QueryTree) (documents : List Fields)
    → counted_in matches a documents
    ≡ own_counted (agg_of a) documents
    + counted_of matches (below_of a) (uncut matches (agg_of a) documents)
counted_in-out a documents =
    ap (λ counts. counts documents)
    (fold_out-Aggregation QueryTree (List Fields → ℕ) (counted_step matches) a)
    ∙ ap (λ n. own_counted (agg_of a) documents + n)
    (sum-mapped
    (λ (e : List ℕ × (List Fields → ℕ)). e.1 (uncut matches (agg_of a) documents))
    (λ (e : List ℕ × Aggregation QueryTree). (e.0, counted_in matches e.1)) (below_of a))

pub counted_of-more : (name : List ℕ) (a : Aggregation QueryTree) (request : Request QueryTree)
    (documents : List Fields)
    → counted_of matches ((name, a) ∷ request) documents
    ≡ counted_in matches a documents + counted_of matches request documents
counted_of-more name a request documents =
    sum_by-cons (λ (e : List ℕ × Aggregation QueryTree). counted_in matches e.1 documents)
    (name, a) request

own-less : (asked : AggregationVariants QueryTree) (xs ys : List Fields) → Lighter xs ys
    → own_counted asked xs ≤ own_counted asked ys
own-less (asks.Composite c) xs ys l =
    lighter-length (counted c xs) (counted c ys) (lighter-uncut matches (asks.Composite c) xs ys l)
own-less (asks.Filter f) xs ys l = omega arith
own-less (asks.Count m) xs ys l = omega arith
own-less (asks.Max m) xs ys l = omega arith
own-less (asks.Min m) xs ys l = omega arith
own-less (asks.Sum m) xs ys l = omega arith

module _ (meaning : Meaning) (ctx : PerRequestAggSegCtx) where
  -- ---- of fewer documents fewer are counted

  mutual
    pub in-less : (plan : Plan) (name : List ℕ) (a : Aggregation QueryTree)
        → IsPlanOf meaning ctx name a plan → (xs ys : List Fields) → Lighter xs ys
        → counted_in matches a xs ≤ counted_in matches a ys
    in-less (Plan.node k index below) name a of xs ys l =
        omega (
          arith,
          counted_in-out a xs,
          counted_in-out a ys,
          own-less (agg_of a) xs ys l,
          of-less below (below_of a) of.1 (uncut matches (agg_of a) xs)
              (uncut matches (agg_of a) ys) (lighter-uncut matches (agg_of a) xs ys l),
        )

    pub of-less : (plans : Plans) (request : Request QueryTree)
        → ArePlansOf meaning ctx request plans → (xs ys : List Fields) → Lighter xs ys
        → counted_of matches request xs ≤ counted_of matches request ys
    of-less Plans.none [] of xs ys l = omega arith
    of-less Plans.none (a ∷ request) of xs ys l = absurd of
    of-less (Plans.more plan plans) [] of xs ys l = absurd of
    of-less (Plans.more plan plans) (a ∷ request) of xs ys l =
        omega (
          arith,
          counted_of-more a.0 a.1 request xs,
          counted_of-more a.0 a.1 request ys,
          in-less plan a.0 a.1 of.0 xs ys l,
          of-less plans request of.1 xs ys l,
        )

  -- ---- what is asked

  pub asked-composite : (name : List ℕ) (asked : AggregationVariants QueryTree) (index : ℕ)
      → IsAskedAt meaning ctx name asked kind.Composite index
      → (c : CompositeAggregation) × (asked ≡ asks.Composite c) × IsCompositeAt meaning ctx name c
      index
  asked-composite name (asks.Composite c) index x = (c, refl, x)
  asked-composite name (asks.Filter a) index x = absurd x
  asked-composite name (asks.Count a) index x = absurd x
  asked-composite name (asks.Max a) index x = absurd x
  asked-composite name (asks.Min a) index x = absurd x
  asked-composite name (asks.Sum a) index x = absurd x

  pub asked-filter : (name : List ℕ) (asked : AggregationVariants QueryTree) (index : ℕ)
      → IsAskedAt meaning ctx name asked kind.Filter index
      → (a : FilterAggregation QueryTree) × (asked ≡ asks.Filter a)
      × IsFilterAt meaning ctx name a.query index
  asked-filter name (asks.Composite c) index x = absurd x
  asked-filter name (asks.Filter a) index x = (a, refl, x)
  asked-filter name (asks.Count a) index x = absurd x
  asked-filter name (asks.Max a) index x = absurd x
  asked-filter name (asks.Min a) index x = absurd x
  asked-filter name (asks.Sum a) index x = absurd x

  -- ---- visits

  abbrev docs : List (ℕ × ℕ) → List Fields
  docs taken = documents_at meaning.segment (docs_in taken)

  length-docs : {A : Type 0} (pairs : List (A × ℕ))
      → length (documents_at meaning.segment (docs_in pairs)) ≡ length pairs
  length-docs pairs =
      length-map (docs_in pairs) (document_at meaning.segment) ∙ length-map pairs (λ e. e.1)

  -- a composite makes no more visits than it counts
  pub own-most : (req : CompositeAggReqData) (index : ℕ) (c : CompositeAggregation)
      → req.req.now.sources ≡ c.sources → (taken : List (ℕ × ℕ))
      → length (visits_of req meaning.segment (meaning.after_at index) taken)
      ≤ length (counted c (docs taken))
  own-most req index c same taken =
      let visits = visits_of req meaning.segment (meaning.after_at index) taken in
      let fewer = lighter-length (documents_at meaning.segment (docs_in visits))
      (once_each (occurrences req.req.now.sources) (docs taken))
      (visits-counted req meaning.segment (meaning.after_at index) taken) in
      omega (
        arith,
        length-docs visits,
        fewer,
        ap (λ sources. length (once_each (occurrences sources) (docs taken))) same,
      )

  -- what is below a node that hands nothing on makes no visit
  pub none-most : (h : Held) → h ≡ nothing → (taken : List (ℕ × ℕ)) (visits : ℕ)
      → IsFor meaning ctx h taken visits → visits ≡ 0
  none-most h none taken visits f = subst (λ k. IsFor meaning ctx k taken visits) none f

  mutual
    -- the composites of a node make no more visits than those of its aggregation count
    pub most-in : (plan : Plan) (name : List ℕ) (a : Aggregation QueryTree)
        → IsPlanOf meaning ctx name a plan → (h : Held) → IsOf plan h → Fits ctx h
        → (taken : List (ℕ × ℕ)) (visits : ℕ) → IsFor meaning ctx h taken visits
        → visits ≤ counted_in matches a (docs taken)
    most-in (Plan.node kind.Composite i below) name a of (Held.composite j collector h) is fits
        taken
        visits (given, own, under, own_for, under_for, sum) =
        let x = asked-composite name (agg_of a) i of.0 in
        let same_index : i ≡ j = is.0 in
        let at : slice_get ctx.composite_req_data j ≡ Some x.2.0 =
        ap (slice_get ctx.composite_req_data) (sym same_index) ∙ x.2.1 in
        let mine = own_for x.2.0 at in
        let own_less : own ≤ length (counted x.0 (docs taken)) =
        omega (arith, mine.1, own-most x.2.0 j x.0 x.2.3 taken) in
        let asked : own_counted (agg_of a) (docs taken) ≡ length (counted x.0 (docs taken)) =
        ap (λ q. own_counted q (docs taken)) x.1 in
        let lower : under ≤ counted_of matches (below_of a) (uncut matches (agg_of a) (docs taken))
        =
        elim fits.1 [
          | inr none ↦ omega (arith, none-most h none given under under_for)
          | inl on ↦ omega (
            arith,
            most-group below (below_of a) of.1 h is.1 fits.2 given under under_for,
            of-less below (below_of a) of.1 (docs given) (uncut matches (agg_of a) (docs taken))
                (subst (λ q. Lighter (docs given) (uncut matches q (docs taken))) (sym x.1)
                (composite-lighter x.2.0 meaning.segment (meaning.after_at j) x.0 x.2.3
                collector taken given on mine.0)),
          )
        ] in
        omega (arith, sum, own_less, asked, lower, counted_in-out a (docs taken))
    most-in (Plan.node kind.Filter i below) name a of (Held.filter j collector h) is fits taken
        visits (given, own_for, under_for) =
        let x = asked-filter name (agg_of a) i of.0 in
        let same : meaning.query_at j ≡ tree_in x.0.query =
        ap meaning.query_at (sym is.0) ∙ x.2.3 in
        let lower : visits ≤ counted_of matches (below_of a) (uncut matches (agg_of a) (docs
        taken)) =
        elim fits.1 [
          | inr none ↦ omega (arith, none-most h none given visits under_for)
          | inl on ↦ omega (
            arith,
            most-group below (below_of a) of.1 h is.1 fits.2 given visits under_for,
            of-less below (below_of a) of.1 (docs given) (uncut matches (agg_of a) (docs taken))
                (subst (λ q. Lighter (docs given) (uncut matches q (docs taken))) (sym x.1)
                (filter-lighter (meaning.query_at j) meaning.segment x.0.query same collector
                taken given on own_for)),
          )
        ] in
        omega (arith, lower, counted_in-out a (docs taken))
    most-in (Plan.node (kind.StatsKind computed) i below) name a of (Held.metric j collector) is
        fits
        taken visits f = omega (arith, f.1)
    most-in (Plan.node kind.Composite i below) name a of (Held.filter j collector h) is fits taken
        visits f = absurd is
    most-in (Plan.node kind.Composite i below) name a of (Held.metric j collector) is fits taken
        visits f = absurd is
    most-in (Plan.node kind.Composite i below) name a of (Held.group hs) is fits taken visits f =
        absurd is
    most-in (Plan.node kind.Filter i below) name a of (Held.composite j collector h) is fits taken
        visits f = absurd is
    most-in (Plan.node kind.Filter i below) name a of (Held.metric j collector) is fits taken
        visits f = absurd is
    most-in (Plan.node kind.Filter i below) name a of (Held.group hs) is fits taken visits f =
        absurd is
    most-in (Plan.node (kind.StatsKind computed) i below) name a of (Held.composite j collector h)
        is
        fits taken visits f = absurd is
    most-in (Plan.node (kind.StatsKind computed) i below) name a of (Held.filter j collector h) is
        fits taken visits f = absurd is
    most-in (Plan.node (kind.StatsKind computed) i below) name a of (Held.group hs) is fits taken
        visits f = absurd is

    -- the composites of a tree make no more visits than those of its request count
    pub most-group : (plans : Plans) (request : Request QueryTree)
        → ArePlansOf meaning ctx request plans → (h : Held) → IsGroupOf plans h → Fits ctx h
        → (taken : List (ℕ × ℕ)) (visits : ℕ) → IsFor meaning ctx h taken visits
        → visits ≤ counted_of matches request (docs taken)
    most-group plans request of (Held.group hs) is fits taken visits f =
        most-all plans request of hs is fits taken visits f
    most-group plans request of (Held.composite j collector h) is fits taken visits f = absurd is
    most-group plans request of (Held.filter j collector h) is fits taken visits f = absurd is
    most-group plans request of (Held.metric j collector) is fits taken visits f = absurd is

    most-all : (plans : Plans) (request : Request QueryTree)
        → ArePlansOf meaning ctx request plans → (hs : Helds) → AreOf plans hs → AllFit ctx hs
        → (taken : List (ℕ × ℕ)) (visits : ℕ) → AllFor meaning ctx hs taken visits
        → visits ≤ counted_of matches request (docs taken)
    most-all Plans.none [] of Helds.none is fits taken visits f = omega (arith, f)
    most-all Plans.none [] of (Helds.more h hs) is fits taken visits f = absurd is
    most-all Plans.none (a ∷ request) of hs is fits taken visits f = absurd of
    most-all (Plans.more plan plans) [] of hs is fits taken visits f = absurd of
    most-all (Plans.more plan plans) (a ∷ request) of Helds.none is fits taken visits f = absurd is
    most-all (Plans.more plan plans) (a ∷ request) of (Helds.more h hs) is fits taken visits
        (own, others, own_for, others_for, sum) =
        omega (
          arith,
          sum,
          most-in plan a.0 a.1 of.0 h is.0 fits.0 taken own own_for,
          most-all plans request of.1 hs is.1 fits.1 taken others others_for,
          counted_of-more a.0 a.1 request (docs taken),
        )
