-- A composite takes at most three steps for each document that is counted, whatever it answers.
use Rattle.std.proofs.Common.{◌≡◌, ◌≤◌, ◌+◌, ◌*◌, ◌++◌, ℕ, List, [], ◌∷◌, Bool, true, Some}
use Rattle.std.proofs.Common.{inl, inr, length, sym, ap, ◌∙◌, subst, arith, length-append}
use Rattle.std.specs.Prelude.{slice_get}
use Rattle.agg_values.specs.Names.{Named}
use Rattle.agg_values.specs.declared.after_key.AfterKey.{AfterKey}
use Rattle.agg_cache.specs.Waiting.{pairs_of}
use Rattle.agg_cache.specs.declared.cache.Batch.{Batch}
use Rattle.agg_segment.specs.storage.Document.{Fields}
use Rattle.agg_segment.specs.Query.{matches}
use Rattle.agg_segment.specs.Segment.{Stored, documents_at}
use Rattle.agg_segment.specs.declared.query.QueryTree.{QueryTree}
use Rattle.agg_request_tree.specs.Request.{Request, agg_of, below_of}
use Rattle.agg_request_tree.specs.Uncut.{counted, uncut}
use Rattle.agg_request_tree.specs.declared.aggregation.Aggregation.{Aggregation}
use Rattle.agg_request_tree.specs.declared.aggregation.AggregationVariants.TheVariants as asks
use Rattle.agg_request_tree.specs.declared.aggregation.CompositeAggregation.{CompositeAggregation}
use Rattle.agg_composite.specs.accessor.Accessors as accessor
use Rattle.agg_composite.specs.declared.accessor.request_data.CompositeAggReqData.{
  CompositeAggReqData,
}
use Rattle.agg_composite.specs.buckets.Visits.{Within, docs_in}
use Rattle.agg_composite.proofs.lemmas.buckets.Labels.{docs_in-append}
use Rattle.agg_composite.specs.Composite.{Composite, CompositeGives}
use Rattle.agg_engine_tree.specs.segment_context.Context.{ArePlansOf, IsMeant, IsPlanOf, Meaning}
use Rattle.agg_engine_tree.specs.segment_context.Plan.{Plan, Plans}
use Rattle.agg_engine_tree.specs.declared.segment_context.context.PerRequestAggSegCtx.{
  PerRequestAggSegCtx,
}
use Rattle.agg_engine_tree.specs.declared.segment_context.node.AggKind.TheVariants as kind
use Rattle.agg_engine_tree.specs.collector_tree.Bound.{TakesMost}
use Rattle.agg_engine_tree.specs.collector_tree.Counting.{counted_in, counted_of, own_counted}
use Rattle.agg_engine_tree.specs.collector_tree.Took.{CompositeTook}
use Rattle.agg_engine_tree.specs.collector_tree.Caches.{Cache}
use Rattle.agg_engine_tree.specs.collector_tree.Tree.{AreOf, CompositeIsFor, Fits, Held, Helds}
use Rattle.agg_engine_tree.specs.collector_tree.Tree.{IsFor, IsGroupOf, IsHandedTo, IsOf, Takes}
use Rattle.agg_engine_tree.specs.collector_tree.Tree.{nothing, visits_of}
use Rattle.agg_engine_tree.specs.collector_tree.Caches.{waiting_in}
use Rattle.agg_engine_tree.proofs.lemmas.collector_tree.CompositeCalls.{visits-append}
use Rattle.agg_engine_tree.proofs.lemmas.collector_tree.CompositeNodes.{is-for}
use Rattle.agg_engine_tree.proofs.lemmas.collector_tree.HandedDocuments.{composite-lighter}
use Rattle.agg_engine_tree.proofs.lemmas.collector_tree.Levels.{same-plan, same-plans}
use Rattle.agg_engine_tree.proofs.lemmas.collector_tree.MostVisits.{asked-composite, counted_in-out}
use Rattle.agg_engine_tree.proofs.lemmas.collector_tree.MostVisits.{in-less, most-group, most-in}
use Rattle.agg_engine_tree.proofs.lemmas.collector_tree.MostVisits.{none-most, of-less, own-most}
use Rattle.agg_engine_tree.proofs.lemmas.collector_tree.UncutParts.{Lighter, lighter-both}
use Rattle.agg_engine_tree.proofs.lemmas.collector_tree.UncutParts.{lighter-uncut, lighter-within}
use Rattle.agg_engine_tree.proofs.lemmas.collector_tree.WithinLists.{within-part}

-- documents of pairs are among those of these with others after them
pub lighter-after : (segment : Stored) (taken pairs : List (ℕ × ℕ))
    → Lighter (documents_at segment (docs_in taken))
    (documents_at segment (docs_in (taken ++ pairs)))
lighter-after segment taken pairs =
    lighter-within segment (docs_in taken) (docs_in (taken ++ pairs))
    (subst (Within (docs_in taken)) (sym (docs_in-append taken pairs))
    (within-part [] (docs_in taken) (docs_in pairs)))

module _ (meaning : Meaning) (ctx : PerRequestAggSegCtx) where
  -- of no request nothing is counted
  none-counted : (plans : Plans) (request : Request QueryTree)
      → ArePlansOf meaning ctx request plans → AreOf plans Helds.none → (xs ys : List Fields)
      → counted_of matches request xs ≤ counted_of matches request ys
  none-counted Plans.none [] of at xs ys = omega arith
  none-counted Plans.none (a ∷ request) of at xs ys = absurd of
  none-counted (Plans.more plan plans) request of at xs ys = absurd at

  -- where nothing is below a node, nothing is counted there
  pub nothing-counted : (plans : Plans) (request : Request QueryTree)
      → ArePlansOf meaning ctx request plans → (h : Held) → h ≡ nothing → IsGroupOf plans h
      → (xs ys : List Fields)
      → counted_of matches request xs ≤ counted_of matches request ys
  nothing-counted plans request of h none at =
      none-counted plans request of (subst (IsGroupOf plans) none at)

module _ (ctx : PerRequestAggSegCtx) (pairs : List (ℕ × ℕ)) where
  -- a tree that takes no step
  pub no-steps : (h : Held) → Fits ctx h → (steps : ℕ) → TakesMost ctx pairs h steps steps
  no-steps h fits steps = record {
    node = λ meaning is taken visits f name a plan of at. omega (
      arith,
      most-in meaning ctx plan name a of h at fits taken visits f,
      in-less meaning ctx plan name a of (documents_at meaning.segment (docs_in taken))
          (documents_at meaning.segment (docs_in (taken ++ pairs)))
          (lighter-after meaning.segment taken pairs),
    );
    group = λ meaning is taken visits f request plans of at. omega (
      arith,
      most-group meaning ctx plans request of h at fits taken visits f,
      of-less meaning ctx plans request of (documents_at meaning.segment (docs_in taken))
          (documents_at meaning.segment (docs_in (taken ++ pairs)))
          (lighter-after meaning.segment taken pairs),
    );
  }

  -- a tree that took documents
  pub takes-most : (all : Bool) (old new : Held) (steps steps_now : ℕ) → Fits ctx old
      → Takes ctx pairs all old new steps steps_now → TakesMost ctx pairs old steps steps_now
  takes-most all old new steps steps_now fits t = record {
    node = λ meaning is taken visits f name a plan of at.
        let now = t.takes meaning is taken visits f in
        let most : steps_now + 3 * visits ≤ steps + 3 * now.0 = now.4 in
        omega (
          arith,
          most,
          most-in meaning ctx plan name a of new (same-plan plan old new t.nodes at) (t.fits fits)
              (taken ++ pairs) now.0 now.1,
        );
    group = λ meaning is taken visits f request plans of at.
        let now = t.takes meaning is taken visits f in
        let most : steps_now + 3 * visits ≤ steps + 3 * now.0 = now.4 in
        omega (
          arith,
          most,
          most-group meaning ctx plans request of new (same-plans plans old new t.nodes at)
              (t.fits fits) (taken ++ pairs) now.0 now.1,
        );
  }

-- ---- composites

module _ (ctx : PerRequestAggSegCtx) (pairs : List (ℕ × ℕ)) (index : ℕ)
    (req : CompositeAggReqData) (at : slice_get ctx.composite_req_data index ≡ Some req)
    (old : Composite Cache) (steps mid : ℕ)
    (bound : (segment : Stored) (after : Named AfterKey) → accessor.Fits segment after req
    → mid ≤ steps + 3 * length (visits_of req segment after pairs)) where
  -- what is below a composite ends at a step, and takes no more than it may
  abbrev IsLowerMost : Held → ℕ → Type 0
  IsLowerMost h then =
      (meaning : Meaning) → IsMeant meaning ctx → (taken given : List (ℕ × ℕ)) (own below : ℕ)
      → CompositeIsFor meaning ctx index old taken given own → IsFor meaning ctx h given below
      → (asked : CompositeAggregation) → req.req.now.sources ≡ asked.sources
      → (request : Request QueryTree) (plans : Plans) → ArePlansOf meaning ctx request plans
      → IsGroupOf plans h
      → then + 3 * below
      ≤ mid
      + 3 * counted_of matches request
      (counted asked (documents_at meaning.segment (docs_in (taken ++ pairs))))

  -- the bound for the composite's own node
  composite-node : (h : Held) (then : ℕ) → IsLowerMost h then → (meaning : Meaning)
      → IsMeant meaning ctx → (taken : List (ℕ × ℕ)) (visits : ℕ)
      → IsFor meaning ctx (Held.composite index old h) taken visits
      → (name : List ℕ) (a : Aggregation QueryTree) (plan : Plan)
      → IsPlanOf meaning ctx name a plan → IsOf plan (Held.composite index old h)
      → then + 3 * visits
      ≤ steps
      + 3 * counted_in matches a (documents_at meaning.segment (docs_in (taken ++ pairs)))
  composite-node h then lower meaning is taken visits (given, own, under, own_for, under_for, sum)
      name a (Plan.node kind.Composite i below) of same =
      let after = meaning.after_at index in
      let documents = documents_at meaning.segment (docs_in (taken ++ pairs)) in
      let x = asked-composite meaning ctx name (agg_of a) i of.0 in
      let there : slice_get ctx.composite_req_data index ≡ Some x.2.0 =
      ap (slice_get ctx.composite_req_data) (sym same.0) ∙ x.2.1 in
      let one : x.2.0 ≡ req = cc (there, at) in
      let sources : req.req.now.sources ≡ x.0.sources =
      ap (λ (r : CompositeAggReqData). r.req.now.sources) (sym one) ∙ x.2.3 in
      let before : own ≡ length (visits_of req meaning.segment after taken) = (own_for req at).1 in
      let rest : then + 3 * under ≤ mid
      + 3 * counted_of matches (below_of a) (uncut matches (agg_of a) documents) =
      subst (λ q. then + 3 * under ≤ mid
      + 3 * counted_of matches (below_of a) (uncut matches q documents)) (sym x.1)
      (lower meaning is taken given own under own_for under_for x.0 sources (below_of a) below of.1
      same.1) in
      omega (
        arith,
        sum,
        before,
        rest,
        bound meaning.segment after (is.composites index req at).fits,
        own-most meaning ctx req index x.0 sources (taken ++ pairs),
        ap length (visits-append req meaning.segment after taken pairs),
        length-append (visits_of req meaning.segment after taken)
            (visits_of req meaning.segment after pairs),
        ap (λ q. own_counted q documents) x.1,
        counted_in-out a documents,
      )
  composite-node h then lower meaning is taken visits f name a (Plan.node kind.Filter i below) of
      same = absurd same
  composite-node h then lower meaning is taken visits f name a
      (Plan.node (kind.StatsKind computed) i below) of same = absurd same

  -- a composite, and what is below it
  composite-bound : (h : Held) (then : ℕ) → IsLowerMost h then
      → TakesMost ctx pairs (Held.composite index old h) steps then
  composite-bound h then lower = record {
    node = composite-node h then lower;
    group = λ meaning is taken visits f request plans of x. absurd x;
  }

  -- a composite alone, where nothing is handed on
  pub composite-own-most : (h : Held) → Fits ctx (Held.composite index old h)
      → TakesMost ctx pairs (Held.composite index old h) steps mid
  composite-own-most h fits =
      composite-bound h mid
      (λ meaning is taken given own below own_for below_for asked same request plans of x.
      let before = documents_at meaning.segment (docs_in taken) in
      let now = documents_at meaning.segment (docs_in (taken ++ pairs)) in
      let gave = documents_at meaning.segment (docs_in given) in
      elim fits.1 [
        | inr none ↦ omega (arith, none-most meaning ctx h none given below below_for)
        | inl on ↦ omega (
          arith,
          most-group meaning ctx plans request of h x fits.2 given below below_for,
          of-less meaning ctx plans request of gave (counted asked now)
              (lighter-both gave (counted asked before) (counted asked now)
              (composite-lighter req meaning.segment (meaning.after_at index) asked same old taken
              given on (own_for req at).0)
              (lighter-uncut matches (asks.Composite asked) before now
              (lighter-after meaning.segment taken pairs))),
        )
      ])

-- a composite, and then what is below it with what the composite gave
pub composite-lower-most : (ctx : PerRequestAggSegCtx) (pairs : List (ℕ × ℕ)) (index : ℕ)
    (req : CompositeAggReqData) (at : slice_get ctx.composite_req_data index ≡ Some req)
    (meant : (meaning : Meaning) × IsMeant meaning ctx) (old now : Composite Cache)
    (steps mid : ℕ)
    → (took : (segment : Stored) (after : Named AfterKey) → accessor.Fits segment after req
    → CompositeTook req segment after pairs old now steps mid)
    → (down : List Batch) (b : Composite Cache) → CompositeGives waiting_in down now b
    → b ≡ record now { cache = b.cache } → (h : Held) → IsHandedTo old.hands_on h
    → (then : ℕ) → TakesMost ctx (pairs_of down) h mid then
    → TakesMost ctx pairs (Held.composite index old h) steps then
composite-lower-most ctx pairs index req at meant old now steps mid took down b gives rest h handed
    then t =
    composite-bound ctx pairs index req at old steps mid
    (λ segment after fits. (took segment after fits).most) h then
    (λ meaning is taken given own below own_for below_for asked same request plans of x.
    let whole = counted asked (documents_at meaning.segment (docs_in (taken ++ pairs))) in
    let gave = documents_at meaning.segment (docs_in (given ++ pairs_of down)) in
    let most = t.group meaning is given below below_for request plans of x in
    elim handed [
      | inr none ↦ omega (
        arith,
        most,
        nothing-counted meaning ctx plans request of h none x gave whole,
      )
      | inl on ↦
          let still = (took meaning.segment (meaning.after_at index)
          (is.composites index req at).fits).hands_on in
          omega (
            arith,
            most,
            of-less meaning ctx plans request of gave whole
                (composite-lighter req meaning.segment (meaning.after_at index) asked same b
                (taken ++ pairs) (given ++ pairs_of down)
                (ap (λ (y : Composite Cache). y.hands_on) rest ∙ still ∙ on)
                (is-for ctx pairs [] true index req at meant old now steps mid took b
                (pairs_of down) (λ other segment after before_taken before_given.
                gives.gives other (visits_of other segment after before_taken) before_given)
                meaning is taken given own own_for req at).0),
          )
    ])
