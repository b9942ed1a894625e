-- A tree visits the occurrences past the after key of each composite at its top.
use Rattle.std.proofs.Common.{◌≡◌, ◌≤◌, ◌+◌, ℕ, List, [], ◌∷◌, Bool, true, false, cond}
use Rattle.std.proofs.Common.{Some, length, length-append, refl, sym, ap, ◌∙◌}
use Rattle.std.proofs.Common.{arith}
use Rattle.std.specs.Prelude.{option_map, slice_get}
use Rattle.std.specs.BTreeMap.{is_at}
use Rattle.agg_values.specs.Names.{Named, name_cmp, value_of}
use Rattle.agg_values.specs.declared.after_key.AfterKey.{AfterKey}
use Rattle.agg_segment.specs.storage.Document.{Fields}
use Rattle.agg_segment.specs.Segment.{Stored, documents_at}
use Rattle.agg_segment.specs.declared.query.QueryTree.{QueryTree}
use Rattle.agg_request_tree.specs.Occurrences.{bound_of, past_occurrences}
use Rattle.agg_request_tree.specs.Request.{Request, agg_of}
use Rattle.agg_request_tree.specs.declared.aggregation.Aggregation.{Aggregation}
use Rattle.agg_request_tree.specs.declared.aggregation.AggregationVariants.{AggregationVariants}
use Rattle.agg_request_tree.specs.declared.aggregation.AggregationVariants.TheVariants as asks
use Rattle.agg_composite.specs.declared.accessor.request_data.CompositeAggReqData.{
  CompositeAggReqData,
}
use Rattle.agg_composite.specs.buckets.Visits.{docs_in}
use Rattle.agg_composite.proofs.VisitsPast.{length-past}
use Rattle.agg_engine_tree.specs.segment_context.Context.{ArePlansOf, IsAskedAt, IsPlanOf, Meaning}
use Rattle.agg_engine_tree.specs.segment_context.Plan.{Plan, Plans}
use Rattle.agg_engine_tree.specs.declared.segment_context.context.PerRequestAggSegCtx.{
  PerRequestAggSegCtx,
}
use Rattle.agg_engine_tree.specs.declared.segment_context.node.AggKind.TheVariants as kind
use Rattle.agg_engine_tree.specs.collector_tree.Tree.{AllFor, AreOf, Held, Helds, IsFor, IsGroupOf}
use Rattle.agg_engine_tree.specs.collector_tree.Tree.{IsOf, visits_of}
use Rattle.agg_engine_tree.proofs.lemmas.collector_tree.MostVisits.{asked-composite}
use Rattle.agg_engine.specs.snapshot_results.Steps.{past_named, past_own}
use Rattle.agg_engine.proofs.lemmas.snapshot_results.JoinedCounts.{past-joined}

-- a composite makes a visit for each occurrence of what it took that lies past its after key
visits-past : (req : CompositeAggReqData) (segment : Stored) (after : Named AfterKey)
    (taken : List (ℕ × ℕ))
    → length (visits_of req segment after taken)
    ≡ length (past_occurrences req.req.now.sources (bound_of req.req.now.sources after)
    (documents_at segment (docs_in taken)))
visits-past req segment after [] = refl
visits-past req segment after (e ∷ taken) =
    let sources = req.req.now.sources in
    let bound = bound_of sources after in
    let first = length-past sources segment after e.0 (e.1 ∷ []) in
    let rest = visits-past req segment after taken in
    let joined = past-joined sources bound (documents_at segment (e.1 ∷ []))
    (documents_at segment (docs_in taken)) in
    length-append _ (visits_of req segment after taken) ∙ omega (arith, first, rest, joined)

module _ (meaning : Meaning) (ctx : PerRequestAggSegCtx) (taken : List (ℕ × ℕ)) where
  -- the documents that were taken
  abbrev documents : List Fields
  documents = documents_at meaning.segment (docs_in taken)

  -- what is no composite has no occurrence
  no-past : (asked : AggregationVariants QueryTree) (n : ℕ)
      → ((c : _) → asked ≡ asks.Composite c → ⊥) → past_own (Some asked) documents ≤ n
  no-past (asks.Composite c) n none = absurd (none c refl)
  no-past (asks.Filter a) n none = omega arith
  no-past (asks.Count a) n none = omega arith
  no-past (asks.Max a) n none = omega arith
  no-past (asks.Min a) n none = omega arith
  no-past (asks.Sum a) n none = omega arith

  -- a node visits those of its aggregation
  node-least : (plan : Plan) (name : List ℕ) (a : Aggregation QueryTree)
      → IsPlanOf meaning ctx name a plan → (h : Held) → IsOf plan h → (visits : ℕ)
      → IsFor meaning ctx h taken visits → past_own (Some (agg_of a)) documents ≤ visits
  node-least (Plan.node kind.Composite i below) name a of (Held.composite j collector h) is visits
      (given, own, under, own_for, under_for, sum) =
      let x = asked-composite meaning ctx name (agg_of a) i of.0 in
      let same_index : i ≡ j = is.0 in
      let at : slice_get ctx.composite_req_data j ≡ Some x.2.0 =
      ap (slice_get ctx.composite_req_data) (sym same_index) ∙ x.2.1 in
      let mine = own_for x.2.0 at in
      let past = visits-past x.2.0 meaning.segment (meaning.after_at j) taken in
      let asked : past_own (Some (agg_of a)) documents
      ≡ length (past_occurrences x.0.sources (bound_of x.0.sources x.0.after) documents) =
      ap (λ q. past_own (Some q) documents) x.1 in
      let after : meaning.after_at j ≡ x.0.after = ap meaning.after_at (sym same_index) ∙ x.2.5 in
      let same : length (past_occurrences x.2.0.req.now.sources
      (bound_of x.2.0.req.now.sources (meaning.after_at j)) documents)
      ≡ length (past_occurrences x.0.sources (bound_of x.0.sources x.0.after) documents) =
      λ k. length (past_occurrences (x.2.3 k) (bound_of (x.2.3 k) (after k)) documents) in
      omega (arith, mine.1, past, asked, same, sum)
  node-least (Plan.node kind.Filter i below) name a of h is visits f =
      no-past (agg_of a) visits (not-composite-filter (agg_of a) of.0)
    where
      not-composite-filter : (q : AggregationVariants QueryTree)
          → IsAskedAt meaning ctx name q kind.Filter i
          → (c : _) → q ≡ asks.Composite c → ⊥
      not-composite-filter (asks.Filter b) x c e = cc e
      not-composite-filter (asks.Composite b) x c e = x
      not-composite-filter (asks.Count b) x c e = x
      not-composite-filter (asks.Max b) x c e = x
      not-composite-filter (asks.Min b) x c e = x
      not-composite-filter (asks.Sum b) x c e = x
  node-least (Plan.node (kind.StatsKind computed) i below) name a of h is visits f =
      no-past (agg_of a) visits (not-composite-metric (agg_of a) of.0)
    where
      not-composite-metric : (q : AggregationVariants QueryTree)
          → IsAskedAt meaning ctx name q (kind.StatsKind computed) i
          → (c : _) → q ≡ asks.Composite c → ⊥
      not-composite-metric (asks.Composite b) x c e = x
      not-composite-metric (asks.Filter b) x c e = x
      not-composite-metric (asks.Count b) x c e = cc e
      not-composite-metric (asks.Max b) x c e = cc e
      not-composite-metric (asks.Min b) x c e = cc e
      not-composite-metric (asks.Sum b) x c e = cc e
  node-least (Plan.node kind.Composite i below) name a of (Held.filter j collector h) is visits f =
      absurd is
  node-least (Plan.node kind.Composite i below) name a of (Held.metric j collector) is visits f =
      absurd is
  node-least (Plan.node kind.Composite i below) name a of (Held.group hs) is visits f = absurd is

  -- those of one aggregation more at the top
  one-more : (name : List ℕ) (a : List ℕ × Aggregation QueryTree) (request : Request QueryTree)
      (own others visits : ℕ) → past_own (Some (agg_of a.1)) documents ≤ own
      → past_named name request documents ≤ others → visits ≡ own + others
      → past_named name (a ∷ request) documents ≤ visits
  one-more name a request own others visits first rest sum = by (is_at (name_cmp name) a.0)
    where
      by : (b : Bool) → past_own (option_map (λ (x : Aggregation QueryTree). agg_of x)
          (cond b (Some a.1) (value_of name request))) documents ≤ visits
      by true = omega (arith, first, sum)
      by false = omega (arith, rest, sum)

  -- a tree visits those of each aggregation at its top
  all-least : (name : List ℕ) (plans : Plans) (request : Request QueryTree)
      → ArePlansOf meaning ctx request plans → (hs : Helds) → AreOf plans hs → (visits : ℕ)
      → AllFor meaning ctx hs taken visits → past_named name request documents ≤ visits
  all-least name Plans.none [] of hs is visits f = omega arith
  all-least name Plans.none (a ∷ request) of hs is visits f = absurd of
  all-least name (Plans.more plan plans) [] of hs is visits f = absurd of
  all-least name (Plans.more plan plans) (a ∷ request) of Helds.none is visits f = absurd is
  all-least name (Plans.more plan plans) (a ∷ request) of (Helds.more h hs) is visits
      (own, others, own_for, others_for, sum) =
      one-more name a request own others visits (node-least plan a.0 a.1 of.0 h is.0 own own_for)
      (all-least name plans request of.1 hs is.1 others others_for) sum

  pub group-least : (name : List ℕ) (plans : Plans) (request : Request QueryTree)
      → ArePlansOf meaning ctx request plans → (h : Held) → IsGroupOf plans h → (visits : ℕ)
      → IsFor meaning ctx h taken visits → past_named name request documents ≤ visits
  group-least name plans request of (Held.group hs) is visits f =
      all-least name plans request of hs is visits f
  group-least name plans request of (Held.composite j collector h) is visits f = absurd is
  group-least name plans request of (Held.filter j collector h) is visits f = absurd is
  group-least name plans request of (Held.metric j collector) is visits f = absurd is
