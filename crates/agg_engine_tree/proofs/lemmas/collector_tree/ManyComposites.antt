-- A composite with what is below it refuses too many documents.
use Rattle.std.proofs.Common.{◌≡◌, ◌<◌, ◌≤◌, ◌^◌, ◌++◌, ℕ, List, true, Some, inl, inr, Err, map}
use Rattle.std.proofs.Common.{⊎_elim}
use Rattle.std.proofs.Common.{length, refl, sym, ap, ◌∙◌, subst, arith}
use Rattle.std.specs.Prelude.{slice_get}
use Rattle.std.specs.List.{All}
use Rattle.agg_values.specs.Names.{Named}
use Rattle.agg_values.specs.declared.after_key.AfterKey.{AfterKey}
use Rattle.agg_cache.specs.Waiting.{pairs_of}
use Rattle.agg_cache.specs.declared.cache.Batch.{Batch}
use Rattle.agg_cache.specs.declared.error.CollectError.TheVariants as refusal
use Rattle.agg_segment.specs.storage.Document.{Fields, HasNumbersOf64Bits}
use Rattle.agg_segment.specs.Query.{matches}
use Rattle.agg_segment.specs.Segment.{Stored, documents_at}
use Rattle.agg_segment.specs.declared.query.QueryTree.{QueryTree}
use Rattle.agg_request_tree.specs.Request.{agg_of, below_of}
use Rattle.agg_request_tree.specs.Uncut.{uncut}
use Rattle.agg_request_tree.specs.declared.aggregation.Aggregation.{Aggregation}
use Rattle.agg_composite.specs.accessor.Accessors as accessor
use Rattle.agg_composite.specs.declared.accessor.request_data.CompositeAggReqData.{
  CompositeAggReqData,
}
use Rattle.agg_composite.specs.buckets.Visits.{docs_in}
use Rattle.agg_composite.specs.Composite.{Composite, CompositeFor, CompositeGives}
use Rattle.agg_engine_tree.specs.segment_context.Context.{IsMeant, IsPlanOf, Meaning}
use Rattle.agg_engine_tree.specs.segment_context.Plan.{Plan}
use Rattle.agg_engine_tree.specs.declared.segment_context.context.PerRequestAggSegCtx.{
  PerRequestAggSegCtx,
}
use Rattle.agg_engine_tree.specs.declared.segment_context.node.AggKind.TheVariants as kind
use Rattle.agg_engine_tree.specs.collector_tree.Refusals.{ListsTooMany, ManyTaken}
use Rattle.agg_engine_tree.specs.collector_tree.Took.{CompositeAnswers, CompositeTook}
use Rattle.agg_engine_tree.specs.collector_tree.Caches.{Cache}
use Rattle.agg_engine_tree.specs.collector_tree.Tree.{CompositeIsFor, Held, IsFor, IsHandedTo, IsOf}
use Rattle.agg_engine_tree.specs.collector_tree.Caches.{waiting_in}
use Rattle.agg_engine_tree.specs.collector_tree.Tree.{visits_of}
use Rattle.agg_engine_tree.proofs.lemmas.collector_tree.CompositeNodes.{is-for}
use Rattle.agg_engine_tree.proofs.lemmas.collector_tree.HandedDocuments.{composite-lighter}
use Rattle.agg_engine_tree.proofs.lemmas.collector_tree.LastIds.{last-visits, low-or-last}
use Rattle.agg_engine_tree.proofs.lemmas.collector_tree.LowerDocuments.{given-visited, visited-part}
use Rattle.agg_engine_tree.proofs.lemmas.collector_tree.SmallNumbers.{all-part}
use Rattle.agg_engine_tree.proofs.lemmas.collector_tree.WithinLists.{within-contains}
use Rattle.agg_engine_tree.proofs.lemmas.collector_tree.ManyLists.{many-below, many-own, of-more}
use Rattle.agg_engine_tree.proofs.lemmas.collector_tree.MostVisits.{asked-composite, own-most}
use Rattle.agg_engine_tree.proofs.lemmas.collector_tree.UncutParts.{Lighter}

module _ (ctx : PerRequestAggSegCtx) (pairs : List (ℕ × ℕ)) (parents : List ℕ) (index : ℕ)
    (req : CompositeAggReqData) (at : slice_get ctx.composite_req_data index ≡ Some req)
    (meant : (meaning : Meaning) × IsMeant meaning ctx) (old now : Composite Cache)
    (steps mid : ℕ) where
  abbrev docs : Meaning → List (ℕ × ℕ) → List Fields
  docs meaning taken = documents_at meaning.segment (docs_in taken)

  -- too many visits are a list that is too long
  visits-many : (h : Held) (meaning : Meaning) (taken : List (ℕ × ℕ))
      → 2 ^ 32 ≤ length (visits_of req meaning.segment (meaning.after_at index) taken)
      → (name : List ℕ) (a : Aggregation QueryTree) (plan : Plan)
      → IsPlanOf meaning ctx name a plan → IsOf plan (Held.composite index old h)
      → ListsTooMany a (docs meaning taken)
  visits-many h meaning taken long name a (Plan.node kind.Composite i below) of is =
      let x = asked-composite meaning ctx name (agg_of a) i of.0 in
      let same : i ≡ index = is.0 in
      let at_x : slice_get ctx.composite_req_data index ≡ Some x.2.0 =
      ap (slice_get ctx.composite_req_data) (sym same) ∙ x.2.1 in
      let one : req ≡ x.2.0 = cc (at, at_x) in
      let sources = ap (λ (r : CompositeAggReqData). r.req.now.sources) one ∙ x.2.3 in
      many-own a (docs meaning taken) (omega (
        arith,
        long,
        own-most meaning ctx req index x.0 sources taken,
        ap (λ q. length (uncut matches q (docs meaning taken))) x.1,
      ))
  visits-many h meaning taken long name a (Plan.node kind.Filter i below) of is = absurd is
  visits-many h meaning taken long name a (Plan.node (kind.StatsKind computed) i below) of is =
      absurd is

  -- a composite is refused too many documents
  pub composite-many : (h : Held)
      → ((segment : Stored) (after : Named AfterKey) → accessor.Fits segment after req
      → CompositeAnswers req segment after pairs old now steps mid (Err refusal.TooMany))
      → ManyTaken ctx pairs parents (Held.composite index old h)
  composite-many h answers = record {
    some = λ e. absurd (cc e);
    node = λ low meaning is taken small visits f name a plan.
        visits-many h meaning (taken ++ pairs)
        ((answers meaning.segment (meaning.after_at index) (is.composites index req at).fits).many
        refl taken f.0 (f.3 req at).0) name a plan;
    group = λ low meaning is taken small visits f request plans of is_of. absurd is_of;
  }

  module _ (took : (segment : Stored) (after : Named AfterKey) → accessor.Fits segment after req
      → CompositeTook req segment after pairs old now steps mid)
      (down : List Batch) (filled : All (λ batch. 0 < length batch.docs) down)
      (b : Composite Cache) (gives : CompositeGives waiting_in down now b)
      (rest : b ≡ record now { cache = b.cache }) where
    -- it is right for what it gave
    now-for : (meaning : Meaning) → IsMeant meaning ctx → (taken given : List (ℕ × ℕ)) (own : ℕ)
        → CompositeIsFor meaning ctx index old taken given own
        → CompositeFor waiting_in req b
        (visits_of req meaning.segment (meaning.after_at index) (taken ++ pairs))
        (given ++ pairs_of down)
    now-for meaning is taken given own own_for =
        (is-for ctx pairs parents true index req at meant old now steps mid took b
        (pairs_of down) (λ other segment after before_taken before_given.
        gives.gives other (visits_of other segment after before_taken) before_given)
        meaning is taken given own own_for req at).0

    still-on : (meaning : Meaning) → IsMeant meaning ctx → old.hands_on ≡ true → b.hands_on ≡ true
    still-on meaning is on =
        ap (λ (x : Composite Cache). x.hands_on) rest
        ∙ (took meaning.segment (meaning.after_at index) (is.composites index req at).fits).hands_on
        ∙ on

    lower-node : (h : Held) → IsHandedTo old.hands_on h
        → ManyTaken ctx (pairs_of down) (map (λ batch. batch.bucket_id) down) h
        → (meaning : Meaning) → IsMeant meaning ctx → (taken : List (ℕ × ℕ))
        → All HasNumbersOf64Bits (docs meaning (taken ++ pairs)) → (visits : ℕ)
        → IsFor meaning ctx (Held.composite index old h) taken visits
        → (name : List ℕ) (a : Aggregation QueryTree) (plan : Plan)
        → IsPlanOf meaning ctx name a plan → IsOf plan (Held.composite index old h)
        → ListsTooMany a (docs meaning (taken ++ pairs))
    lower-node h (inr none) r meaning is taken small visits f name a plan of is_of =
        absurd (r.some none)
    lower-node h (inl on) r meaning is taken small visits
        (given, own, under, own_for, under_for, sum) name a (Plan.node kind.Composite i below) of
        is_of =
        let x = asked-composite meaning ctx name (agg_of a) i of.0 in
        let same : i ≡ index = is_of.0 in
        let at_x : slice_get ctx.composite_req_data index ≡ Some x.2.0 =
        ap (slice_get ctx.composite_req_data) (sym same) ∙ x.2.1 in
        let one : req ≡ x.2.0 = cc (at, at_x) in
        let sources = ap (λ (q : CompositeAggReqData). q.req.now.sources) one ∙ x.2.3 in
        let for_now = now-for meaning is taken given own own_for in
        let visited = visits_of req meaning.segment (meaning.after_at index) (taken ++ pairs) in
        let on_now = still-on meaning is on in
        let lower = given ++ pairs_of down in
        let lower_small = all-part HasNumbersOf64Bits meaning.segment (docs_in lower)
        (docs_in (taken ++ pairs)) (λ d c.
        visited-part req meaning.segment (meaning.after_at index) (taken ++ pairs) d
        (within-contains (docs_in lower) (docs_in visited)
        (given-visited req b visited lower on_now for_now) d c)) small in
        ⊎_elim
        (λ low. many-below a (docs meaning (taken ++ pairs))
        (of-more meaning ctx below (below_of a) of.1 (docs meaning (given ++ pairs_of down))
        (uncut matches (agg_of a) (docs meaning (taken ++ pairs)))
        (subst (λ q. Lighter (docs meaning (given ++ pairs_of down))
        (uncut matches q (docs meaning (taken ++ pairs)))) (sym x.1)
        (composite-lighter req meaning.segment (meaning.after_at index) x.0 sources b
        (taken ++ pairs) (given ++ pairs_of down) on_now for_now))
        (r.group low meaning is given lower_small under under_for (below_of a) below of.1
        is_of.1)))
        (λ last. visits-many h meaning (taken ++ pairs)
        (last-visits req b visited given down on_now for_now last) name a
        (Plan.node kind.Composite i below) of is_of)
        (low-or-last down filled)
    lower-node h (inl on) r meaning is taken small visits f name a
        (Plan.node kind.Filter i below) of is_of = absurd is_of
    lower-node h (inl on) r meaning is taken small visits f name a
        (Plan.node (kind.StatsKind computed) i below) of is_of = absurd is_of

    -- what is below a composite is refused too many documents
    pub composite-lower-many : (h : Held) → IsHandedTo old.hands_on h
        → ManyTaken ctx (pairs_of down) (map (λ batch. batch.bucket_id) down) h
        → ManyTaken ctx pairs parents (Held.composite index old h)
    composite-lower-many h handed r = record {
      some = λ e. absurd (cc e);
      node = λ low. lower-node h handed r;
      group = λ low meaning is taken small visits f request plans of is_of. absurd is_of;
    }
