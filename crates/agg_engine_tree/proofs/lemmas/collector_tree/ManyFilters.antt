-- A filter with what is below it refuses too many documents.
use Rattle.std.proofs.Common.{◌≡◌, ◌<◌, ◌≤◌, ◌^◌, ◌++◌, ℕ, List, Bool, Some, inl, inr, Err, filter}
use Rattle.std.proofs.Common.{map, ⊎_elim}
use Rattle.std.proofs.Common.{length, refl, sym, ap, ◌∙◌, subst, arith}
use Rattle.std.specs.Prelude.{slice_get}
use Rattle.std.specs.List.{All}
use Rattle.std.proofs.lemmas.List.{length-map}
use Rattle.agg_cache.specs.Waiting.{pairs_of}
use Rattle.agg_cache.specs.declared.cache.Batch.{Batch}
use Rattle.agg_cache.specs.declared.error.CollectError.TheVariants as refusal
use Rattle.agg_segment.specs.storage.Document.{Fields, HasNumbersOf64Bits}
use Rattle.agg_segment.specs.Marks.{AreMarks}
use Rattle.agg_segment.specs.Query.{matches}
use Rattle.agg_segment.specs.Segment.{Stored, document_at, documents_at}
use Rattle.agg_segment.specs.declared.query.QueryTree.{QueryTree}
use Rattle.agg_request_tree.specs.Matching.{matching}
use Rattle.agg_request_tree.specs.Request.{agg_of, below_of}
use Rattle.agg_request_tree.specs.Uncut.{uncut}
use Rattle.agg_request_tree.specs.declared.aggregation.Aggregation.{Aggregation}
use Rattle.agg_composite.specs.buckets.Visits.{docs_in}
use Rattle.agg_filter.specs.Filter.{Filter, FilterGives}
use Rattle.agg_filter.specs.Matching.{is_matching}
use Rattle.agg_filter.specs.declared.request_data.FilterAggReqData.{FilterAggReqData}
use Rattle.agg_engine_tree.specs.segment_context.Context.{IsMeant, IsPlanOf, Meaning, tree_in}
use Rattle.agg_engine_tree.specs.segment_context.Plan.{Plan}
use Rattle.agg_engine_tree.specs.declared.segment_context.context.PerRequestAggSegCtx.{
  PerRequestAggSegCtx,
}
use Rattle.agg_engine_tree.specs.declared.segment_context.node.AggKind.TheVariants as kind
use Rattle.agg_engine_tree.specs.collector_tree.Refusals.{ListsTooMany, ManyTaken}
use Rattle.agg_engine_tree.specs.collector_tree.Took.{FilterAnswers, FilterTook}
use Rattle.agg_engine_tree.specs.collector_tree.Caches.{Cache, waiting_in}
use Rattle.agg_engine_tree.specs.collector_tree.Tree.{Held, IsFor, IsHandedTo, IsOf}
use Rattle.agg_engine_tree.proofs.lemmas.collector_tree.HandedDocuments.{filter-lighter}
use Rattle.agg_engine_tree.proofs.lemmas.collector_tree.HandedDocuments.{matched-lighter}
use Rattle.agg_engine_tree.proofs.lemmas.collector_tree.LastIds.{filter-last, low-or-last}
use Rattle.agg_engine_tree.proofs.lemmas.collector_tree.MatchedDocuments.{given-matched}
use Rattle.agg_engine_tree.proofs.lemmas.collector_tree.MatchedDocuments.{matching-within}
use Rattle.agg_engine_tree.proofs.lemmas.collector_tree.SmallNumbers.{all-part}
use Rattle.agg_engine_tree.proofs.lemmas.collector_tree.WithinLists.{within-both, within-contains}
use Rattle.agg_engine_tree.proofs.lemmas.collector_tree.ManyLists.{many-below, many-own, of-more}
use Rattle.agg_engine_tree.proofs.lemmas.collector_tree.MostVisits.{asked-filter}
use Rattle.agg_engine_tree.proofs.lemmas.collector_tree.UncutParts.{Lighter, lighter-length}

module _ (ctx : PerRequestAggSegCtx) (pairs : List (ℕ × ℕ)) (parents : List ℕ) (index : ℕ)
    (req : FilterAggReqData) (at : slice_get ctx.filter_req_data index ≡ Some req)
    (old now : Filter Cache) where
  abbrev docs : Meaning → List (ℕ × ℕ) → List Fields
  docs meaning taken = documents_at meaning.segment (docs_in taken)

  -- which documents it matches
  abbrev matches_in : Meaning → ℕ → Bool
  matches_in meaning = is_matching (meaning.query_at index) meaning.segment

  -- too many that match are a list that is too long
  matched-many : (h : Held) (meaning : Meaning) (taken : List (ℕ × ℕ))
      → 2 ^ 32 ≤ length (filter (matches_in meaning) (docs_in taken))
      → (name : List ℕ) (a : Aggregation QueryTree) (plan : Plan)
      → IsPlanOf meaning ctx name a plan → IsOf plan (Held.filter index old h)
      → ListsTooMany a (docs meaning taken)
  matched-many h meaning taken long name a (Plan.node kind.Filter i below) of is =
      let x = asked-filter meaning ctx name (agg_of a) i of.0 in
      let same : meaning.query_at index ≡ tree_in x.0.query =
      ap meaning.query_at (sym is.0) ∙ x.2.3 in
      let own = filter (matches_in meaning) (docs_in taken) in
      many-own a (docs meaning taken) (omega (
        arith,
        long,
        length-map own (document_at meaning.segment),
        lighter-length (documents_at meaning.segment own) (matching matches x.0.query (docs meaning
            taken))
            (matched-lighter (meaning.query_at index) meaning.segment x.0.query same (docs_in
            taken)),
        ap (λ q. length (uncut matches q (docs meaning taken))) x.1,
      ))
  matched-many h meaning taken long name a (Plan.node kind.Composite i below) of is = absurd is
  matched-many h meaning taken long name a (Plan.node (kind.StatsKind computed) i below) of is =
      absurd is

  -- a filter is refused too many documents
  pub filter-many : (h : Held)
      → ((tree : QueryTree) (segment : Stored) → AreMarks (matches tree) segment req.evaluator
      → FilterAnswers (is_matching tree segment) pairs parents old now (Err refusal.TooMany))
      → ManyTaken ctx pairs parents (Held.filter index old h)
  filter-many h answers = record {
    some = λ e. absurd (cc e);
    node = λ low meaning is taken small visits f name a plan.
        matched-many h meaning (taken ++ pairs)
        ((answers (meaning.query_at index) meaning.segment (is.filters index req at)).many
        refl low taken f.0 f.1) name a plan;
    group = λ low meaning is taken small visits f request plans of is_of. absurd is_of;
  }

  module _ (took : (tree : QueryTree) (segment : Stored)
      → AreMarks (matches tree) segment req.evaluator
      → FilterTook (is_matching tree segment) pairs old now)
      (down : List Batch) (filled : All (λ batch. 0 < length batch.docs) down)
      (b : Filter Cache) (gives : FilterGives waiting_in down now b)
      (rest : b ≡ record now { cache = b.cache }) where
    lower-node : (h : Held) → IsHandedTo old.hands_on h
        → ManyTaken ctx (pairs_of down) (map (λ batch. batch.bucket_id) down) h
        → (meaning : Meaning) → IsMeant meaning ctx → (taken : List (ℕ × ℕ))
        → All HasNumbersOf64Bits (docs meaning (taken ++ pairs)) → (visits : ℕ)
        → IsFor meaning ctx (Held.filter index old h) taken visits
        → (name : List ℕ) (a : Aggregation QueryTree) (plan : Plan)
        → IsPlanOf meaning ctx name a plan → IsOf plan (Held.filter index old h)
        → ListsTooMany a (docs meaning (taken ++ pairs))
    lower-node h (inr none) r meaning is taken small visits f name a plan of is_of =
        absurd (r.some none)
    lower-node h (inl on) r meaning is taken small visits (given, own_for, under_for) name a
        (Plan.node kind.Filter i below) of is_of =
        let x = asked-filter meaning ctx name (agg_of a) i of.0 in
        let same : meaning.query_at index ≡ tree_in x.0.query =
        ap meaning.query_at (sym is_of.0) ∙ x.2.3 in
        let own = took (meaning.query_at index) meaning.segment (is.filters index req at) in
        let for_now = gives.gives (matches_in meaning) (taken ++ pairs) given
        (own.takes taken given own_for) in
        let on_now = ap (λ (y : Filter Cache). y.hands_on) rest ∙ own.hands_on ∙ on in
        let lower = given ++ pairs_of down in
        let m = matches_in meaning in
        let all = docs_in (taken ++ pairs) in
        let lower_small = all-part HasNumbersOf64Bits meaning.segment (docs_in lower) all
        (within-contains (docs_in lower) all
        (within-both (docs_in lower) (filter m all) all
        (given-matched m b (taken ++ pairs) lower on_now for_now) (matching-within m all)))
        small in
        ⊎_elim
        (λ low. many-below a (docs meaning (taken ++ pairs))
        (of-more meaning ctx below (below_of a) of.1 (docs meaning (given ++ pairs_of down))
        (uncut matches (agg_of a) (docs meaning (taken ++ pairs)))
        (subst (λ q. Lighter (docs meaning (given ++ pairs_of down))
        (uncut matches q (docs meaning (taken ++ pairs)))) (sym x.1)
        (filter-lighter (meaning.query_at index) meaning.segment x.0.query same b
        (taken ++ pairs) (given ++ pairs_of down) on_now for_now))
        (r.group low meaning is given lower_small visits under_for (below_of a) below of.1
        is_of.1)))
        (λ last. absurd (filter-last m b (taken ++ pairs) given down on_now for_now last))
        (low-or-last down filled)
    lower-node h (inl on) r meaning is taken small visits f name a
        (Plan.node kind.Composite i below) of is_of = absurd is_of
    lower-node h (inl on) r meaning is taken small visits f name a
        (Plan.node (kind.StatsKind computed) i below) of is_of = absurd is_of

    -- what is below a filter is refused too many documents
    pub filter-lower-many : (h : Held) → IsHandedTo old.hands_on h
        → ManyTaken ctx (pairs_of down) (map (λ batch. batch.bucket_id) down) h
        → ManyTaken ctx pairs parents (Held.filter index old h)
    filter-lower-many h handed r = record {
      some = λ e. absurd (cc e);
      node = λ low. lower-node h handed r;
      group = λ low meaning is taken small visits f request plans of is_of. absurd is_of;
    }
