-- Why a filter with what is below it, a metric or several trees refuse documents.
use Rattle.std.proofs.Common.{◌≡◌, ◌<◌, ◌++◌, ◌⊎◌, ℕ, List, [], ◌∷◌, true, Some, inl, inr, Err, map}
use Rattle.std.proofs.Common.{get_or}
use Rattle.std.proofs.Common.{length, zero, suc, filter, ap, ◌∙◌, ⊎_elim, arith}
use Rattle.std.specs.Prelude.{slice_get}
use Rattle.std.specs.List.{All}
use Rattle.agg_cache.specs.Waiting.{pairs_of}
use Rattle.agg_cache.specs.declared.cache.Batch.{Batch}
use Rattle.agg_cache.specs.declared.error.CollectError.{CollectError}
use Rattle.agg_cache.specs.declared.error.CollectError.TheVariants as refusal
use Rattle.agg_segment.specs.Marks.{AreMarks}
use Rattle.agg_segment.specs.Query.{matches}
use Rattle.agg_segment.specs.Segment.{Stored}
use Rattle.agg_segment.specs.declared.query.QueryTree.{QueryTree}
use Rattle.agg_composite.specs.buckets.Visits.{Within, docs_in}
use Rattle.agg_filter.specs.Filter.{Filter, FilterFor, FilterGives}
use Rattle.agg_filter.specs.Matching.{is_matching}
use Rattle.agg_filter.specs.declared.request_data.FilterAggReqData.{FilterAggReqData}
use Rattle.agg_metric.specs.Collector.{Metric}
use Rattle.agg_metric.specs.declared.request_data.MetricAggReqData.{MetricAggReqData}
use Rattle.agg_engine_tree.specs.segment_context.Context.{IsMeant, Meaning}
use Rattle.agg_engine_tree.specs.declared.segment_context.context.PerRequestAggSegCtx.{
  PerRequestAggSegCtx,
}
use Rattle.agg_engine_tree.specs.declared.collector_tree.tree.SegmentCollectorTree as declared
use declared.{SegmentCollectorTree as Tree}
use Rattle.agg_engine_tree.specs.collector_tree.Refusals.{HasStartOutOfRange, IsRefused, RangeTaken}
use Rattle.agg_engine_tree.specs.collector_tree.Refusals.{SomeHasStart, TakesInRange}
use Rattle.agg_engine_tree.specs.collector_tree.Took.{FilterAnswers, FilterTook, MetricAnswers}
use Rattle.agg_engine_tree.specs.collector_tree.Caches.{Cache}
use Rattle.agg_engine_tree.specs.collector_tree.Tree.{AllFor, Held, IsHandedTo, group_of, held_of}
use Rattle.agg_engine_tree.specs.collector_tree.Caches.{waiting_in}
use Rattle.agg_engine_tree.specs.collector_tree.Tree.{helds_of}
use Rattle.agg_engine_tree.proofs.lemmas.collector_tree.ManyFilters.{filter-lower-many, filter-many}
use Rattle.agg_engine_tree.proofs.lemmas.collector_tree.ManyMetrics.{group-many, metric-many}
use Rattle.agg_engine_tree.proofs.lemmas.collector_tree.MatchedDocuments.{given-matched}
use Rattle.agg_engine_tree.proofs.lemmas.collector_tree.MatchedDocuments.{matching-within}
use Rattle.agg_engine_tree.proofs.lemmas.collector_tree.RefusedNodes.{nothing-ranges, nothing-start}
use Rattle.agg_engine_tree.proofs.lemmas.collector_tree.RefusedNodes.{start-part}
use Rattle.agg_engine_tree.proofs.lemmas.collector_tree.WithinLists.{within-both, within-contains}

-- an error that is neither of two
not-these : (error : CollectError) → (error ≡ refusal.TooMany → ⊥)
    → (error ≡ refusal.OutOfMemory → ⊥)
    → (error ≡ refusal.TooMany) ⊎ (error ≡ refusal.OutOfMemory) → ⊥
not-these error a b (inl e) = a e
not-these error a b (inr e) = b e

-- ---- filters

module _ (ctx : PerRequestAggSegCtx) (pairs : List (ℕ × ℕ)) (parents : List ℕ) (index : ℕ)
    (req : FilterAggReqData) (at : slice_get ctx.filter_req_data index ≡ Some req)
    (meant : (meaning : Meaning) × IsMeant meaning ctx) (old now : Filter Cache) where
  -- a filter refuses
  pub filter-refused : (h : Held) (error : CollectError)
      → ((tree : QueryTree) (segment : Stored) → AreMarks (matches tree) segment req.evaluator
      → FilterAnswers (is_matching tree segment) pairs parents old now (Err error))
      → IsRefused ctx pairs parents (Held.filter index old h) error
  filter-refused h refusal.BucketOutOfRange answers =
      absurd (not-these refusal.BucketOutOfRange (λ e. cc e) (λ e. cc e)
      (answers (meant.0.query_at index) meant.0.segment (meant.1.filters index req at)).errors)
  filter-refused h refusal.TooMany answers =
      filter-many ctx pairs parents index req at old now h answers
  filter-refused h refusal.OutOfMemory answers = tt
  filter-refused h (refusal.Aggregation limit) answers =
      not-these (refusal.Aggregation limit) (λ e. cc e) (λ e. cc e)
      (answers (meant.0.query_at index) meant.0.segment (meant.1.filters index req at)).errors
  filter-refused h refusal.CollectorFailed answers =
      not-these refusal.CollectorFailed (λ e. cc e) (λ e. cc e)
      (answers (meant.0.query_at index) meant.0.segment (meant.1.filters index req at)).errors

  module _ (took : (tree : QueryTree) (segment : Stored)
      → AreMarks (matches tree) segment req.evaluator
      → FilterTook (is_matching tree segment) pairs old now)
      (down : List Batch) (filled : All (λ batch. 0 < length batch.docs) down)
      (b : Filter Cache) (gives : FilterGives waiting_in down now b)
      (rest : b ≡ record now { cache = b.cache }) where
    -- the ids of the batches
    abbrev ids : List ℕ
    ids = map (λ batch. batch.bucket_id) down

    -- what it gave is within what it matched
    given-lower : (meaning : Meaning) → IsMeant meaning ctx → old.hands_on ≡ true
        → (taken given : List (ℕ × ℕ))
        → FilterFor waiting_in (is_matching (meaning.query_at index) meaning.segment) old taken
        given
        → Within (docs_in (given ++ pairs_of down))
        (filter (is_matching (meaning.query_at index) meaning.segment) (docs_in (taken ++ pairs)))
    given-lower meaning is on taken given f =
        let m = is_matching (meaning.query_at index) meaning.segment in
        let own = took (meaning.query_at index) meaning.segment (is.filters index req at) in
        given-matched m b (taken ++ pairs) (given ++ pairs_of down)
        (ap (λ (x : Filter Cache). x.hands_on) rest ∙ own.hands_on ∙ on)
        (gives.gives m (taken ++ pairs) given (own.takes taken given f))

    -- a start out of range in what it gave is one in what it took
    given-start : (meaning : Meaning) → IsMeant meaning ctx → old.hands_on ≡ true
        → (taken given : List (ℕ × ℕ))
        → FilterFor waiting_in (is_matching (meaning.query_at index) meaning.segment) old taken
        given
        → (h : Held) → HasStartOutOfRange meaning ctx h (docs_in (given ++ pairs_of down))
        → HasStartOutOfRange meaning ctx h (docs_in (taken ++ pairs))
    given-start meaning is on taken given own_for =
        let m = is_matching (meaning.query_at index) meaning.segment in
        start-part meaning ctx (docs_in (given ++ pairs_of down)) (docs_in (taken ++ pairs))
        (within-contains (docs_in (given ++ pairs_of down)) (docs_in (taken ++ pairs))
        (within-both (docs_in (given ++ pairs_of down)) (filter m (docs_in (taken ++ pairs)))
        (docs_in (taken ++ pairs)) (given-lower meaning is on taken given own_for)
        (matching-within m (docs_in (taken ++ pairs)))))

    lower-range : (h : Held) → IsHandedTo old.hands_on h → RangeTaken ctx (pairs_of down) ids h
        → RangeTaken ctx pairs parents (Held.filter index old h)
    lower-range h (inr none) r =
        absurd (nothing-ranges ctx (pairs_of down) ids meant.0 meant.1 h none r)
    lower-range h (inl on) r = record {
      range = λ meaning is taken visits (given, own_for, below_for).
          given-start meaning is on taken given own_for h
          (r.range meaning is given visits below_for);
    }

    -- where a filter takes documents in range, so does what is below it
    pub filter-lower-in_range : (h : Held) → IsHandedTo old.hands_on h
        → TakesInRange ctx pairs (Held.filter index old h) → TakesInRange ctx (pairs_of down) h
    filter-lower-in_range h handed t =
        let (given, own_for, below_for) = t.right in
        record {
          meaning = t.meaning;
          meant = t.meant;
          taken = given;
          visits = t.visits;
          right = below_for;
          range = ⊎_elim
              (λ on out. t.range (given-start t.meaning t.meant on t.taken given own_for h out))
              (λ none. nothing-start t.meaning ctx (docs_in (given ++ pairs_of down)) h none)
              handed;
        }

    -- what is below a filter refuses what it gave
    pub filter-lower : (h : Held) → IsHandedTo old.hands_on h → (error : CollectError)
        → IsRefused ctx (pairs_of down) ids h error
        → IsRefused ctx pairs parents (Held.filter index old h) error
    filter-lower h handed refusal.BucketOutOfRange r = lower-range h handed r
    filter-lower h handed refusal.TooMany r =
        filter-lower-many ctx pairs parents index req at old now took down filled b gives rest h
        handed r
    filter-lower h handed refusal.OutOfMemory r = tt
    filter-lower h handed (refusal.Aggregation limit) r = r
    filter-lower h handed refusal.CollectorFailed r = r

-- ---- metrics

pub metric-refused : (ctx : PerRequestAggSegCtx) (pairs : List (ℕ × ℕ)) (parents : List ℕ)
    (index : ℕ) (req : MetricAggReqData) → slice_get ctx.stats_metric_req_data index ≡ Some req
    → (old now : Metric) (error : CollectError) → MetricAnswers pairs old now (Err error)
    → IsRefused ctx pairs parents (Held.metric index old) error
metric-refused ctx pairs parents index req at old now refusal.BucketOutOfRange a =
    absurd (not-these refusal.BucketOutOfRange (λ e. cc e) (λ e. cc e) a.errors)
metric-refused ctx pairs parents index req at old now refusal.TooMany a =
    metric-many ctx pairs parents index req at old now a
metric-refused ctx pairs parents index req at old now refusal.OutOfMemory a = tt
metric-refused ctx pairs parents index req at old now (refusal.Aggregation limit) a =
    not-these (refusal.Aggregation limit) (λ e. cc e) (λ e. cc e) a.errors
metric-refused ctx pairs parents index req at old now refusal.CollectorFailed a =
    not-these refusal.CollectorFailed (λ e. cc e) (λ e. cc e) a.errors

-- ---- several

module _ (ctx : PerRequestAggSegCtx) (pairs : List (ℕ × ℕ)) (parents : List ℕ) where
  some-range : (meaning : Meaning) → IsMeant meaning ctx → (trees : List Tree) (i : ℕ) (d : Tree)
      → i < length trees → RangeTaken ctx pairs parents (held_of (get_or trees i d))
      → (taken : List (ℕ × ℕ)) (visits : ℕ)
      → AllFor meaning ctx (helds_of (map held_of trees)) taken visits
      → SomeHasStart meaning ctx (helds_of (map held_of trees)) (docs_in (taken ++ pairs))
  some-range meaning is [] i d l r taken visits f = absurd (omega arith)
  some-range meaning is (t ∷ trees) zero d l r taken visits (own, others, one, rest, sum) =
      inl (r.range meaning is taken own one)
  some-range meaning is (t ∷ trees) (suc i) d l r taken visits (own, others, one, rest, sum) =
      inr (some-range meaning is trees i d (omega arith) r taken others rest)

  -- one of several refuses
  pub group-refused : (trees : List Tree) (i : ℕ) (d : Tree) → i < length trees
      → (error : CollectError) → IsRefused ctx pairs parents (held_of (get_or trees i d)) error
      → IsRefused ctx pairs parents (group_of trees) error
  group-refused trees i d l refusal.BucketOutOfRange r = record {
    range = λ meaning is taken visits f. some-range meaning is trees i d l r taken visits f;
  }
  group-refused trees i d l refusal.TooMany r = group-many ctx pairs parents trees i d l r
  group-refused trees i d l refusal.OutOfMemory r = tt
  group-refused trees i d l (refusal.Aggregation limit) r = r
  group-refused trees i d l refusal.CollectorFailed r = r
