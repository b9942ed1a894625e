-- A metric refuses too many values, and one of several trees too many documents.
use Rattle.std.proofs.Common.{◌≡◌, ◌<◌, ◌≤◌, ◌^◌, ◌++◌, ℕ, List, [], ◌∷◌, Bool, true, false}
use Rattle.std.proofs.Common.{Some, Err, map}
use Rattle.std.proofs.Common.{if◌then◌else◌, get_or, length, length-append, zero, suc, refl, sym}
use Rattle.std.proofs.Common.{ap, ◌∙◌, subst, arith}
use Rattle.std.specs.Prelude.{slice_get}
use Rattle.std.specs.List.{All, filter_map, flat_map}
use Rattle.std.proofs.lemmas.List.Elements.{filter_map-append}
use Rattle.agg_cache.specs.Waiting.{docs_of, is_id}
use Rattle.agg_cache.specs.declared.error.CollectError.TheVariants as refusal
use Rattle.agg_segment.specs.storage.Document.{Fields, HasNumbersOf64Bits}
use Rattle.agg_segment.specs.Query.{matches}
use Rattle.agg_segment.specs.Segment.{documents_at}
use Rattle.agg_segment.specs.declared.query.QueryTree.{QueryTree}
use Rattle.agg_request_tree.specs.Metrics.{number_of, values_of_field}
use Rattle.agg_request_tree.specs.Request.{Request, agg_of}
use Rattle.agg_request_tree.specs.Uncut.{CountsTooMany, once_each, uncut}
use Rattle.agg_request_tree.specs.declared.aggregation.Aggregation.{Aggregation}
use Rattle.agg_request_tree.specs.declared.aggregation.AggregationVariants.{AggregationVariants}
use Rattle.agg_request_tree.specs.declared.aggregation.AggregationVariants.TheVariants as asks
use Rattle.agg_request_tree.proofs.UncutLength.{length-each}
use Rattle.agg_composite.specs.buckets.Visits.{Within, docs_in, weight}
use Rattle.agg_composite.proofs.lemmas.buckets.Labels.{weight-append}
use Rattle.agg_metric.specs.Collector.{Metric, MetricFor, values_under}
use Rattle.agg_metric.specs.Metric.{IsTooMany}
use Rattle.agg_metric.specs.declared.request_data.MetricAggReqData.{MetricAggReqData}
use Rattle.agg_metric.specs.declared.request_data.StatsType.{StatsType}
use Rattle.agg_metric.specs.declared.request_data.StatsType.TheVariants as stats
use Rattle.agg_engine_tree.specs.segment_context.Context.{ArePlansOf, IsAskedAt, IsMeant}
use Rattle.agg_engine_tree.specs.segment_context.Context.{IsMetricAt, IsPlanOf, Meaning}
use Rattle.agg_engine_tree.specs.segment_context.Plan.{Plan, Plans}
use Rattle.agg_engine_tree.specs.declared.segment_context.context.PerRequestAggSegCtx.{
  PerRequestAggSegCtx,
}
use Rattle.agg_engine_tree.specs.declared.segment_context.node.AggKind.TheVariants as kind
use Rattle.agg_engine_tree.specs.declared.collector_tree.tree.SegmentCollectorTree as declared
use declared.{SegmentCollectorTree as Tree}
use Rattle.agg_engine_tree.specs.collector_tree.Refusals.{AreNotLast, ListsTooMany, ManyTaken}
use Rattle.agg_engine_tree.specs.collector_tree.Took.{MetricAnswers}
use Rattle.agg_engine_tree.specs.collector_tree.Tree.{nothing}
use Rattle.agg_engine_tree.specs.collector_tree.Tree.{AllFor, AreOf, Held, IsOf, group_of, held_of}
use Rattle.agg_engine_tree.specs.collector_tree.Tree.{helds_of}
use Rattle.agg_engine_tree.proofs.lemmas.collector_tree.Levels.{no-node}
use Rattle.agg_engine_tree.proofs.lemmas.collector_tree.ManyLists.{many-first, many-others}
use Rattle.agg_engine_tree.proofs.lemmas.collector_tree.ManyLists.{many-own}
use Rattle.agg_engine_tree.proofs.lemmas.collector_tree.SmallNumbers.{all-part, many-numbers}
use Rattle.agg_engine_tree.proofs.lemmas.collector_tree.WithinLists.{within-contains}
use Rattle.agg_engine_tree.proofs.lemmas.collector_tree.UncutParts.{lighter-length, lighter-uncut}
use Rattle.agg_engine_tree.proofs.lemmas.collector_tree.UncutParts.{lighter-within}

-- ---- values

label-less : (b : Bool) (f : ℕ → ℕ) (d : ℕ)
    → weight f (if b then d ∷ [] else []) ≤ f d
label-less true f d = omega arith
label-less false f d = omega arith

-- the documents of a label are within all
label-within : {A : Type 0} (t : A → Bool) (xs : List (A × ℕ)) → Within (docs_of t xs) (docs_in xs)
label-within t [] = record { lighter = λ f. omega arith }
label-within t (e ∷ xs) = record {
  lighter = λ f. omega (
    arith,
    weight-append f (if t e.0 then e.1 ∷ [] else []) (docs_of t xs),
    label-less (t e.0) f e.1,
    (label-within t xs).lighter f,
  );
}

numbers-each : (field : List ℕ) (documents : List Fields)
    → filter_map number_of (values_of_field field documents)
    ≡ flat_map (λ d. filter_map number_of (d field)) documents
numbers-each field [] = refl
numbers-each field (d ∷ documents) =
    filter_map-append number_of (d field) (values_of_field field documents)
    ∙ ap (λ ns. filter_map number_of (d field) ++ ns) (numbers-each field documents)

module _ (meaning : Meaning) (ctx : PerRequestAggSegCtx) (taken : List (ℕ × ℕ))
    (small : All HasNumbersOf64Bits (documents_at meaning.segment (docs_in taken))) (parent : ℕ)
  where
    abbrev docs : List Fields
    docs = documents_at meaning.segment (docs_in taken)

    abbrev own : List Fields
    own = documents_at meaning.segment (docs_of (is_id parent) taken)

    -- the list of the documents under a parent is no longer than that of all
    uncut-fewer : (asked : AggregationVariants QueryTree)
        → length (uncut matches asked own) ≤ length (uncut matches asked docs)
    uncut-fewer asked =
        lighter-length (uncut matches asked own) (uncut matches asked docs)
        (lighter-uncut matches asked own docs
        (lighter-within meaning.segment (docs_of (is_id parent) taken) (docs_in taken)
        (label-within (is_id parent) taken)))

    count-long : (field : List ℕ) → IsTooMany stats.Count (values_under meaning.segment field parent
        taken)
        → 2 ^ 32 ≤ length (once_each (λ d. d field) own)
    count-long field (first, rest, split, long) = omega (
      arith,
      long,
      ap length split,
      length-append first rest,
      length-each (λ (d : Fields). d field) own,
    )

    sum-long : (field : List ℕ) → IsTooMany stats.Sum (values_under meaning.segment field parent
        taken)
        → 2 ^ 32 ≤ length (once_each (λ d. filter_map number_of (d field)) own)
    sum-long field many = omega (
      arith,
      many-numbers field own (all-part HasNumbersOf64Bits meaning.segment (docs_of (is_id parent)
          taken)
          (docs_in taken) (within-contains (docs_of (is_id parent) taken) (docs_in taken)
          (label-within (is_id parent) taken)) small) many,
      ap length (numbers-each field own),
      length-each (λ (d : Fields). filter_map number_of (d field)) own,
    )

    -- what is computed of the field that is asked for
    moved : (name field : List ℕ) (computed : StatsType) (index : ℕ)
        → IsMetricAt meaning ctx name computed field index → (req : MetricAggReqData)
        → slice_get ctx.stats_metric_req_data index ≡ Some req
        → IsTooMany req.collecting_for (values_under meaning.segment req.field parent taken)
        → IsTooMany computed (values_under meaning.segment field parent taken)
    moved name field computed index x req at many =
        let one : req ≡ x.0 = cc (at, x.1) in
        let reads = ap (λ (r : MetricAggReqData). r.field) one ∙ x.3 in
        let computes = ap (λ (r : MetricAggReqData). r.collecting_for) one ∙ x.4 in
        subst (λ k. IsTooMany k (values_under meaning.segment field parent taken)) computes
        (subst (λ f. IsTooMany req.collecting_for (values_under meaning.segment f parent taken))
        reads
        many)

    -- too many values of a parent are a list that is too long
    metric-long : (name : List ℕ) (asked_for : AggregationVariants QueryTree) (computed : StatsType)
        (index : ℕ) → IsAskedAt meaning ctx name asked_for (kind.StatsKind computed) index
        → (req : MetricAggReqData) → slice_get ctx.stats_metric_req_data index ≡ Some req
        → IsTooMany req.collecting_for (values_under meaning.segment req.field parent taken)
        → 2 ^ 32 ≤ length (uncut matches asked_for own)
    metric-long name (asks.Composite a) stats.Count index asked req at many = absurd asked
    metric-long name (asks.Composite a) stats.Max index asked req at many = absurd asked
    metric-long name (asks.Composite a) stats.Min index asked req at many = absurd asked
    metric-long name (asks.Composite a) stats.Sum index asked req at many = absurd asked
    metric-long name (asks.Filter a) stats.Count index asked req at many = absurd asked
    metric-long name (asks.Filter a) stats.Max index asked req at many = absurd asked
    metric-long name (asks.Filter a) stats.Min index asked req at many = absurd asked
    metric-long name (asks.Filter a) stats.Sum index asked req at many = absurd asked
    metric-long name (asks.Count a) stats.Count index asked req at many =
        omega (arith, count-long a.field (moved name a.field stats.Count index asked req at many))
    metric-long name (asks.Count a) stats.Max index asked req at many = absurd asked
    metric-long name (asks.Count a) stats.Min index asked req at many = absurd asked
    metric-long name (asks.Count a) stats.Sum index asked req at many = absurd asked
    metric-long name (asks.Max a) stats.Count index asked req at many = absurd asked
    metric-long name (asks.Max a) stats.Max index asked req at many =
        absurd (moved name a.field stats.Max index asked req at many).3
    metric-long name (asks.Max a) stats.Min index asked req at many = absurd asked
    metric-long name (asks.Max a) stats.Sum index asked req at many = absurd asked
    metric-long name (asks.Min a) stats.Count index asked req at many = absurd asked
    metric-long name (asks.Min a) stats.Max index asked req at many = absurd asked
    metric-long name (asks.Min a) stats.Min index asked req at many =
        absurd (moved name a.field stats.Min index asked req at many).3
    metric-long name (asks.Min a) stats.Sum index asked req at many = absurd asked
    metric-long name (asks.Sum a) stats.Count index asked req at many = absurd asked
    metric-long name (asks.Sum a) stats.Max index asked req at many = absurd asked
    metric-long name (asks.Sum a) stats.Min index asked req at many = absurd asked
    metric-long name (asks.Sum a) stats.Sum index asked req at many =
        omega (arith, sum-long a.field (moved name a.field stats.Sum index asked req at many))

-- ---- metrics

module _ (ctx : PerRequestAggSegCtx) (pairs : List (ℕ × ℕ)) (parents : List ℕ) (index : ℕ)
    (req : MetricAggReqData) (at : slice_get ctx.stats_metric_req_data index ≡ Some req)
    (old now : Metric) (answers : MetricAnswers pairs old now (Err refusal.TooMany)) where
  metric-node : (meaning : Meaning) (taken : List (ℕ × ℕ))
      → All HasNumbersOf64Bits (documents_at meaning.segment (docs_in (taken ++ pairs)))
      → MetricFor meaning.segment req old taken → (name : List ℕ) (a : Aggregation QueryTree)
      (plan : Plan) → IsPlanOf meaning ctx name a plan → IsOf plan (Held.metric index old)
      → ListsTooMany a (documents_at meaning.segment (docs_in (taken ++ pairs)))
  metric-node meaning taken small f name a (Plan.node (kind.StatsKind computed) i below) of is =
      let many = answers.many refl meaning.segment req taken f in
      let all = taken ++ pairs in
      let same : index ≡ i = sym is in
      let at_i : slice_get ctx.stats_metric_req_data i ≡ Some req =
      ap (slice_get ctx.stats_metric_req_data) (sym same) ∙ at in
      many-own a (documents_at meaning.segment (docs_in all)) (omega (
        arith,
        metric-long meaning ctx all small many.0 name (agg_of a) computed i of.0 req at_i many.1,
        uncut-fewer meaning ctx all small many.0 (agg_of a),
      ))
  metric-node meaning taken small f name a (Plan.node kind.Composite i below) of is = absurd is
  metric-node meaning taken small f name a (Plan.node kind.Filter i below) of is = absurd is

  -- a metric is refused too many values
  pub metric-many : ManyTaken ctx pairs parents (Held.metric index old)
  metric-many = record {
    some = λ e. absurd (cc e);
    node = λ low meaning is taken small visits f name a plan.
        metric-node meaning taken small (f.0 req at) name a plan;
    group = λ low meaning is taken small visits f request plans of is_of. absurd is_of;
  }

-- ---- several

module _ (ctx : PerRequestAggSegCtx) (pairs : List (ℕ × ℕ)) (parents : List ℕ) where
  group-at : (trees : List Tree) (i : ℕ) (d : Tree) → i < length trees
      → ManyTaken ctx pairs parents (held_of (get_or trees i d))
      → AreNotLast parents → (meaning : Meaning) → IsMeant meaning ctx → (taken : List (ℕ × ℕ))
      → All HasNumbersOf64Bits (documents_at meaning.segment (docs_in (taken ++ pairs)))
      → (visits : ℕ)
      → AllFor meaning ctx (helds_of (map held_of trees)) taken visits
      → (request : Request QueryTree) (plans : Plans) → ArePlansOf meaning ctx request plans
      → AreOf plans (helds_of (map held_of trees))
      → CountsTooMany matches request (documents_at meaning.segment (docs_in (taken ++ pairs)))
  group-at [] i d l r low meaning is taken small visits f request plans of is_of =
      absurd (omega (arith, l))
  group-at (t ∷ trees) i d l r low meaning is taken small visits f request Plans.none of is_of =
      absurd is_of
  group-at (t ∷ trees) i d l r low meaning is taken small visits f [] (Plans.more plan plans) of
      is_of = absurd of
  group-at (t ∷ trees) zero d l r low meaning is taken small visits (own, others, one, rest, sum)
      (a ∷ request) (Plans.more plan plans) of is_of =
      many-first a.0 a.1 request (documents_at meaning.segment (docs_in (taken ++ pairs)))
      (r.node low meaning is taken small own one a.0 a.1 plan of.0 is_of.0)
  group-at (t ∷ trees) (suc i) d l r low meaning is taken small visits
      (own, others, one, rest, sum) (a ∷ request) (Plans.more plan plans) of is_of =
      many-others a.0 a.1 request (documents_at meaning.segment (docs_in (taken ++ pairs)))
      (group-at trees i d (omega (arith, l)) r
      low meaning is taken small others rest request plans of.1 is_of.1)

  -- several of which there is one are not nothing
  some-tree : (trees : List Tree) (i : ℕ) (d : Tree) → i < length trees
      → ¬ (group_of trees ≡ nothing)
  some-tree [] i d l e = omega (arith, l)
  some-tree (t ∷ trees) i d l e = cc e

  -- one of several is refused too many documents
  pub group-many : (trees : List Tree) (i : ℕ) (d : Tree) → i < length trees
      → ManyTaken ctx pairs parents (held_of (get_or trees i d))
      → ManyTaken ctx pairs parents (group_of trees)
  group-many trees i d l r = record {
    some = some-tree trees i d l;
    node = λ low meaning is taken small visits f name a plan of is_of.
        absurd (no-node plan (helds_of (map held_of trees)) is_of);
    group = λ low meaning is taken small visits f.
        group-at trees i d l r low meaning is taken small visits f;
  }
