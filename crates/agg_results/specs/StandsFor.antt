-- What intermediate results stand for: lists of documents. An aggregation has others below it, so
-- what its result stands for is told down to a depth, and results stand for documents where they do
-- at every depth.
use Rattle.std.specs.Prelude.{◌≡◌, ◌≤◌, ◌<◌, ◌⊎◌, ◌∷◌, ℕ, zero, suc, List, [], Option, None, Some}
use Rattle.std.specs.Prelude.{All, Bool, Contains, IsTrue, length, map, take, ⊤}
use Rattle.std.specs.Int.{int_max, int_min}
use Rattle.std.specs.List.Sorted.{IsStrictlySortedBy}
use Rattle.std.specs.Map.{keys_of}
use Rattle.agg_values.specs.KeyOrder.{tuple_order}
use Rattle.agg_values.specs.Names.{value_of}
use Rattle.agg_values.specs.Tuple.{KeyTuple}
use Rattle.agg_segment.specs.storage.Document.{Fields}
use Rattle.agg_request_tree.specs.Groups.{Group}
use Rattle.agg_request_tree.specs.Matching.{matching}
use Rattle.agg_request_tree.specs.Metrics.{best_of, numbers_of, sum_of, values_of_field}
use Rattle.agg_request_tree.specs.Occurrences.{bound_of, is_past}
use Rattle.agg_request_tree.specs.Page.{IsPage, count_in, documents_with, entry_of}
use Rattle.agg_request_tree.specs.Request.{Request, agg_of, below_of}
use Rattle.agg_request_tree.specs.Source.{Sources, rules_of}
use Rattle.agg_request_tree.specs.declared.aggregation.Aggregation.{Aggregation}
use Rattle.agg_request_tree.specs.declared.aggregation.AggregationVariants.{AggregationVariants}
use Rattle.agg_request_tree.specs.declared.aggregation.AggregationVariants.TheVariants as asks
use Rattle.agg_request_tree.specs.declared.aggregation.CompositeAggregation.{CompositeAggregation}
use Rattle.agg_results.specs.declared.metric_results.metric.IntermediateMetricResult as metrics
use metrics.{IntermediateMetricResult}
use metrics.TheVariants as m
use Rattle.agg_results.specs.intermediate_results.Intermediate.{Held, Parts, TupleEntry}
use Rattle.agg_results.specs.intermediate_results.Intermediate.{below_entry, composite, counts_of}
use Rattle.agg_results.specs.intermediate_results.Intermediate.{entries_of, filter, metric}
use Rattle.agg_results.specs.intermediate_results.Intermediate.{orders_of, parts_of, target_size_of}
use Rattle.agg_results.specs.declared.intermediate_results as declared
use declared.composite.IntermediateCompositeBucketResult.{IntermediateCompositeBucketResult}
use declared.results.IntermediateAggregationResult.{IntermediateAggregationResult}

-- ---- groups

-- groups that stand for documents: the lowest, as many as the size, are the page with its exact
-- counts, and each is past the bound and counts one or more of its tuple's occurrences
pub record GroupsStandFor (sources : Sources) (size : ℕ) (bound : KeyTuple)
    (documents : List Fields) (groups : List Group) : Type 0 where
  pub ascending : IsStrictlySortedBy (tuple_order (rules_of sources)) (keys_of groups)
  pub page : IsPage sources size bound documents
      (map (entry_of sources documents) (take size groups))
  pub past : All (λ g. IsTrue (is_past (rules_of sources) bound g.0)) groups
  pub some : All (λ g. (0 < g.1) × (g.1 ≤ count_in sources documents g.0)) groups

-- ---- metrics

-- the result of a metric over documents
abbrev pub MetricStands : {B : Type 0} → AggregationVariants B → List Fields
    → IntermediateMetricResult → Type 0
MetricStands (asks.Count a) documents (m.Count r) =
    r.count ≡ length (values_of_field a.field documents)
MetricStands (asks.Max a) documents (m.Max r) =
    r.value ≡ best_of int_max (numbers_of a.field documents)
MetricStands (asks.Min a) documents (m.Min r) =
    r.value ≡ best_of int_min (numbers_of a.field documents)
MetricStands (asks.Sum a) documents (m.Sum r) = r.sum ≡ sum_of (numbers_of a.field documents)
MetricStands a documents r = ⊥

-- ---- composites

-- the first list is the second with some elements left out
abbrev pub IsPart : {X : Type 0} → List X → List X → Type 0
IsPart [] ys = ⊤
IsPart (x ∷ xs) [] = ⊥
IsPart (x ∷ xs) (y ∷ ys) = ((x ≡ y) × IsPart xs ys) ⊎ IsPart (x ∷ xs) ys

-- a composite's result has the request's size and orders, or it holds nothing and has no size
abbrev pub HasShapeOf : CompositeAggregation → IntermediateCompositeBucketResult → Type 0
HasShapeOf asked c =
    ((target_size_of c ≡ asked.size) × (orders_of c ≡ rules_of asked.sources))
    ⊎ ((target_size_of c ≡ 0) × (entries_of c ≡ []))

module _ (Below : List Fields → Held → Type 0) where
  -- what is below an entry stands for as many documents of its tuple as it counts
  abbrev pub EntryStands : Sources → List Fields → TupleEntry → Type 0
  EntryStands sources documents e =
      (part : List Fields) × IsPart part (documents_with sources documents e.0)
      × (length part ≡ e.1.doc_count) × Below part (below_entry e.1)

  -- a composite's result stands for documents
  pub record CompositeStands (asked : CompositeAggregation) (documents : List Fields)
      (c : IntermediateCompositeBucketResult) : Type 0 where
    pub shape : HasShapeOf asked c
    pub groups : GroupsStandFor asked.sources asked.size (bound_of asked.sources asked.after)
        documents (counts_of (entries_of c))
    pub subs : All (EntryStands asked.sources documents) (entries_of c)

-- ---- a request

module _ {B : Type 0} (is_match : B → Fields → Bool) where
  -- results by name stand for documents, by what those of one name stand for; no other is held
  pub record NamesStand (Stands : Aggregation B → List Fields → Option IntermediateAggregationResult
      → Type 0) (request : Request B) (documents : List Fields) (held : Held) : Type 0 where
    pub each : All (λ a. Stands a.1 documents (value_of a.0 held)) request
    pub known : All (λ name. Contains (keys_of request) name) (keys_of held)

  module _ (Below : Request B → List Fields → Held → Type 0) where
    -- a result stands for documents, by its parts
    abbrev pub PartsStand : AggregationVariants B → Request B → List Fields → Parts → Type 0
    PartsStand (asks.Filter a) below documents (filter count whole) =
        (count ≡ length (matching is_match a.query documents))
        × Below below (matching is_match a.query documents) whole
    PartsStand (asks.Composite a) below documents (composite c) =
        CompositeStands (Below below) a documents c
    PartsStand a below documents (metric r) = MetricStands a documents r
    PartsStand a below documents r = ⊥

    -- the result of an aggregation, if it is held; an absent one stands for no documents
    abbrev pub ResultStands : Aggregation B → List Fields → Option IntermediateAggregationResult
        → Type 0
    ResultStands a documents None = documents ≡ []
    ResultStands a documents (Some r) =
        PartsStand (agg_of a) (below_of a) documents (parts_of r)

  -- the result of an aggregation stands for documents, down to a depth
  abbrev pub StandsTo : ℕ → Aggregation B → List Fields → Option IntermediateAggregationResult
      → Type 0
  StandsTo zero a documents r = ⊤
  StandsTo (suc depth) a documents r = ResultStands (NamesStand (StandsTo depth)) a documents r

  -- results stand for documents under a request, at every depth
  abbrev pub StandsFor : Request B → List Fields → Held → Type 0
  StandsFor request documents held =
      (depth : ℕ) → NamesStand (StandsTo depth) request documents held
