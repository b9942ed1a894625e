-- What the nodes of a request list: documents, without bound or size.
use Rattle.std.specs.Prelude.{◌≤◌, ◌^◌, ℕ, List, ◌∷◌, Any, Bool, filter_map, length, map}
use Rattle.std.specs.List.{flat_map}
use Rattle.agg_segment.specs.storage.Document.{Fields}
use Rattle.agg_request_tree.specs.declared.aggregation.Aggregation.{Aggregation}
use Rattle.agg_request_tree.specs.declared.aggregation.Aggregation.TheOpen.{Aggregation-F}
use Rattle.agg_request_tree.specs.declared.aggregation.Aggregation.TheFolds.{fold-Aggregation}
use Rattle.agg_request_tree.specs.declared.aggregation.AggregationVariants as variants
use variants.{AggregationVariants}
use variants.TheVariants.{Filter, Composite, Count, Max, Min, Sum}
use Rattle.agg_request_tree.specs.declared.aggregation.CompositeAggregation.{CompositeAggregation}
use Rattle.agg_request_tree.specs.Matching.{matching}
use Rattle.agg_request_tree.specs.Metrics.{number_of}
use Rattle.agg_request_tree.specs.Occurrences.{occurrences}
use Rattle.agg_request_tree.specs.Request.{Request}

-- each document, once for each element that it gives
abbrev pub once_each : {X : Type 0} → (Fields → List X) → List Fields → List Fields
once_each elements documents = flat_map (λ d. map (λ x. d) (elements d)) documents

-- the documents that a composite counts: each once for each of its occurrences
abbrev pub counted : CompositeAggregation → List Fields → List Fields
counted composite documents = once_each (occurrences composite.sources) documents

module _ {B : Type 0} (is_match : B → Fields → Bool) where
  -- the documents that an aggregation lists: those that a filter matches, those that a composite
  -- counts, and of a metric each once for each value that it reads
  abbrev pub uncut : AggregationVariants B → List Fields → List Fields
  uncut (Filter filter) documents = matching is_match filter.query documents
  uncut (Composite composite) documents = counted composite documents
  uncut (Count metric) documents = once_each (λ d. d metric.field) documents
  uncut (Max metric) documents = once_each (λ d. filter_map number_of (d metric.field)) documents
  uncut (Min metric) documents = once_each (λ d. filter_map number_of (d metric.field)) documents
  uncut (Sum metric) documents = once_each (λ d. filter_map number_of (d metric.field)) documents

  -- the list of a node, and those of the nodes below it, which are taken over the node's own
  abbrev pub uncut_step : Aggregation-F B (List Fields → List (List Fields)) → List Fields
      → List (List Fields)
  uncut_step a documents =
      uncut a.agg documents
      ∷ flat_map (λ below. below.1 (uncut a.agg documents)) a.sub_aggregation

  -- the list of an aggregation, and those of all aggregations at any depth below it
  abbrev pub uncut_lists : Aggregation B → List Fields → List (List Fields)
  uncut_lists = fold-Aggregation B (List Fields → List (List Fields)) uncut_step

  -- the lists of the aggregations of a request, at any depth
  abbrev pub uncut_lists_of : Request B → List Fields → List (List Fields)
  uncut_lists_of request documents = flat_map (λ a. uncut_lists a.1 documents) request

  -- some aggregation of a request, at any depth, lists so many documents
  abbrev pub ListsAsMany : ℕ → Request B → List Fields → Type 0
  ListsAsMany limit request documents =
      Any (λ list. limit ≤ length list) (uncut_lists_of request documents)

  -- one lists 2^32 documents or more, which are too many
  abbrev pub CountsTooMany : Request B → List Fields → Type 0
  CountsTooMany request documents = ListsAsMany (2 ^ 32) request documents
