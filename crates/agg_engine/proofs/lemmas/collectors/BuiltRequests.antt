-- A request with the trees that its builders made in their place: what is said of it is said of the
-- request.
use Rattle.std.proofs.Common.{◌≡◌, ℕ, zero, suc, List, Bool, Option, None, Some}
use Rattle.std.proofs.Common.{length, refl, ap, ◌∙◌, sym, subst}
use Rattle.std.specs.List.{All}
use Rattle.std.specs.Prelude.{Contains}
use Rattle.std.specs.Map.{keys_of}
use Rattle.std.proofs.lemmas.List.Elements.{All-weaker, filter_agree}
use Rattle.std.proofs.lemmas.Map.Made.{keys_of-map_values}
use Rattle.agg_values.specs.Names.{value_of}
use Rattle.agg_segment.specs.storage.Document.{Fields}
use Rattle.agg_segment.specs.Query.{matches}
use Rattle.agg_segment.specs.declared.query.QueryTree.{QueryTree}
use Rattle.agg_request_tree.specs.Matching.{filter_matches, matching}
use Rattle.agg_request_tree.specs.Request.{Request, agg_of, below_of}
use Rattle.agg_request_tree.specs.Request.{with_builders, with_builders_in, with_own_builder}
use Rattle.agg_request_tree.specs.Request.{with_query_builder}
use Rattle.agg_request_tree.specs.declared.aggregation.Aggregation.{Aggregation}
use Rattle.agg_request_tree.specs.declared.aggregation.AggregationVariants as variants
use variants.{AggregationVariants}
use variants.TheVariants.{Filter, Composite, Count, Max, Min, Sum}
use Rattle.agg_request_tree.specs.declared.aggregation.filter.FilterQuery.{FilterQuery}
use Rattle.agg_request_tree.specs.declared.aggregation.filter.FilterQuery.TheVariants as by
use by.{Tree, CustomBuilder}
use Rattle.agg_request_tree.proofs.Lists.{All-from_map}
use Rattle.agg_engine_tree.proofs.lemmas.segment_context.Built.{agg-built, below-built}
use Rattle.agg_results.specs.declared.metric_results.metric.IntermediateMetricResult as metrics
use metrics.{IntermediateMetricResult}
use metrics.TheVariants as m
use Rattle.agg_results.specs.intermediate_results.Intermediate.{Held, Parts, TupleEntry}
use Rattle.agg_results.specs.intermediate_results.Intermediate.{below_entry, composite, entries_of}
use Rattle.agg_results.specs.intermediate_results.Intermediate.{filter, metric, parts_of}
use Rattle.agg_results.specs.declared.intermediate_results.results.IntermediateAggregationResult
    as held
use held.{IntermediateAggregationResult}
use Rattle.agg_results.specs.StandsFor.{EntryStands, MetricStands, NamesStand, PartsStand}
use Rattle.agg_results.specs.StandsFor.{StandsFor, StandsTo}

module _ {B : Type 0} (is_match : B → Fields → Bool) (of : B → QueryTree)
    (built : (b : B) (d : Fields) → is_match b d ≡ matches (of b) d) where
  -- ---- filters

  same-filter : (q : FilterQuery B) (d : Fields)
      → filter_matches matches (with_query_builder of q) d ≡ filter_matches is_match q d
  same-filter (Tree tree) d = refl
  same-filter (CustomBuilder b) d = sym (built b d)

  -- a built filter matches the same documents
  pub same-matching : (q : FilterQuery B) (documents : List Fields)
      → matching matches (with_query_builder of q) documents ≡ matching is_match q documents
  same-matching q documents =
      filter_agree (filter_matches matches (with_query_builder of q)) (filter_matches is_match q)
      (same-filter q) documents

  -- ---- results

  -- what stands below an aggregation, and below a built one
  abbrev Below : ℕ → Request B → List Fields → Held → Type 0
  Below depth = NamesStand is_match (StandsTo is_match depth)

  abbrev BuiltBelow : ℕ → Request QueryTree → List Fields → Held → Type 0
  BuiltBelow depth = NamesStand matches (StandsTo matches depth)

  -- what is below stands for the request where it does for the built one
  abbrev Falls : ℕ → Type 0
  Falls depth =
      (below : Request B) (documents : List Fields) (held : Held)
      → BuiltBelow depth (with_builders of below) documents held → Below depth below documents held

  -- the result of a metric
  metric-built : (agg : AggregationVariants B) (documents : List Fields)
      (r : IntermediateMetricResult)
      → MetricStands (with_own_builder of agg) documents r → MetricStands agg documents r
  metric-built (Filter a) documents r stand = absurd stand
  metric-built (Composite a) documents r stand = absurd stand
  metric-built (Count a) documents (m.Count r) stand = stand
  metric-built (Count a) documents (m.Max r) stand = absurd stand
  metric-built (Count a) documents (m.Min r) stand = absurd stand
  metric-built (Count a) documents (m.Sum r) stand = absurd stand
  metric-built (Max a) documents (m.Count r) stand = absurd stand
  metric-built (Max a) documents (m.Max r) stand = stand
  metric-built (Max a) documents (m.Min r) stand = absurd stand
  metric-built (Max a) documents (m.Sum r) stand = absurd stand
  metric-built (Min a) documents (m.Count r) stand = absurd stand
  metric-built (Min a) documents (m.Max r) stand = absurd stand
  metric-built (Min a) documents (m.Min r) stand = stand
  metric-built (Min a) documents (m.Sum r) stand = absurd stand
  metric-built (Sum a) documents (m.Count r) stand = absurd stand
  metric-built (Sum a) documents (m.Max r) stand = absurd stand
  metric-built (Sum a) documents (m.Min r) stand = absurd stand
  metric-built (Sum a) documents (m.Sum r) stand = stand

  parts-built : (depth : ℕ) → Falls depth → (agg : AggregationVariants B) (below : Request B)
      (documents : List Fields) (r : Parts)
      → PartsStand matches (BuiltBelow depth) (with_own_builder of agg) (with_builders of below)
      documents r
      → PartsStand is_match (Below depth) agg below documents r
  parts-built depth falls (Filter a) below documents (filter count whole) stand = (
    stand.0 ∙ ap length (same-matching a.query documents),
    falls below (matching is_match a.query documents) whole
        (subst (λ ds. BuiltBelow depth (with_builders of below) ds whole)
        (same-matching a.query documents) stand.1),
  )
  parts-built depth falls (Filter a) below documents (composite c) stand = absurd stand
  parts-built depth falls (Filter a) below documents (metric m) stand = absurd stand
  parts-built depth falls (Composite a) below documents (composite c) stand = record {
    shape = stand.shape;
    groups = stand.groups;
    subs = All-weaker
        (EntryStands (BuiltBelow depth (with_builders of below)) a.sources documents)
        (EntryStands (Below depth below) a.sources documents)
        (λ (e : TupleEntry) part.
        (part.0, part.1, part.2, falls below part.0 (below_entry e.1) part.3))
        (entries_of c) stand.subs;
  }
  parts-built depth falls (Composite a) below documents (filter count whole) stand = absurd stand
  parts-built depth falls (Composite a) below documents (metric m) stand = absurd stand
  parts-built depth falls (Count a) below documents (metric m) stand =
      metric-built (Count a) documents m stand
  parts-built depth falls (Count a) below documents (filter count whole) stand = absurd stand
  parts-built depth falls (Count a) below documents (composite c) stand = absurd stand
  parts-built depth falls (Max a) below documents (metric m) stand =
      metric-built (Max a) documents m stand
  parts-built depth falls (Max a) below documents (filter count whole) stand = absurd stand
  parts-built depth falls (Max a) below documents (composite c) stand = absurd stand
  parts-built depth falls (Min a) below documents (metric m) stand =
      metric-built (Min a) documents m stand
  parts-built depth falls (Min a) below documents (filter count whole) stand = absurd stand
  parts-built depth falls (Min a) below documents (composite c) stand = absurd stand
  parts-built depth falls (Sum a) below documents (metric m) stand =
      metric-built (Sum a) documents m stand
  parts-built depth falls (Sum a) below documents (filter count whole) stand = absurd stand
  parts-built depth falls (Sum a) below documents (composite c) stand = absurd stand

  -- the result of an aggregation, down to a depth
  abbrev Own : ℕ → Aggregation B → Type 0
  Own depth a =
      (documents : List Fields) (o : Option IntermediateAggregationResult)
      → StandsTo matches depth (with_builders_in of a) documents o
      → StandsTo is_match depth a documents o

  names-built : (depth : ℕ) → ((a : Aggregation B) → Own depth a) → Falls depth
  names-built depth own request documents held stand = record {
    each = All-weaker
        (λ (a : List ℕ × Aggregation B). StandsTo matches depth (with_builders_in of a.1)
        documents (value_of a.0 held))
        (λ (a : List ℕ × Aggregation B). StandsTo is_match depth a.1 documents
        (value_of a.0 held))
        (λ (a : List ℕ × Aggregation B). own a.1 documents (value_of a.0 held))
        request
        (All-from_map
        (λ (a : List ℕ × Aggregation QueryTree). StandsTo matches depth a.1 documents
        (value_of a.0 held))
        (λ (a : List ℕ × Aggregation B). (a.0, with_builders_in of a.1)) request stand.each);
    known = subst (λ names. All (λ name. Contains names name) (keys_of held))
        (keys_of-map_values (λ (a : Aggregation B). with_builders_in of a) request) stand.known;
  }

  result-built : (depth : ℕ) (a : Aggregation B) → Own depth a
  result-built zero a documents o stand = tt
  result-built (suc depth) a documents None stand = stand
  result-built (suc depth) a documents (Some r) stand =
      parts-built depth (names-built depth (result-built depth)) (agg_of a) (below_of a) documents
      (parts_of r)
      (subst (λ (below : Request QueryTree). PartsStand matches (BuiltBelow depth)
      (with_own_builder of (agg_of a)) below documents (parts_of r)) (below-built of a)
      (subst (λ (agg : AggregationVariants QueryTree). PartsStand matches (BuiltBelow depth) agg
      (below_of (with_builders_in of a)) documents (parts_of r)) (agg-built of a) stand))

  -- results that stand for documents under the built request do under the request
  pub stands-built : (request : Request B) (documents : List Fields) (held : Held)
      → StandsFor matches (with_builders of request) documents held
      → StandsFor is_match request documents held
  stands-built request documents held stand depth =
      names-built depth (result-built depth) request documents held (stand depth)
