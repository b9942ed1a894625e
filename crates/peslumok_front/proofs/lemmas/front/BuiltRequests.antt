-- A request that is asked for is so with a tree in place of each builder, of which it has none.
use Rattle.std.proofs.Common.{◌≡◌, ◌∙◌, ℕ, zero, suc, List, [], ◌∷◌, Bool, true, false}
use Rattle.std.proofs.Common.{Option, Some}
use Rattle.std.proofs.Common.{ap, arith, get_or, map, refl, subst, sym}
use Rattle.std.specs.Prelude.{All, Contains, codes, option_map}
use Rattle.std.specs.BTreeMap.{is_at}
use Rattle.std.proofs.lemmas.Map.Made.{lookup-map_values}
use Rattle.agg_values.specs.Names.{name_cmp}
use Rattle.agg_segment.specs.SnapshotDocuments.{SnapshotDocuments}
use Rattle.agg_segment.specs.declared.query.QueryTree.{QueryTree}
use Rattle.agg_request_tree.specs.Matching.{built_matches}
use Rattle.agg_request_tree.specs.Request.{Request, aggregation_of, below_of}
use Rattle.agg_request_tree.specs.Request.{with_builders, with_builders_in, with_own_builder}
use Rattle.agg_request_tree.specs.declared.aggregation.Aggregation.{Aggregation}
use Rattle.agg_request_tree.proofs.Lists.{Contains-map}
use Rattle.agg_request_tree.proofs.RequestTrees.{agg-made, below-made}
use Rattle.agg_request_tree.specs.BuiltRequest.{built_tree}
use Rattle.agg_engine_tree.proofs.lemmas.segment_context.Built.{agg-built, below-built, built-out}
use Rattle.agg_engine.proofs.lemmas.collectors.BuiltTrees.{tree-matches}
use Rattle.agg_results.specs.declared.final_results.types.AggregationResults.{AggregationResults}
use Rattle.agg_engine.specs.Walk.{IsWalk}
use Rattle.peslumok_texts.specs.declared.words.metric.Metric.{Metric}
use Rattle.peslumok_texts.specs.declared.words.metric.MetricKind.{MetricKind}
use Rattle.peslumok_texts.specs.declared.words.metric.MetricKind.TheVariants as kind
use Rattle.peslumok_front.specs.grouping.Request.{AreGroupsOf, AreMetricsOf, AreTotals, IsRequestOf}
use Rattle.peslumok_front.specs.grouping.Request.{IsTotalOf, metric_asked, metric_name}
use Rattle.peslumok_front.specs.grouping.Request.{named_metric, of_kind}
use Rattle.peslumok_front.specs.declared.grouping.grouping.Grouping.{Grouping}
use Rattle.peslumok_front.specs.declared.grouping.request.AskedPage.{AskedPage}
use Rattle.peslumok_front.specs.front.Pages.{IsPageWalk}
use Rattle.agg_engine.proofs.BuiltWalks.{walk-built}

-- what holds of each that is mapped holds of all of the map
all-mapped : {X Y : Type 0} (P : Y → Type 0) (f : X → Y) (xs : List X) → All (λ x. P (f x)) xs
    → All P (map f xs)
all-mapped P f [] all k d within = absurd (omega (arith, within))
all-mapped P f (x ∷ xs) all zero d within = all 0 x (omega arith)
all-mapped P f (x ∷ xs) all (suc k) d within =
    all-mapped P f xs (λ j e less. all (suc j) e (omega (arith, less))) k d (omega (arith, within))

module _ {B C : Type 0} (of : B → C) where
  kind-built : (kind : MetricKind) (field : List ℕ)
      → with_own_builder of (of_kind {B = B} kind field) ≡ of_kind {B = C} kind field
  kind-built kind.Count field = refl
  kind-built kind.Sum field = refl
  kind-built kind.Min field = refl
  kind-built kind.Max field = refl

  metric-built : (metric : Metric)
      → with_builders_in of (metric_asked {B = B} metric) ≡ metric_asked {B = C} metric
  metric-built metric =
      let agg = of_kind {B = B} metric.kind metric.field.now in
      built-out of (metric_asked {B = B} metric)
      ∙ (λ i. aggregation_of (with_own_builder of (agg-made agg [] i))
      (with_builders of (below-made agg [] i)))
      ∙ ap (λ built. aggregation_of built []) (kind-built metric.kind metric.field.now)

  entries-built : (metrics : List Metric)
      → map (λ (e : List ℕ × Aggregation B). (e.0, with_builders_in of e.1))
      (map (named_metric {B = B}) metrics)
      ≡ map (named_metric {B = C}) metrics
  entries-built [] = refl
  entries-built (metric ∷ metrics) =
      λ i. (metric_name metric, metric-built metric i) ∷ entries-built metrics i

  metrics-built : (metrics : List Metric) (below : Request B) → AreMetricsOf metrics below
      → AreMetricsOf metrics (with_builders of below)
  metrics-built metrics below are = record {
    each = λ k d within.
        let metric : Metric = get_or metrics k d in
        lookup-map_values (λ (a : Aggregation B). with_builders_in of a)
        (is_at (name_cmp (metric_name metric))) below
        ∙ ap (option_map (λ (a : Aggregation B). with_builders_in of a)) (are.each k d within)
        ∙ ap Some (metric-built metric);
    others = all-mapped (Contains (map (named_metric {B = C}) metrics))
        (λ (e : List ℕ × Aggregation B). (e.0, with_builders_in of e.1)) below
        (λ k d within.
        let entry : List ℕ × Aggregation B = get_or below k d in
        let built : List ℕ × Aggregation C = (entry.0, with_builders_in of entry.1) in
        subst (λ (entries : List (List ℕ × Aggregation C)). Contains entries built)
        (entries-built metrics)
        (Contains-map (λ (e : List ℕ × Aggregation B). (e.0, with_builders_in of e.1))
        (map (named_metric {B = B}) metrics) entry (are.others k d within)));
  }

  module _ (grouping : Grouping) where
    groups-built : (page : AskedPage) (groups : Aggregation B) → AreGroupsOf grouping page groups
        → AreGroupsOf grouping page (with_builders_in of groups)
    groups-built page groups are = record {
      composite = are.composite;
      is_composite = are.is_composite;
      asked = agg-built of groups ∙ ap (with_own_builder of) are.asked;
      metrics = subst (AreMetricsOf grouping.metrics.items) (sym (below-built of groups))
          (metrics-built grouping.metrics.items (below_of groups) are.metrics);
    }

    total-built : (total : Aggregation B) → IsTotalOf grouping total
        → IsTotalOf grouping (with_builders_in of total)
    total-built total is = record {
      asked = agg-built of total ∙ ap (with_own_builder of) is.asked;
      metrics = subst (AreMetricsOf grouping.metrics.items) (sym (below-built of total))
          (metrics-built grouping.metrics.items (below_of total) is.metrics);
    }

    totals-built : (has_total : Bool) (totals : Request B) → AreTotals has_total grouping totals
        → AreTotals has_total grouping (with_builders of totals)
    totals-built true totals (total, is, only) =
        (with_builders_in of total, total-built total is, ap (with_builders of) only)
    totals-built false totals none = ap (with_builders of) none

    pub request-built : (page : AskedPage) (request : Request B) → IsRequestOf grouping page request
        → IsRequestOf grouping page (with_builders of request)
    request-built page request is = record {
      groups = with_builders_in of is.groups;
      totals = with_builders of is.totals;
      are_groups = groups-built page is.groups is.are_groups;
      are_totals = totals-built grouping.has_total is.totals is.are_totals;
      entries = ap (with_builders of) is.entries;
    }

-- the walk of a request that is asked for a page is that of the page
pub page-walk : {B : Type 0} (query_for : B → Option QueryTree) (grouping : Grouping)
    (page : AskedPage) (query : QueryTree) (snapshots : List SnapshotDocuments)
    (request : Request B)
    (pages : List AggregationResults) (ended : Bool) (name : List ℕ) → name ≡ codes "groups"
    → IsRequestOf grouping page request
    → IsWalk (built_matches query_for) name query request snapshots pages ended
    → IsPageWalk grouping query snapshots page pages ended
page-walk query_for grouping page query snapshots request pages ended name same asked walked =
    record {
      request = with_builders (built_tree query_for) request;
      asked = request-built (built_tree query_for) grouping page request asked;
      walked = walk-built (built_matches query_for) (built_tree query_for) (tree-matches query_for)
          (codes "groups") query request snapshots pages ended
          (subst (λ n. IsWalk (built_matches query_for) n query request snapshots pages ended) same
          walked);
    }
