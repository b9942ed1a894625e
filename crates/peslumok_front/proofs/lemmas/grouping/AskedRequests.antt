-- The request of a grouping.
use Rattle.std.proofs.Common.{◌≡◌, ◌∙◌, refl, sym, ap, subst, List, [], ◌∷◌, false, true}
use Rattle.std.proofs.Common.{codes}
use Rattle.agg_segment.specs.declared.query.QueryTree.TheVariants as tree
use Rattle.agg_request_tree.specs.Request.{Request, aggregation_of}
use Rattle.agg_request_tree.specs.declared.aggregation.AggregationVariants.TheVariants as agg
use Rattle.agg_request_tree.specs.declared.aggregation.CompositeAggregation.{CompositeAggregation}
use Rattle.agg_request_tree.specs.declared.aggregation.filter.FilterAggregation.{FilterAggregation}
use Rattle.agg_request_tree.specs.declared.aggregation.filter.FilterQuery.TheVariants.{Tree}
use Rattle.agg_request_tree.proofs.RequestTrees.{agg-made, below-made}
use Rattle.peslumok_texts.specs.declared.words.metric.Metric.{Metric}
use Rattle.peslumok_front.specs.grouping.Request.{AreGroupsOf, AreMetricsOf, AreTotals, HasGroups}
use Rattle.peslumok_front.specs.grouping.Request.{HasTotal, IsCompositeOf, IsRequestOf, IsTotalOf}
use Rattle.peslumok_front.specs.declared.grouping.grouping.Grouping.{Grouping}
use Rattle.peslumok_front.specs.declared.grouping.request.AskedPage.{AskedPage}

-- the groups of a composite with the metrics below
pub groups-made : {B : Type 0} (grouping : Grouping) (page : AskedPage)
    (composite : CompositeAggregation) (metrics : List Metric) (below : Request B)
    → IsCompositeOf grouping page composite → metrics ≡ grouping.metrics.items
    → AreMetricsOf metrics below
    → AreGroupsOf grouping page (aggregation_of (agg.Composite composite) below)
groups-made grouping page composite metrics below is same are = record {
  composite = composite;
  is_composite = is;
  asked = agg-made (agg.Composite composite) below;
  metrics = subst (AreMetricsOf grouping.metrics.items)
      (sym (below-made (agg.Composite composite) below))
      (subst (λ m. AreMetricsOf m below) same are);
}

-- the total of a filter that all match, with the metrics below
pub total-made : {B : Type 0} (grouping : Grouping) (all : FilterAggregation B)
    (metrics : List Metric) (below : Request B) → all.query ≡ Tree tree.All
    → metrics ≡ grouping.metrics.items → AreMetricsOf metrics below
    → IsTotalOf grouping (aggregation_of (agg.Filter all) below)
total-made grouping all metrics below is same are = record {
  asked = agg-made (agg.Filter all) below ∙ ap (λ query. agg.Filter (record { query = query })) is;
  metrics = subst (AreMetricsOf grouping.metrics.items)
      (sym (below-made (agg.Filter all) below)) (subst (λ m. AreMetricsOf m below) same are);
}

-- the groups alone are a request without a total
pub without_total : {B : Type 0} (grouping : Grouping) (page : AskedPage) (none request : Request B)
    → grouping.has_total ≡ false → none ≡ [] → HasGroups grouping page none request
    → IsRequestOf grouping page request
without_total {B = B} grouping page none request has_total empty has = record {
  groups = has.groups;
  totals = [];
  are_groups = has.are_groups;
  are_totals = subst (λ b. AreTotals {B = B} b grouping []) (sym has_total) refl;
  entries = rw (has.entries, empty) refl;
}

-- the groups and a total are a request with a total
pub with_total : {B : Type 0} (grouping : Grouping) (page : AskedPage)
    (none some request : Request B)
    → grouping.has_total ≡ true → none ≡ [] → HasGroups grouping page none some
    → HasTotal grouping some request → IsRequestOf grouping page request
with_total grouping page none some request has_total empty has with = record {
  groups = has.groups;
  totals = (codes "total", with.total) ∷ [];
  are_groups = has.are_groups;
  are_totals = subst (λ b. AreTotals b grouping ((codes "total", with.total) ∷ []))
      (sym has_total) (with.total, with.is_total, refl);
  entries = rw (with.entries, has.entries, empty) refl;
}
