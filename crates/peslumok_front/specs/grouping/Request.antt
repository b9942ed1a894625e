-- The request of a grouping.
use Rattle.std.specs.Prelude.{◌≡◌, ℕ, List, [], ◌∷◌, ◌++◌, All, Any, Bool, true, false, codes, map}
use Rattle.std.specs.Prelude.{Contains, Ok, Some, ⊤}
use Rattle.agg_values.specs.Names.{put, value_of}
use Rattle.agg_segment.specs.declared.query.QueryTree.TheVariants as tree
use Rattle.agg_request_tree.specs.Request.{Request, agg_of, aggregation_of, below_of}
use Rattle.agg_request_tree.specs.declared.aggregation.Aggregation.{Aggregation}
use Rattle.agg_request_tree.specs.declared.aggregation.AggregationVariants as variants
use variants.{AggregationVariants}
use variants.TheVariants.{Filter, Composite, Count, Max, Min, Sum}
use Rattle.agg_request_tree.specs.declared.aggregation.filter.FilterQuery.TheVariants.{Tree}
use Rattle.agg_request_tree.specs.declared.aggregation.CompositeAggregation.{CompositeAggregation}
use Rattle.peslumok_texts.specs.words.By.{parts}
use Rattle.peslumok_texts.specs.words.Metric.{word_of}
use Rattle.peslumok_texts.specs.declared.words.metric.Metric.{Metric}
use Rattle.peslumok_texts.specs.declared.words.metric.MetricKind.{MetricKind}
use Rattle.peslumok_texts.specs.declared.words.metric.MetricKind.TheVariants as kind
use Rattle.peslumok_front.specs.grouping.Sources.{HasNoSource, source_asked}
use Rattle.peslumok_front.specs.declared.grouping.error.GroupingError.{GroupingError}
use Rattle.peslumok_front.specs.declared.grouping.error.GroupingError.TheVariants as error
use Rattle.peslumok_front.specs.declared.grouping.grouping.Grouping.{Grouping}
use Rattle.peslumok_front.specs.declared.grouping.request.AskedPage.{AskedPage}

-- ---- metrics

-- the name of a metric: its word, and the field in parentheses
abbrev pub metric_name : Metric → List ℕ
metric_name metric = word_of metric.kind ++ (codes "(" ++ (metric.field.now ++ codes ")"))

-- what a metric of a kind asks of a field
abbrev pub of_kind : {B : Type 0} → MetricKind → List ℕ → AggregationVariants B
of_kind kind.Count field = Count (record { field = field })
of_kind kind.Sum field = Sum (record { field = field })
of_kind kind.Min field = Min (record { field = field })
of_kind kind.Max field = Max (record { field = field })

-- a metric as an aggregation, with none below it
abbrev pub metric_asked : {B : Type 0} → Metric → Aggregation B
metric_asked metric = aggregation_of (of_kind metric.kind metric.field.now) []

-- a metric with its name
abbrev pub named_metric : {B : Type 0} → Metric → List ℕ × Aggregation B
named_metric metric = (metric_name metric, metric_asked metric)

-- under the name of each metric stands that metric, and there are no others
pub record AreMetricsOf {B : Type 0} (metrics : List Metric) (below : Request B) : Type 0 where
  pub each : All (λ m. value_of (metric_name m) below ≡ Some (metric_asked m)) metrics
  pub others : All (Contains (map named_metric metrics)) below

-- ---- groups and totals

-- a composite has the sources that are asked for, and the size and the after key of a page
pub record IsCompositeOf (grouping : Grouping) (page : AskedPage) (composite : CompositeAggregation)
    : Type 0 where
  pub sources : map Ok composite.sources
      ≡ map (λ by. source_asked grouping.types (parts by)) grouping.by.items
  pub size : composite.size ≡ page.size
  pub after : composite.after ≡ page.after

-- the groups of a page, with the metrics below each
pub record AreGroupsOf {B : Type 0} (grouping : Grouping) (page : AskedPage)
    (groups : Aggregation B)
    : Type 0 where
  pub composite : CompositeAggregation
  pub is_composite : IsCompositeOf grouping page composite
  pub asked : agg_of groups ≡ Composite composite
  pub metrics : AreMetricsOf grouping.metrics.items (below_of groups)

-- a filter that all documents match, with the metrics of all of them
pub record IsTotalOf {B : Type 0} (grouping : Grouping) (total : Aggregation B) : Type 0 where
  pub asked : agg_of total ≡ Filter (record { query = Tree tree.All })
  pub metrics : AreMetricsOf grouping.metrics.items (below_of total)

-- a request has the groups of a page under their name, and what it had before
pub record HasGroups {B : Type 0} (grouping : Grouping) (page : AskedPage)
    (before after : Request B)
    : Type 0 where
  pub groups : Aggregation B
  pub are_groups : AreGroupsOf grouping page groups
  pub entries : after ≡ put (codes "groups") groups before

-- a request has the total under its name, and what it had before
pub record HasTotal {B : Type 0} (grouping : Grouping) (before after : Request B) : Type 0 where
  pub total : Aggregation B
  pub is_total : IsTotalOf grouping total
  pub entries : after ≡ put (codes "total") total before

-- the total under its name where it is asked for, and else nothing
abbrev pub AreTotals : {B : Type 0} → Bool → Grouping → Request B → Type 0
AreTotals {B = B} true grouping totals =
    (total : Aggregation B) × IsTotalOf grouping total × (totals ≡ (codes "total", total) ∷ [])
AreTotals false grouping totals = totals ≡ []

-- a request of the groups of a page, and of the total where it is asked for
pub record IsRequestOf {B : Type 0} (grouping : Grouping) (page : AskedPage) (request : Request B)
    : Type 0 where
  pub groups : Aggregation B
  pub totals : Request B
  pub are_groups : AreGroupsOf grouping page groups
  pub are_totals : AreTotals grouping.has_total grouping totals
  pub entries : request ≡ (codes "groups", groups) ∷ totals

-- ---- why there is no request

-- why a request isn't made: for want of memory, or by an interval, an offset or a least value
abbrev pub HasNoRequest : Grouping → GroupingError → Type 0
HasNoRequest grouping error.OutOfMemory = ⊤
HasNoRequest grouping refusal =
    Any (λ by. HasNoSource grouping.types (parts by) refusal) grouping.by.items
