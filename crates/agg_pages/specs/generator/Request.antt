-- The request of a generated input.
use Rattle.std.specs.Prelude.{ℕ, List, [], ◌∷◌, Bool, true, false, None, codes}
use Rattle.agg_values.specs.declared.order.Order.{Order}
use Rattle.agg_values.specs.declared.order.Order.TheVariants.{Asc, Desc}
use Rattle.agg_values.specs.declared.order.MissingOrder.TheVariants.{Default}
use Rattle.agg_request_tree.specs.Request.{Request, aggregation_of}
use Rattle.agg_request_tree.specs.declared.aggregation.Aggregation.{Aggregation}
use Rattle.agg_request_tree.specs.declared.aggregation.AggregationVariants.TheVariants as asks
use Rattle.agg_request_tree.specs.declared.aggregation.CompositeAggregation.{CompositeAggregation}
use Rattle.agg_request_tree.specs.declared.source.CompositeAggregationSource as source
use source.{CompositeAggregationSource}
use source.TheVariants.{Terms}

-- a source of the values of a field, which is called as that field
abbrev pub values_source : List ℕ → Order → Bool → CompositeAggregationSource
values_source field order has_missing = Terms (record {
  name = field;
  field = field;
  order = order;
  missing_bucket = has_missing;
  missing_order = Default;
  min = None;
})

-- the groups by number and text, texts descending and with a group of those that have none
abbrev pub generated_composite : CompositeAggregation
generated_composite = record {
  sources = values_source (codes "a") Asc false ∷ values_source (codes "b") Desc true ∷ [];
  size = 100;
  after = [];
}

-- how many dates there are
abbrev pub count_of_dates : {B : Type 0} → Aggregation B
count_of_dates = aggregation_of (asks.Count (record { field = codes "d" })) []

-- the groups, with the number of dates of each
abbrev pub generated_request : {B : Type 0} → Request B
generated_request = (
  codes "g",
  aggregation_of (asks.Composite generated_composite) ((codes "n", count_of_dates) ∷ []),
)
    ∷ []
