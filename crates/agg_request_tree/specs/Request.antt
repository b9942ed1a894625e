-- Requests: aggregations by name, each with those below it.
use Rattle.std.specs.Prelude.{◌≡◌, ◌++◌, ◌∷◌, [], ℕ, List, map}
use Rattle.std.specs.List.{flat_map}
use Rattle.agg_values.specs.Names.{Named}
use Rattle.agg_request_tree.specs.Source.{field_of}
use Rattle.agg_request_tree.specs.declared.aggregation.Aggregation.{Aggregation}
use Rattle.agg_request_tree.specs.declared.aggregation.Aggregation.TheOpen.{Aggregation-F}
use Rattle.agg_request_tree.specs.declared.aggregation.Aggregation.TheFolds.{fold-Aggregation}
use Rattle.agg_request_tree.specs.declared.aggregation.Aggregation.TheViews as views
use views.{out-Aggregation, roll-Aggregation}
use Rattle.agg_request_tree.specs.declared.aggregation.AggregationVariants as variants
use variants.{AggregationVariants}
use variants.TheVariants.{Filter, Composite, Count, Max, Min, Sum}
use Rattle.agg_request_tree.specs.declared.aggregation.filter.FilterQuery.{FilterQuery}
use Rattle.agg_request_tree.specs.declared.aggregation.filter.FilterQuery.TheVariants as by
use by.{Tree, CustomBuilder}
use Rattle.agg_request_tree.specs.declared.aggregation.CompositeAggregation.{CompositeAggregation}

-- a request, whose filters have such builders of queries
abbrev pub Request : Type 0 → Type 0
Request B = Named (Aggregation B)

-- what an aggregation asks
abbrev pub agg_of : {B : Type 0} → Aggregation B → AggregationVariants B
agg_of {B = B} a = (out-Aggregation B a).agg

-- the aggregations below it
abbrev pub below_of : {B : Type 0} → Aggregation B → Request B
below_of {B = B} a = (out-Aggregation B a).sub_aggregation

-- the aggregation that asks this, with these below it
abbrev pub aggregation_of : {B : Type 0} → AggregationVariants B → Request B → Aggregation B
aggregation_of {B = B} agg below =
    roll-Aggregation B (record { agg = agg; sub_aggregation = below })

-- what an aggregation lists by itself, before what those below it list
abbrev pub listed_step : {B X : Type 0} → (AggregationVariants B → List X)
    → Aggregation-F B (List X) → List X
listed_step own a = own a.agg ++ flat_map (λ below. below.1) a.sub_aggregation

-- what an aggregation and those at any depth below it list
abbrev pub listed_in : {B X : Type 0} → (AggregationVariants B → List X) → Aggregation B → List X
listed_in {B = B} {X = X} own = fold-Aggregation B (List X) (listed_step own)

-- what the aggregations of a request list, at any depth
abbrev pub listed_of : {B X : Type 0} → (AggregationVariants B → List X) → Request B → List X
listed_of own request = flat_map (λ a. listed_in own a.1) request

-- the composite that an aggregation is, if it is one
abbrev pub own_composite : {B : Type 0} → AggregationVariants B → List CompositeAggregation
own_composite (Composite composite) = composite ∷ []
own_composite _ = []

-- the composites of an aggregation: itself, and those at any depth below it
abbrev pub composites_in : {B : Type 0} → Aggregation B → List CompositeAggregation
composites_in = listed_in own_composite

-- the composites of a request, at any depth
abbrev pub composites_of : {B : Type 0} → Request B → List CompositeAggregation
composites_of = listed_of own_composite

-- the fields of an aggregation that are read as columns: those of a composite's sources, or a
-- metric's
abbrev pub own_fields : {B : Type 0} → AggregationVariants B → List (List ℕ)
own_fields (Filter filter) = []
own_fields (Composite composite) = map field_of composite.sources
own_fields (Count metric) = metric.field ∷ []
own_fields (Max metric) = metric.field ∷ []
own_fields (Min metric) = metric.field ∷ []
own_fields (Sum metric) = metric.field ∷ []

-- the fields of a request that are read as columns, at any depth
abbrev pub fields_of : {B : Type 0} → Request B → List (List ℕ)
fields_of = listed_of own_fields

-- the builder of a query that has one
abbrev pub query_builder : {B : Type 0} → FilterQuery B → List B
query_builder (Tree tree) = []
query_builder (CustomBuilder builder) = builder ∷ []

-- the builder of a filter that has one
abbrev pub own_builder : {B : Type 0} → AggregationVariants B → List B
own_builder (Filter filter) = query_builder filter.query
own_builder _ = []

-- the builders of a request, at any depth
abbrev pub builders_of : {B : Type 0} → Request B → List B
builders_of = listed_of own_builder

-- a query with something else in place of its builder
abbrev pub with_query_builder : {B C : Type 0} → (B → C) → FilterQuery B → FilterQuery C
with_query_builder of (Tree tree) = Tree tree
with_query_builder of (CustomBuilder builder) = CustomBuilder (of builder)

-- what an aggregation asks, with something else in place of its builder
abbrev pub with_own_builder : {B C : Type 0} → (B → C) → AggregationVariants B
    → AggregationVariants C
with_own_builder of (Filter filter) = Filter (record { query = with_query_builder of filter.query })
with_own_builder of (Composite composite) = Composite composite
with_own_builder of (Count metric) = Count metric
with_own_builder of (Max metric) = Max metric
with_own_builder of (Min metric) = Min metric
with_own_builder of (Sum metric) = Sum metric

-- an aggregation with something else in place of each builder
abbrev pub with_builders_in : {B C : Type 0} → (B → C) → Aggregation B → Aggregation C
with_builders_in {B = B} {C = C} of =
    fold-Aggregation B (Aggregation C)
    (λ a. aggregation_of (with_own_builder of a.agg) a.sub_aggregation)

-- a request with something else in place of each builder
abbrev pub with_builders : {B C : Type 0} → (B → C) → Request B → Request C
with_builders of request = map (λ a. (a.0, with_builders_in of a.1)) request

-- two aggregations are the same at any depth: they are equal and have no builders, of which two are
-- never the same
abbrev pub IsSame : {B : Type 0} → Aggregation B → Aggregation B → Type 0
IsSame a b = (a ≡ b) × (listed_in own_builder a ≡ [])
