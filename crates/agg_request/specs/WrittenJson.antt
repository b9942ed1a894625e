-- The JSON values that are written for requests.
use Rattle.std.specs.Prelude.{◌∷◌, [], ℕ, List, Bool, Option, None, Some, codes, map, option_map}
use Rattle.serde_json.specs.Data.{Data, Members, no_members, member, boolean, number, unsigned}
use Rattle.serde_json.specs.Data.{array, object, string, put}
use Rattle.serde_json.specs.Find.{of_integer}
use Rattle.serde_json.specs.View.{items_of}
use Rattle.agg_values.specs.KeyText.{key_text}
use Rattle.agg_values.specs.Names.{Named}
use Rattle.agg_values.specs.declared.after_key.AfterKey.{AfterKey}
use Rattle.agg_values.specs.declared.order.Order.{Order}
use Rattle.agg_values.specs.declared.order.MissingOrder.{MissingOrder}
use Rattle.agg_segment.specs.storage.Document.{said_key}
use Rattle.agg_segment.specs.declared.storage.document.FieldValue.{FieldValue}
use Rattle.agg_segment.specs.declared.query.RangeBound.{RangeBound}
use Rattle.agg_segment.specs.declared.query.RangeBound.TheVariants.{Unbounded, Included, Excluded}
use Rattle.agg_segment.specs.declared.query.QueryTree.{QueryTree}
use Rattle.agg_segment.specs.declared.query.QueryTree.TheOpen as query
use query.{QueryTree-F}
use Rattle.agg_segment.specs.declared.query.QueryTree.TheFolds.{fold-QueryTree}
use Rattle.agg_request.specs.reading.CompositeJson.{missing_order_word, order_word, source_word}
use Rattle.agg_request.specs.reading.CompositeJson.{unit_word}
use Rattle.agg_request.specs.json_values.Json.{alone}
use Rattle.agg_request_tree.specs.Request.{Request}
use Rattle.agg_request.specs.reading.RequestJson.{kind_word}
use Rattle.agg_request_tree.specs.Source.{name_of as source_name}
use Rattle.agg_request_tree.specs.declared.aggregation.Aggregation.{Aggregation}
use Rattle.agg_request_tree.specs.declared.aggregation.Aggregation.TheOpen.{Aggregation-F}
use Rattle.agg_request_tree.specs.declared.aggregation.Aggregation.TheFolds.{fold-Aggregation}
use Rattle.agg_request_tree.specs.declared.aggregation.AggregationVariants as variants
use variants.{AggregationVariants}
use variants.TheVariants.{Filter, Composite, Count, Max, Min, Sum}
use Rattle.agg_request_tree.specs.declared.aggregation.CompositeAggregation.{CompositeAggregation}
use Rattle.agg_request_tree.specs.declared.aggregation.filter.FilterQuery.{FilterQuery}
use Rattle.agg_request_tree.specs.declared.aggregation.filter.FilterQuery.TheVariants as by
use by.{Tree, CustomBuilder}
use Rattle.agg_request_tree.specs.declared.source.CompositeAggregationSource as any_source
use any_source.{CompositeAggregationSource}
use any_source.TheVariants.{Terms, Histogram, DateHistogram}

-- ---- objects

-- a member for each name, with what is written of its value
abbrev pub members_of : {A : Type 0} → (A → Data) → Named A → Members
members_of data_of [] = no_members
members_of data_of (e ∷ es) = member e.0 (data_of e.1) (members_of data_of es)

-- the one member that names a field
abbrev pub field_members : List ℕ → Members
field_members field = member (codes "field") (string field) no_members

-- the members with this text at a name, where there is one
abbrev pub with_text : List ℕ → Option (List ℕ) → Members → Members
with_text name None members = members
with_text name (Some text) members = put name (string text) members

-- ---- queries

-- what is written of a value
abbrev pub data_of_value : FieldValue → Data
data_of_value value = string (key_text (said_key value))

-- the members with the value of a bound, if it has one, at one of two names: the first where the
-- bound includes its value, the second where it excludes it
abbrev pub with_bound : List ℕ → List ℕ → RangeBound → Members → Members
with_bound including excluding Unbounded members = members
with_bound including excluding (Included value) members =
    put including (data_of_value value) members
with_bound including excluding (Excluded value) members =
    put excluding (data_of_value value) members

-- the members of a query for a value
abbrev pub term_members : List ℕ → FieldValue → Members
term_members field value = put (codes "value") (data_of_value value) (field_members field)

-- the members of a query for values between bounds
abbrev pub range_members : List ℕ → RangeBound → RangeBound → Members
range_members field lower upper =
    with_bound (codes "lte") (codes "lt") upper
    (with_bound (codes "gte") (codes "gt") lower (field_members field))

-- the members of a query of three lists, with what is written of each
abbrev pub list_members : List Data → List Data → List Data → Members
list_members must should must_not =
    member (codes "must") (array (items_of must))
    (member (codes "must_not") (array (items_of must_not))
    (member (codes "should") (array (items_of should)) no_members))

-- what is written of a query, with what is written of those inside it
abbrev pub query_step : QueryTree-F Data → Data
query_step query.All = alone (codes "all") (object no_members)
query_step query.Empty = alone (codes "empty") (object no_members)
query_step (query.Term field value) = alone (codes "term") (object (term_members field value))
query_step (query.Range field lower upper) =
    alone (codes "range") (object (range_members field lower upper))
query_step (query.Exists field) = alone (codes "exists") (object (field_members field))
query_step (query.Boolean must should must_not) =
    alone (codes "bool") (object (list_members must should must_not))

-- what is written of a query
abbrev pub data_of_query : QueryTree → Data
data_of_query = fold-QueryTree Data query_step

-- ---- composites

-- the members of the body of any source
abbrev pub shared_members : List ℕ → Order → Bool → MissingOrder → Members
shared_members field order missing_bucket missing_order =
    member (codes "field") (string field)
    (member (codes "missing_bucket") (boolean missing_bucket)
    (member (codes "missing_order") (string (missing_order_word missing_order))
    (member (codes "order") (string (order_word order)) no_members)))

-- what is written of a key, be it a least value or one after which a page begins
abbrev pub data_of_key : AfterKey → Data
data_of_key key = string (key_text key.0)

-- the members with a least value, where there is one
abbrev pub with_least : Option AfterKey → Members → Members
with_least None members = members
with_least (Some least) members = put (codes "min") (data_of_key least) members

-- the members of the body of a source
abbrev pub source_members : CompositeAggregationSource → Members
source_members (Terms s) =
    with_least s.min (shared_members s.field s.order s.missing_bucket s.missing_order)
source_members (Histogram s) =
    with_least s.min
    (put (codes "interval") (number (of_integer s.interval))
    (shared_members s.field s.order s.missing_bucket s.missing_order))
source_members (DateHistogram s) =
    with_least s.min
    (with_text (codes "offset") s.offset
    (with_text (codes "calendar_interval") (option_map unit_word s.calendar_interval)
    (with_text (codes "fixed_interval") s.fixed_interval
    (shared_members s.field s.order s.missing_bucket s.missing_order))))

-- what is written of a source: its body under its kind, under its name
abbrev pub data_of_source : CompositeAggregationSource → Data
data_of_source source =
    alone (source_name source) (alone (source_word source) (object (source_members source)))

-- the members with the keys after which a page begins, where there are any
abbrev pub with_after : Named AfterKey → Members → Members
with_after [] members = members
with_after (key ∷ keys) members =
    put (codes "after") (object (members_of data_of_key (key ∷ keys))) members

-- what is written of a composite
abbrev pub data_of_composite : CompositeAggregation → Data
data_of_composite composite =
    object (with_after composite.after
    (member (codes "size") (number (unsigned composite.size))
    (member (codes "sources") (array (items_of (map data_of_source composite.sources)))
    no_members)))

-- ---- requests

-- what is written of a filter's query: its builder has a name
abbrev pub data_of_filter : {B : Type 0} → (B → List ℕ) → FilterQuery B → Data
data_of_filter name_of (Tree tree) = data_of_query tree
data_of_filter name_of (CustomBuilder builder) = alone (codes "builder") (string (name_of builder))

-- what is written of what an aggregation asks
abbrev pub data_of_kind : {B : Type 0} → (B → List ℕ) → AggregationVariants B → Data
data_of_kind name_of (Filter filter) = data_of_filter name_of filter.query
data_of_kind name_of (Composite composite) = data_of_composite composite
data_of_kind name_of (Count metric) = object (field_members metric.field)
data_of_kind name_of (Max metric) = object (field_members metric.field)
data_of_kind name_of (Min metric) = object (field_members metric.field)
data_of_kind name_of (Sum metric) = object (field_members metric.field)

-- the members with those below them, where there are any
abbrev pub with_below : Members → Members → Members
with_below no_members members = members
with_below (member name d below) members = put (codes "aggs") (object (member name d below)) members

-- what is written of an aggregation, with what is written of those below it
abbrev pub aggregation_step : {B : Type 0} → (B → List ℕ) → Aggregation-F B Data → Data
aggregation_step name_of a =
    object (with_below (members_of (λ d. d) a.sub_aggregation)
    (member (kind_word a.agg) (data_of_kind name_of a.agg) no_members))

-- what is written of an aggregation
abbrev pub data_of_aggregation : {B : Type 0} → (B → List ℕ) → Aggregation B → Data
data_of_aggregation {B = B} name_of = fold-Aggregation B Data (aggregation_step name_of)

-- what is written of a request
abbrev pub data_of_request : {B : Type 0} → (B → List ℕ) → Request B → Data
data_of_request name_of request = object (members_of (data_of_aggregation name_of) request)
