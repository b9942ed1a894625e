-- The texts of results as JSON: members ascend by their names, and there are no blanks. `quoted` is
-- a text in quotes, as JSON writes it.
use Rattle.std.specs.Prelude.{ℕ, ℤ, List, [], ◌∷◌, ◌++◌, Bool, Option, None, Some, if◌then◌else◌}
use Rattle.std.specs.Prelude.{map, codes, decimal}
use Rattle.std.specs.Fmt.{signed_decimal}
use Rattle.std.specs.List.{join_with_byte}
use Rattle.json.specs.Print.{quoted}
use Rattle.agg_results.specs.final_results.JsonBytes.{close_list, close_object, colon, comma}
use Rattle.agg_results.specs.final_results.JsonBytes.{open_list, open_object}
use Rattle.agg_values.specs.KeyText.{key_text}
use Rattle.agg_values.specs.declared.after_key.AfterKey.{AfterKey}
use Rattle.agg_values.specs.declared.composite_key.CompositeKey.{CompositeKey}
use Rattle.agg_values.specs.declared.composite_key.CompositeKey.TheVariants as key
use Rattle.agg_values.specs.Names.{Named, put}
use Rattle.agg_results.specs.declared.final_results.types.AggregationResult.{AggregationResult}
use Rattle.agg_results.specs.declared.final_results.types.AggregationResult.TheFolds as folds
use folds.{fold-AggregationResults}
use Rattle.agg_results.specs.declared.final_results.types.AggregationResult.TheOpen as opened
use opened.{AggregationResult-F, AggregationResults-F, BucketResult-F, CompositeBucketEntry-F}
use opened.{FilterBucketResult-F}
use Rattle.agg_results.specs.declared.final_results.types.AggregationResults.{AggregationResults}
use Rattle.agg_results.specs.declared.final_results.types.BucketResult.{BucketResult}
use Rattle.agg_results.specs.declared.final_results.types.MetricResult.{MetricResult}
use Rattle.agg_results.specs.declared.final_results.types.MetricResult.TheVariants as metric

-- texts by name
abbrev pub Texts : Type 0
Texts = Named (List ℕ)

-- a comma, but not before the first
abbrev pub comma_unless : Bool → List ℕ
comma_unless first = if first then [] else comma ∷ []

-- a member of an object: its quoted name and the text of its value
abbrev pub member_text : List ℕ → List ℕ → List ℕ
member_text name value = quoted name ++ colon ∷ value

-- an object of these members
abbrev pub braced : List (List ℕ) → List ℕ
braced members = open_object ∷ (join_with_byte comma members ++ close_object ∷ [])

-- an array of these items
abbrev pub bracketed : List (List ℕ) → List ℕ
bracketed items = open_list ∷ (join_with_byte comma items ++ close_list ∷ [])

-- a map from names as an object
abbrev pub object_text : {T : Type 0} → (T → List ℕ) → Named T → List ℕ
object_text text entries = braced (map (λ e. member_text e.0 (text e.1)) entries)

-- a shown key
abbrev pub shown_key_text : CompositeKey → List ℕ
shown_key_text (key.Bool b) = if b then codes "true" else codes "false"
shown_key_text (key.Str text) = quoted text
shown_key_text (key.I64 n) = signed_decimal n
shown_key_text (key.U64 n) = decimal n
shown_key_text key.Null = codes "null"

-- an after key: the quoted text of its kind and value
abbrev pub quoted_after_key : AfterKey → List ℕ
quoted_after_key after = quoted (key_text after.0)

-- the text of each member of an object
abbrev pub members_text : Texts → List ℕ
members_text members = object_text (λ text. text) members

-- a number, or null where there is none
abbrev pub number_text : Option ℤ → List ℕ
number_text None = codes "null"
number_text (Some n) = signed_decimal n

-- an object of a value alone
abbrev pub value_text : Option ℤ → List ℕ
value_text value = members_text ((codes "value", number_text value) ∷ [])

-- a metric: the value that it gives
abbrev pub metric_text : MetricResult → List ℕ
metric_text (metric.Count single) = value_text single.value
metric_text (metric.Max single) = value_text single.value
metric_text (metric.Min single) = value_text single.value
metric_text (metric.Sum single) = value_text single.value

-- ---- of each part, where its parts have these texts

-- members, over others of their names
abbrev pub put_all : Texts → Texts → Texts
put_all [] members = members
put_all (m ∷ over) members = put m.0 m.1 (put_all over members)

-- the member of a filter without sub-results: its number of documents
abbrev pub count_member : ℕ → Texts
count_member doc_count = (codes "doc_count", decimal doc_count) ∷ []

-- the members of a filter: this, and each sub-result by its name
abbrev pub filter_members : ℕ → Texts → Texts
filter_members doc_count sub_results = put_all sub_results (count_member doc_count)

-- the members of a bucket without sub-results: its number of occurrences and its key
abbrev pub plain_members : ℕ → Named CompositeKey → Texts
plain_members doc_count key =
    (codes "doc_count", decimal doc_count)
    ∷ (codes "key", object_text shown_key_text key)
    ∷ []

-- the members of a bucket: these, and each sub-result by its name
abbrev pub bucket_members : ℕ → Named CompositeKey → Texts → Texts
bucket_members doc_count key sub_results = put_all sub_results (plain_members doc_count key)

-- the members of a composite: its after key, where the page is full, and its buckets
abbrev pub composite_members : List (List ℕ) → Named AfterKey → Texts
composite_members buckets [] = (codes "buckets", bracketed buckets) ∷ []
composite_members buckets (k ∷ ks) =
    (codes "after_key", object_text quoted_after_key (k ∷ ks))
    ∷ (codes "buckets", bracketed buckets)
    ∷ []

-- of a result, that of its kind
abbrev pub of_result : AggregationResult-F (List ℕ) (List ℕ) Texts (List ℕ) (List ℕ) → List ℕ
of_result (opened.BucketResult text) = text
of_result (opened.MetricResult metric) = metric_text metric

-- of a filter its own text, and of a composite an object of its members
abbrev pub of_buckets : BucketResult-F (List ℕ) (List ℕ) Texts (List ℕ) (List ℕ) → List ℕ
of_buckets (opened.Filter text) = text
of_buckets (opened.Composite buckets after_key) =
    members_text (composite_members buckets after_key)

-- of results, the text of each by its name
abbrev pub of_results : AggregationResults-F (List ℕ) (List ℕ) Texts (List ℕ) (List ℕ) → Texts
of_results results = results.0

-- of a bucket, an object of its members
abbrev pub of_entry : CompositeBucketEntry-F (List ℕ) (List ℕ) Texts (List ℕ) (List ℕ) → List ℕ
of_entry entry =
    members_text (bucket_members entry.doc_count entry.key entry.sub_aggregation)

-- of a filter, an object of its members
abbrev pub of_filter : FilterBucketResult-F (List ℕ) (List ℕ) Texts (List ℕ) (List ℕ) → List ℕ
of_filter filter = members_text (filter_members filter.doc_count filter.sub_aggregations)

-- ---- of the whole

-- the texts that a fold makes with these five, from whichever type it begins at
abbrev pub texts_by : {X : Type 0} {Made : (R B S E F : Type 0) → Type 0}
    → ((R B S E F : Type 0) → (AggregationResult-F R B S E F → R) → (BucketResult-F R B S E F → B)
    → (AggregationResults-F R B S E F → S) → (CompositeBucketEntry-F R B S E F → E)
    → (FilterBucketResult-F R B S E F → F) → X → Made R B S E F)
    → X → Made (List ℕ) (List ℕ) Texts (List ℕ) (List ℕ)
texts_by fold =
    fold (List ℕ) (List ℕ) Texts (List ℕ) (List ℕ) of_result of_buckets of_results of_entry
    of_filter

-- the text of each of some results, by its name
abbrev pub results_members : AggregationResults → Texts
results_members = texts_by fold-AggregationResults

-- the results of a request: an object from name to result
abbrev pub results_text : AggregationResults → List ℕ
results_text results = members_text (results_members results)
