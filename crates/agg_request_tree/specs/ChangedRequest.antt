-- Requests in which one composite has another size or after key.
use Rattle.std.specs.Prelude.{ℕ, List, if◌then◌else◌, map}
use Rattle.std.specs.BTreeMap.{is_at}
use Rattle.agg_values.specs.Names.{Named, name_cmp}
use Rattle.agg_values.specs.declared.after_key.AfterKey.{AfterKey}
use Rattle.agg_request_tree.specs.Request.{Request, agg_of, aggregation_of, below_of}
use Rattle.agg_request_tree.specs.declared.aggregation.Aggregation.{Aggregation}
use Rattle.agg_request_tree.specs.declared.aggregation.AggregationVariants.{AggregationVariants}
use Rattle.agg_request_tree.specs.declared.aggregation.AggregationVariants.TheVariants.{Composite}

-- an aggregation with another size, if it is a composite
abbrev pub with_size : {B : Type 0} → ℕ → AggregationVariants B → AggregationVariants B
with_size size (Composite composite) = Composite (record composite { size = size })
with_size size other = other

-- an aggregation with another after key, if it is a composite
abbrev pub with_after : {B : Type 0} → Named AfterKey → AggregationVariants B
    → AggregationVariants B
with_after after (Composite composite) = Composite (record composite { after = after })
with_after after other = other

-- an aggregation in which what it asks is changed
abbrev pub changed : {B : Type 0} → (AggregationVariants B → AggregationVariants B)
    → Aggregation B → Aggregation B
changed change a = aggregation_of (change (agg_of a)) (below_of a)

-- a request in which the aggregation of a name is changed
abbrev pub request_changed_at : {B : Type 0} → (AggregationVariants B → AggregationVariants B)
    → List ℕ → Request B → Request B
request_changed_at change name request =
    map (λ a. if is_at (name_cmp name) a.0 then (a.0, changed change a.1) else a) request

-- the request with a size in place of that of the composite of a name
abbrev pub request_at_size : {B : Type 0} → List ℕ → ℕ → Request B → Request B
request_at_size name size = request_changed_at (with_size size) name

-- the request with an after key in place of that of the composite of a name
abbrev pub request_after : {B : Type 0} → List ℕ → Named AfterKey → Request B → Request B
request_after name after = request_changed_at (with_after after) name
