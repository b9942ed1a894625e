-- How many documents composites count, and how many of the occurrences lie past a bound.
use Rattle.std.specs.Prelude.{ℕ, List, Option, Some, length, option_map}
use Rattle.agg_values.specs.Names.{value_of}
use Rattle.agg_segment.specs.storage.Document.{Fields}
use Rattle.agg_request_tree.specs.Occurrences.{bound_of, past_occurrences}
use Rattle.agg_request_tree.specs.Request.{Request, agg_of}
use Rattle.agg_request_tree.specs.declared.aggregation.AggregationVariants.{AggregationVariants}
use Rattle.agg_request_tree.specs.declared.aggregation.AggregationVariants.TheVariants.{Composite}
pub use Rattle.agg_engine_tree.specs.collector_tree.Counting.{counted_in, counted_of, counted_step}
pub use Rattle.agg_engine_tree.specs.collector_tree.Counting.{own_counted}

-- how many occurrences an aggregation has past its after key, if it is a composite
abbrev pub past_own : {B : Type 0} → Option (AggregationVariants B) → List Fields → ℕ
past_own (Some (Composite composite)) documents =
    length (past_occurrences composite.sources (bound_of composite.sources composite.after)
    documents)
past_own _ documents = 0

-- how many occurrences the aggregation of a name has past its after key, if it is a composite
abbrev pub past_named : {B : Type 0} → List ℕ → Request B → List Fields → ℕ
past_named name request documents =
    past_own (option_map (λ a. agg_of a) (value_of name request)) documents
