-- How many documents the composites of a request count.
use Rattle.std.specs.Prelude.{◌+◌, ℕ, List, Bool, length}
use Rattle.std.specs.List.{sum_by}
use Rattle.agg_segment.specs.storage.Document.{Fields}
use Rattle.agg_request_tree.specs.declared.aggregation.Aggregation.{Aggregation}
use Rattle.agg_request_tree.specs.declared.aggregation.Aggregation.TheOpen.{Aggregation-F}
use Rattle.agg_request_tree.specs.declared.aggregation.Aggregation.TheFolds.{fold-Aggregation}
use Rattle.agg_request_tree.specs.declared.aggregation.AggregationVariants.{AggregationVariants}
use Rattle.agg_request_tree.specs.declared.aggregation.AggregationVariants.TheVariants.{Composite}
use Rattle.agg_request_tree.specs.Request.{Request}
use Rattle.agg_request_tree.specs.Uncut.{counted, uncut}

-- how many documents an aggregation counts, if it is a composite
abbrev pub own_counted : {B : Type 0} → AggregationVariants B → List Fields → ℕ
own_counted (Composite composite) documents = length (counted composite documents)
own_counted _ documents = 0

module _ {B : Type 0} (is_match : B → Fields → Bool) where
  -- how many documents a node counts, and the nodes below it over the node's own list
  abbrev pub counted_step : Aggregation-F B (List Fields → ℕ) → List Fields → ℕ
  counted_step a documents =
      own_counted a.agg documents
      + sum_by (λ below. below.1 (uncut is_match a.agg documents)) a.sub_aggregation

  -- how many documents the composites of an aggregation count, at any depth
  abbrev pub counted_in : Aggregation B → List Fields → ℕ
  counted_in = fold-Aggregation B (List Fields → ℕ) counted_step

  -- how many documents the composites of a request count, at any depth
  abbrev pub counted_of : Request B → List Fields → ℕ
  counted_of request documents = sum_by (λ a. counted_in a.1 documents) request
