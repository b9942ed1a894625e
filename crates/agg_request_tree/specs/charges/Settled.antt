-- Whether a request is settled over documents: each composite that has a composite below it has
-- room for its tuples. By the law `low_roofs_are_at_most_roofs` its two roofs are the same then.
use Rattle.std.specs.Prelude.{◌≡◌, ◌&&◌, ◌||◌, List, Bool, true, false, map, not}
use Rattle.std.specs.List.{list_all, list_any}
use Rattle.agg_values.specs.Names.{Named}
use Rattle.agg_segment.specs.storage.Document.{Fields}
use Rattle.agg_request_tree.specs.Matching.{matching}
use Rattle.agg_request_tree.specs.Page.{documents_with}
use Rattle.agg_request_tree.specs.Request.{Request}
use Rattle.agg_request_tree.specs.declared.aggregation.Aggregation.{Aggregation}
use Rattle.agg_request_tree.specs.declared.aggregation.Aggregation.TheOpen.{Aggregation-F}
use Rattle.agg_request_tree.specs.declared.aggregation.Aggregation.TheFolds.{fold-Aggregation}
use Rattle.agg_request_tree.specs.declared.aggregation.AggregationVariants as variants
use variants.{AggregationVariants}
use variants.TheVariants.{Filter, Composite}
use Rattle.agg_request_tree.specs.declared.aggregation.CompositeAggregation.{CompositeAggregation}
use Rattle.agg_request_tree.specs.charges.Roof.{has_room, past_tuples}

-- of aggregations, with all below them
pub record Settling : Type 0 where
  -- whether there is a composite among them
  pub has_composite : Bool
  -- whether they are settled over documents
  pub is_settled : List Fields → Bool

-- of none, and of a metric
abbrev pub settling_of_none : Settling
settling_of_none = record { has_composite = false; is_settled = λ documents. true }

-- of several aggregations: each of them is settled
abbrev pub settling_together : Named Settling → Settling
settling_together each = record {
  has_composite = list_any (λ s. s.1.has_composite) each;
  is_settled = λ documents. list_all (λ s. s.1.is_settled documents) each;
}

-- of a composite, with this below it: there is no composite below, or it has room, and what is
-- below is settled over the documents of each of its tuples
abbrev pub composite_settling : CompositeAggregation → Settling → Settling
composite_settling composite below = record {
  has_composite = true;
  is_settled = λ documents.
      not below.has_composite
      || (has_room composite documents
      && list_all (λ tuple.
      below.is_settled (documents_with composite.sources documents tuple))
      (past_tuples composite documents));
}

module _ {B : Type 0} (is_match : B → Fields → Bool) where
  -- of an aggregation, with this below it: of a filter over the documents that it matches
  abbrev pub settling_by : AggregationVariants B → Settling → Settling
  settling_by (Filter filter) below = record {
    has_composite = below.has_composite;
    is_settled = λ documents. below.is_settled (matching is_match filter.query documents);
  }
  settling_by (Composite composite) below = composite_settling composite below
  settling_by _ below = settling_of_none

  -- of an aggregation, from what holds of each one below it
  abbrev pub settling_step : Aggregation-F B Settling → Settling
  settling_step a = settling_by a.agg (settling_together a.sub_aggregation)

  -- of an aggregation, with all below it
  abbrev pub settling : Aggregation B → Settling
  settling = fold-Aggregation B Settling settling_step

  -- of the aggregations of a request
  abbrev pub settling_of : Request B → Settling
  settling_of request = settling_together (map (λ a. (a.0, settling a.1)) request)

  -- a request is settled over documents
  abbrev pub IsSettled : Request B → List Fields → Type 0
  IsSettled request documents = (settling_of request).is_settled documents ≡ true
