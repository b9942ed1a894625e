-- A composite that stands alone and has nothing below it.
use Rattle.std.specs.Prelude.{◌≡◌, []}
use Rattle.agg_values.specs.Names.{Named}
use Rattle.agg_values.specs.declared.after_key.AfterKey.{AfterKey}
use Rattle.agg_segment.specs.declared.query.QueryTree.{QueryTree}
use Rattle.agg_request_tree.specs.Request.{agg_of, below_of}
use Rattle.agg_request_tree.specs.declared.aggregation.Aggregation.{Aggregation}
use Rattle.agg_request_tree.specs.declared.aggregation.AggregationVariants.TheVariants as asks
use Rattle.agg_request_tree.specs.declared.aggregation.CompositeAggregation.{CompositeAggregation}
use Rattle.agg_composite.specs.declared.accessor.request_data.CompositeAggReqData.{
  CompositeAggReqData,
}
use Rattle.agg_composite.specs.declared.page_entry.PageEntry.{PageEntry}
use Rattle.agg_results.specs.intermediate_results.Intermediate.{TupleEntry, plain_entry}

-- an aggregation is a composite with nothing below it, and this is its data for an after key
pub record IsLeafOf (req : CompositeAggReqData) (after : Named AfterKey)
    (a : Aggregation QueryTree) (asked : CompositeAggregation) : Type 0 where
  pub agg : agg_of a ≡ asks.Composite asked
  pub below : below_of a ≡ []
  pub sources : req.req.now.sources ≡ asked.sources
  pub size : req.size ≡ asked.size
  pub start : after ≡ asked.after

-- an entry of a page with nothing below it: its key with its count
abbrev pub leaf_entry : PageEntry → TupleEntry
leaf_entry entry = (entry.key, plain_entry entry.doc_count)
