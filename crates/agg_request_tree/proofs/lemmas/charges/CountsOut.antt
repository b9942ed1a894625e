-- What aggregations are charged and count, one level open.
use Rattle.std.proofs.Common.{◌≡◌, Bool, List, ◌++◌, ◌∙◌}
use Rattle.agg_segment.specs.storage.Document.{Fields}
use Rattle.agg_request_tree.specs.Request.{Request, agg_of, aggregation_of, below_of, listed_in}
use Rattle.agg_request_tree.specs.Request.{listed_of}
use Rattle.agg_request_tree.specs.declared.aggregation.Aggregation.{Aggregation}
use Rattle.agg_request_tree.specs.declared.aggregation.Aggregation.TheFolds as folds
use folds.{fold_out-Aggregation}
use Rattle.agg_request_tree.specs.declared.aggregation.AggregationVariants.{AggregationVariants}
use Rattle.agg_request_tree.proofs.RequestTrees.{agg-made, below-made, listed-out}
use Rattle.agg_request_tree.specs.charges.Roof.{Counts, counts, counts_by, counts_of, counts_step}
use Rattle.agg_request_tree.specs.charges.Settled.{Settling, settling, settling_by, settling_of}
use Rattle.agg_request_tree.specs.charges.Settled.{settling_step}

-- what an aggregation of these parts lists
pub listed-made : {B X : Type 0} (own : AggregationVariants B → List X)
    (agg : AggregationVariants B) (below : Request B)
    → listed_in own (aggregation_of agg below) ≡ own agg ++ listed_of own below
listed-made own agg below =
    listed-out own (aggregation_of agg below)
    ∙ (λ i. own (agg-made agg below i) ++ listed_of own (below-made agg below i))

module _ {B : Type 0} (is_match : B → Fields → Bool) where
  -- what an aggregation counts, from what those below it count together
  pub counts-out : (a : Aggregation B)
      → counts is_match a ≡ counts_by is_match (agg_of a) (counts_of is_match (below_of a))
  counts-out a = fold_out-Aggregation B Counts (counts_step is_match) a

  -- what an aggregation of these parts counts
  pub counts-made : (agg : AggregationVariants B) (below : Request B)
      → counts is_match (aggregation_of agg below)
      ≡ counts_by is_match agg (counts_of is_match below)
  counts-made agg below =
      counts-out (aggregation_of agg below)
      ∙ (λ i. counts_by is_match (agg-made agg below i)
      (counts_of is_match (below-made agg below i)))

  -- an aggregation of these parts is settled by them
  pub settling-made : (agg : AggregationVariants B) (below : Request B)
      → settling is_match (aggregation_of agg below)
      ≡ settling_by is_match agg (settling_of is_match below)
  settling-made agg below =
      fold_out-Aggregation B Settling (settling_step is_match) (aggregation_of agg below)
      ∙ (λ i. settling_by is_match (agg-made agg below i)
      (settling_of is_match (below-made agg below i)))
