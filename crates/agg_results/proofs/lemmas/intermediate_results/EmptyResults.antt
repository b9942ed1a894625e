-- The empty results of a request, name by name.
use Rattle.std.proofs.Common.{◌≡◌, ℕ, ◌≤◌, List, [], ◌∷◌, ◌++◌, subst, arith}
use Rattle.agg_values.specs.Names.{put}
use Rattle.agg_values.proofs.NameOrder.{Ascends}
use Rattle.agg_values.proofs.MadeByName.{by_name-all, by_name-more}
use Rattle.agg_request_tree.specs.Request.{Request}
use Rattle.agg_request_tree.specs.declared.aggregation.Aggregation.{Aggregation}
use Rattle.agg_request_tree.proofs.RequestTrees.{levels}
use Rattle.agg_results.specs.intermediate_results.Empty.{empty_result, empty_results}
use Rattle.agg_results.specs.intermediate_results.Intermediate.{Held}
use Rattle.agg_results.specs.declared.intermediate_results as declared
use declared.results.IntermediateAggregationResult.{IntermediateAggregationResult}

module _ {B : Type 0} where
  abbrev made : List ℕ × Aggregation B → IntermediateAggregationResult
  made a = empty_result a.1

  -- the results so far with those of the names that are left are all
  pub record AreMadeUpTo (all left : Request B) (results : Held) : Type 0 where
    pub whole : results ++ empty_results left ≡ empty_results all
    pub lower : levels left ≤ levels all

  -- at first all names are left
  pub AreMadeUpTo-none : (all left : Request B) (results : Held) → left ≡ all → results ≡ []
      → AreMadeUpTo all left results
  AreMadeUpTo-none all left results same none = record {
    whole = λ i. none i ++ empty_results (same i);
    lower = subst (λ (r : Request B). levels left ≤ levels r) same (omega arith);
  }

  -- one more name
  pub AreMadeUpTo-more : (all left : Request B) (results more : Held) (name : List ℕ)
      (a : Aggregation B) (later : Request B) (value : IntermediateAggregationResult)
      → Ascends all → AreMadeUpTo all left results → left ≡ (name, a) ∷ later
      → more ≡ put name value results → value ≡ empty_result a → AreMadeUpTo all later more
  AreMadeUpTo-more all left results more name a later value ascends so_far e put_in is =
      let lower : levels ((name, a) ∷ later) ≤ levels all =
      subst (λ (r : Request B). levels r ≤ levels all) e so_far.lower in
      record {
        whole = by_name-more made all left results more name a later value ascends so_far.whole e
            put_in is;
        lower = omega (arith, lower);
      }

  -- no name is left
  pub AreMadeUpTo-all : (all left : Request B) (results : Held) → AreMadeUpTo all left results
      → left ≡ [] → results ≡ empty_results all
  AreMadeUpTo-all all left results so_far none =
      by_name-all made all left results so_far.whole none
