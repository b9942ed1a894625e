-- Generated inputs are never refused.
use Rattle.std.proofs.Common.{ℕ, List, [], Option, arith, replicate}
use Rattle.agg_request_tree.specs.Matching.{built_matches}
use Rattle.agg_segment.specs.declared.query.QueryTree.{QueryTree}
use Rattle.agg_segment.specs.declared.query.QueryTree.TheVariants.{All}
use Rattle.agg_pages.specs.generator.Documents.{generated_snapshot}
use Rattle.agg_pages.specs.generator.Generator.{generated}
use Rattle.agg_pages.proofs.lemmas.generated_walks.GeneratedInputs.{may_ask, snapshots_small}
use Rattle.agg_pages.proofs.lemmas.generated_walks.NoRefusals.{never-refused}
use Rattle.agg_pages.specs.Answer.{IsNeverRefused, limits_of, query_in}

-- under the limits of such an input there is room for its walk
pub generated-never-refused : {B : Type 0} (tree_for : B → List (List ℕ) → Option QueryTree)
    (seed : ℕ) → IsNeverRefused tree_for (generated seed)
unfolding generated
generated-never-refused {B = B} tree_for seed = record {
  asked = may_ask (query_in tree_for (generated seed)) seed 12;
  fits = never-refused (built_matches (query_in tree_for (generated seed)))
      (limits_of {B = B} (generated seed)) (omega arith) (omega arith) All []
      (replicate 12 (generated_snapshot seed)) (snapshots_small seed 12);
}
