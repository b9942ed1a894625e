use Rattle.std.proofs.Common.{[], replicate}
use Rattle.agg_request_tree.specs.Matching.{built_matches}
use Rattle.agg_segment.specs.declared.query.QueryTree.TheVariants.{All}
use Rattle.agg_pages.specs.generator.Documents.{generated_snapshot}
use Rattle.agg_pages.specs.generator.Generator.{generated}
use Rattle.agg_pages.proofs.lemmas.generated_walks.GeneratedInputs.{may_ask, snapshots_small}
use Rattle.agg_pages.proofs.lemmas.generated_walks.NoRefusals.{never-refused}
use Rattle.agg_pages.proofs.generated_walks.laws.generated_walks_are_never_refused.Goals as goal

pub returns-clause-asked : goal.returns-clause-asked
unfolding generated
returns-clause-asked g c = λ query_for seed. may_ask query_for seed 12

pub returns-clause-answered : goal.returns-clause-answered
unfolding generated
returns-clause-answered g c = λ query_for seed limits memory buckets.
    never-refused (built_matches query_for) limits memory buckets All []
    (replicate 12 (generated_snapshot seed)) (snapshots_small seed 12)
