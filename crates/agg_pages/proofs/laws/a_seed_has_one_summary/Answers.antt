use Rattle.agg_pages.proofs.lemmas.generated_walks.SeedSummaries.{summaries-same}
use Rattle.agg_pages.proofs.laws.a_seed_has_one_summary.Goals as goal

pub returns : goal.returns
returns g c = λ tree_for others_for seed. summaries-same tree_for others_for seed
