use Rattle.agg_pages.proofs.PlainWalks.{plain_text-unique}
use Rattle.agg_pages.proofs.laws.a_printed_walk_is_the_plain_walk.Goals as goal

pub returns-clause-only : goal.returns-clause-only
returns-clause-only g c = λ tree_for i. plain_text-unique tree_for i
