use Rattle.std.proofs.Common.{rules}
use Rattle.agg_pages.specs.generator.Draws.{state_after}
use Rattle.agg_pages.proofs.generator.documents.next_document.Goals as goal

pub returns-clause-values : goal.returns-clause-values
unfolding state_after
returns-clause-values c = search rules

pub returns-clause-state : goal.returns-clause-state
unfolding state_after
returns-clause-state c = cc
