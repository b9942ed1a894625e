use Rattle.std.proofs.Common.{ℕ, ap, ◌∙◌}
use Rattle.agg_values.specs.Names.{put}
use Rattle.agg_results.proofs.lemmas.intermediate_results.EmptyResults.{AreMadeUpTo}
use Rattle.agg_results.proofs.lemmas.intermediate_results.EmptyResults.{AreMadeUpTo-all}
use Rattle.agg_results.proofs.lemmas.intermediate_results.EmptyResults.{AreMadeUpTo-more}
use Rattle.agg_results.proofs.lemmas.intermediate_results.EmptyResults.{AreMadeUpTo-none}
use Rattle.agg_results.proofs.intermediate_results.empty.+empty.Given as given
use Rattle.agg_results.proofs.intermediate_results.empty.+empty.Goals as goal
use Rattle.agg_results.proofs.intermediate_results.empty.+empty.Goals.{empty_results-In_ok-insert}

pub empty_results-loop-name-init : goal.empty_results-loop-name-init
empty_results-loop-name-init g t c =
    AreMadeUpTo-none c.args.aggs.now c.into_iter-name-iterator.result c.new-results.result
    (c.into_iter-name-iterator.ensures.into_iter_gives ∙ c.iter-name-items.ensures.entries)
    c.new-results.ensures

-- one more name
more : (g : given.Over) (t : ℕ) (c : empty_results-In_ok-insert g t)
    → AreMadeUpTo c.args.aggs.now c.next.new.self c.insert.new.self
more g t c =
    AreMadeUpTo-more c.args.aggs.now c.loop-name.name-iterator c.loop-name.results
    c.insert.new.self c.in-Some.name.now c.in-Some.aggregation.now c.next.new.self
    c.in_ok-empty.empty c.iter-name-items.ensures.ascending c.loop-name.invariant
    c.in-Some.ensures.steps
    (c.in_ok-insert.ensures.ok
    ∙ ap (λ n. put n c.in_ok-empty.empty c.loop-name.results) c.in_ok-try_clone.ensures)
    c.in_ok-empty.ensures

pub empty_results-loop-name-preserved-in_ok-insert :
    goal.empty_results-loop-name-preserved-in_ok-insert
empty_results-loop-name-preserved-in_ok-insert g t c =
    more g t (goal.at.empty_results-loop-name-preserved-in_ok-insert g t c).In_ok-insert

pub empty_results-loop-name-preserved-in_ok-insert-2 :
    goal.empty_results-loop-name-preserved-in_ok-insert-2
empty_results-loop-name-preserved-in_ok-insert-2 g t c =
    more g t (goal.at.empty_results-loop-name-preserved-in_ok-insert-2 g t c).In_ok-insert

pub empty_results-loop-name-preserved-in_ok-insert-3 :
    goal.empty_results-loop-name-preserved-in_ok-insert-3
empty_results-loop-name-preserved-in_ok-insert-3 g t c =
    more g t (goal.at.empty_results-loop-name-preserved-in_ok-insert-3 g t c).In_ok-insert

pub empty_results-loop-name-preserved :
    goal.empty_results-loop-name-preserved
empty_results-loop-name-preserved g t c =
    more g t (goal.at.empty_results-loop-name-preserved g t c).In_ok-insert

pub empty_results-returns-clause-empty : goal.empty_results-returns-clause-empty
empty_results-returns-clause-empty g t c =
    AreMadeUpTo-all c.args.aggs.now c.loop-name.name-iterator c.loop-name.results
    c.loop-name.invariant c.in-None.ensures.steps.0
