use Rattle.std.proofs.Common.{[], ◌∷◌, false}
use Rattle.agg_composite.specs.Listing.{CountsTuples}
use Rattle.agg_composite.specs.Walk.{walked}
use Rattle.agg_composite.proofs.VisitsInRow.{SoFar}
use Rattle.agg_composite.proofs.walk.listing.count_choices.Given as goal

abbrev pub invariant-loop-choice : goal.invariant-loop-choice
invariant-loop-choice g l =
    SoFar CountsTuples (λ choices. walked (choices ∷ []) [] false) l.choices l.choice-index
    l.fn.counts l.counts l.fn.steps l.steps
