use Rattle.std.proofs.Common.{◌≡◌, ◌∷◌, length}
use Rattle.agg_composite.specs.HeldTuples.{KeepTuples}
use Rattle.agg_composite.specs.Walk.{parts, walked}
use Rattle.agg_composite.proofs.TuplesInRow.{Visited}
use Rattle.agg_composite.proofs.VisitsInRow.{SoFar}
use Rattle.agg_composite.proofs.walk.+walk_from.Given as goal

abbrev pub decreases-walk_from : goal.decreases-walk_from
decreases-walk_from g l = length l.rest.now.sizes.now

abbrev pub invariant-loop-choice : goal.invariant-loop-choice
invariant-loop-choice g l = record {
  answers :
      SoFar Visited
      (λ choices. walked (choices ∷ parts l.sizes l.choices) l.fn.tuple l.rest.is_above)
      l.own l.choice-index l.fn.buckets l.buckets l.fn.steps l.steps;
  held :
      KeepTuples (walked (l.own ∷ parts l.sizes l.choices) l.fn.tuple l.rest.is_above)
      l.fn.buckets l.buckets;
  same : l.tuple ≡ l.fn.tuple;
}
