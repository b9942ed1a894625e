use Rattle.std.proofs.Common.{◌≡◌, [], ◌∷◌}
use Rattle.agg_composite.specs.HeldTuples.{KeepTuples}
use Rattle.agg_composite.specs.Walk.{walked}
use Rattle.agg_composite.proofs.TuplesInRow.{Visited}
use Rattle.agg_composite.proofs.VisitsInRow.{SoFar}
use Rattle.agg_composite.proofs.walk.visit_each.Given as goal

abbrev pub invariant-loop-choice : goal.invariant-loop-choice
invariant-loop-choice g l = record {
  answers :
      SoFar Visited (λ choices. walked (choices ∷ []) l.fn.tuple l.was_above)
      l.choices l.choice-index l.fn.buckets l.buckets l.fn.steps l.steps;
  held : KeepTuples (walked (l.choices ∷ []) l.fn.tuple l.was_above) l.fn.buckets l.buckets;
  same : l.tuple ≡ l.fn.tuple;
}
