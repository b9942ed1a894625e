use Rattle.std.proofs.Common.{◌∷◌}
use Rattle.agg_pages.proofs.lemmas.input_text.SnapshotSteps.{HasTaken}
use Rattle.agg_pages.proofs.input_text.snapshots.read_from.Given as goal

-- the lines so far were taken
abbrev pub invariant-loop-line : goal.invariant-loop-line
invariant-loop-line l =
    (goal.iterator-loop-line).can_next l.line-iterator ×
    (goal.iterator-loop-line).is_finite l.line-iterator ×
    HasTaken (l.fn.first ∷ l.fn.lines) l.builder l.line-iterator
