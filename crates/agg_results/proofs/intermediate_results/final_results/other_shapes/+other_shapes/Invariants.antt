use Rattle.std.proofs.Common.{take}
use Rattle.std.specs.List.{All}
use Rattle.agg_results.specs.intermediate_results.Intermediate.{below_entry}
use Rattle.agg_results.specs.intermediate_results.Refusals.{HoldsOther}
use Rattle.agg_results.proofs.lemmas.intermediate_results.AskedNames.{IsToldAt}
use Rattle.agg_results.proofs.lemmas.intermediate_results.LeftOver.{IsLeft}
use Rattle.agg_results.proofs.lemmas.intermediate_results.Refusals.{OtherHere}
use Rattle.agg_results.proofs.intermediate_results.final_results.other_shapes.+other_shapes.Given
    as goal

-- no entry so far has one below it
abbrev pub invariant-entries_hold_other-loop-entry : goal.invariant-entries_hold_other-loop-entry
invariant-entries_hold_other-loop-entry g l =
    All (λ e. ¬ (HoldsOther l.req (below_entry e.1))) (take l.entry-index l.entries)

-- no result so far is of another shape
abbrev pub invariant-holds_other-loop-name : goal.invariant-holds_other-loop-name
invariant-holds_other-loop-name g l =
    IsLeft (IsToldAt (OtherHere l.req) l.req) l.held.results l.name-iterator
