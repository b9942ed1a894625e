use Rattle.std.proofs.Common.{take}
use Rattle.std.specs.List.{All}
use Rattle.agg_results.specs.intermediate_results.Intermediate.{below_entry}
use Rattle.agg_results.specs.intermediate_results.Refusals.{HoldsUnknown}
use Rattle.agg_results.proofs.lemmas.intermediate_results.LeftOver.{IsLeft}
use Rattle.agg_results.proofs.lemmas.intermediate_results.Refusals.{IsUnknownAt}
use Rattle.agg_results.proofs.intermediate_results.final_results.unknown_names.+unknown_names.Given
    as goal

-- no entry so far has one below it
abbrev pub invariant-entries_hold_unknown-loop-entry :
    goal.invariant-entries_hold_unknown-loop-entry
invariant-entries_hold_unknown-loop-entry g l =
    All (λ e. ¬ (HoldsUnknown l.req (below_entry e.1))) (take l.entry-index l.entries)

-- no name so far is unknown
abbrev pub invariant-holds_unknown-loop-name : goal.invariant-holds_unknown-loop-name
invariant-holds_unknown-loop-name g l =
    IsLeft (IsUnknownAt l.req) l.held.results l.name-iterator
