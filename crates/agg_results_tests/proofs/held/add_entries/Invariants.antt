use Rattle.std.proofs.Common.{◌≡◌}
use Rattle.agg_results.specs.intermediate_results.Intermediate.{target_size_of}
use Rattle.agg_results_tests.proofs.held.add_entries.Given as goal

abbrev pub invariant-loop-key : goal.invariant-loop-key
invariant-loop-key g l = target_size_of l.page ≡ target_size_of l.initial.page
