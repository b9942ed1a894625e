use Rattle.std.proofs.Common.{◌≡◌, ◌++◌, length, map, string_bytes, true}
use Rattle.agg_results.specs.final_results.Appending.{more_items}
use Rattle.agg_results.specs.final_results.ResultsText.{member_text}
use Rattle.agg_results.specs.final_results.PartTexts.{result_text}
use Rattle.agg_results.proofs.final_results.ending_text.write_ending.Given as goal

-- the text so far with the results that are left is the whole
abbrev pub invariant-loop-rest : goal.invariant-loop-rest
invariant-loop-rest l =
    string_bytes l.text
    ++ more_items l.first (map (λ e. member_text e.0 (result_text e.1)) l.rest)
    ≡ string_bytes l.initial.text
    ++ more_items true (map (λ e. member_text e.0 (result_text e.1)) l.fn.results.0)

abbrev pub decreases-loop-rest : goal.decreases-loop-rest
decreases-loop-rest l = length l.rest
