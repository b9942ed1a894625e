use Rattle.std.proofs.Common.{◌≡◌, ◌++◌, string_bytes, true, map}
use Rattle.agg_results.specs.final_results.Appending.{more_items}
use Rattle.agg_results.specs.final_results.ResultsText.{member_text}
use Rattle.agg_results.proofs.final_results.json_text.NameMapJsonText.write_to.Given as goal

-- the text so far with the members that are left is the whole
abbrev pub invariant-loop-name : goal.invariant-loop-name
invariant-loop-name g l =
    string_bytes l.text
    ++ more_items l.first (map (λ e. member_text e.0 (g.T.JsonText.json e.1)) l.name-iterator)
    ≡ string_bytes l.initial.text
    ++ more_items true (map (λ e. member_text e.0 (g.T.JsonText.json e.1)) l.self)
