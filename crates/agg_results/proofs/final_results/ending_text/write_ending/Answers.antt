use Rattle.std.proofs.Common.{◌∙◌, ◌++◌, arith, ap, map, string_bytes, sym}
use Rattle.agg_results.specs.final_results.ResultsText.{member_text}
use Rattle.agg_results.specs.final_results.PartTexts.{result_text}
use Rattle.agg_results.proofs.lemmas.final_results.AppendedItems.{all-appended, byte-appended}
use Rattle.agg_results.proofs.lemmas.final_results.ResultFolds.{results_text-object}
use Rattle.agg_results.proofs.final_results.ending_text.write_ending.Goals as goal

pub returns : goal.returns
returns c =
    let none = rw c.in_default.is at c.in_ok-name.ensures in
    all-appended _ _ _ _ (map (λ e. member_text e.0 (result_text e.1)) c.args.results.0) _ _ 123 125
    (byte-appended _ _ _ 123 c.in_ok-push.ensures.bytes (c.in_ok-push.ensures.ascii (omega arith)))
    c.loop-rest.invariant
    (ap (map (λ e. member_text e.0 (result_text e.1))) none)
    (byte-appended _ _ _ 125 c.in_ok-push-2.ensures.bytes
    (c.in_ok-push-2.ensures.ascii (omega arith)))
    ∙ ap (λ t. string_bytes c.args.text.now ++ t) (sym (results_text-object c.args.results))
