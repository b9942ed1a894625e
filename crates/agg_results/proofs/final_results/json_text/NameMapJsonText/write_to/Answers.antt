use Rattle.std.proofs.Common.{ap, map, List, ℕ, arith}
use Rattle.agg_results.specs.final_results.ResultsText.{member_text}
use Rattle.agg_results.proofs.lemmas.final_results.AppendedItems.{all-appended, byte-appended}
use Rattle.agg_results.proofs.lemmas.final_results.AppendedItems.{item-appended, member-appended}
use Rattle.agg_results.proofs.final_results.json_text.NameMapJsonText.write_to.Goals as goal

pub loop-name-preserved : goal.loop-name-preserved
loop-name-preserved g c =
    let text = λ (e : List ℕ × g.row.T.Denot). member_text e.0 (g.T.JsonText.json e.1) in
    let member = member-appended _ _ _ _ _ c.in-Some.name.now
    (g.T.JsonText.json c.in-Some.value.now) _ c.in_ok-write_comma.ensures.comma c.as_str.ensures
    c.in_ok-write_name.ensures c.in_ok-write_to.ensures in
    item-appended _ _ _ _ _ _ _ _ (ap (map text) c.in-Some.ensures.steps) member
    c.write_comma.ensures.next c.loop-name.invariant

pub returns : goal.returns
returns g c =
    let text = λ (e : List ℕ × g.row.T.Denot). member_text e.0 (g.T.JsonText.json e.1) in
    all-appended _ _ _ _ (map text c.args.self.now) _ _ 123 125
    (byte-appended _ _ _ 123 c.in_ok-push.ensures.bytes (c.in_ok-push.ensures.ascii (omega arith)))
    c.loop-name.invariant
    (ap (map text) c.in-None.ensures.steps.0)
    (byte-appended _ _ _ 125 c.in_ok-push-2.ensures.bytes
    (c.in_ok-push-2.ensures.ascii (omega arith)))
