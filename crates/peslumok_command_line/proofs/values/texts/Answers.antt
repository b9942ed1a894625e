use Rattle.std.proofs.Common.{◌∙◌, ap, [], List, Option, Bor, map, unwrap_or}
use Rattle.std.proofs.lemmas.Result.{IfOk-weaker}
use Rattle.clap.specs.Words.{Text, found_of}
use Rattle.clap.proofs.WalkLemmas.{raw_values-rows}
use Rattle.peslumok_command_line.proofs.values.texts.Goals as goal

pub returns-in-Some : goal.returns-in-Some
returns-in-Some c =
    let rows = raw_values-rows (found_of c.args.matches.now) c.args.id.now in
    let same = ap (λ (o : Option (List Text)). unwrap_or o []) (c.in-Some.ensures ∙ rows) in
    IfOk-weaker c.to_vec.result _ _
    (λ v h. ap (map (λ (text : Bor Text). text.now)) (h (λ x y e. e)) ∙ same)
    c.to_vec.ensures.items_if_clones_equal

pub returns-in-None : goal.returns-in-None
returns-in-None c =
    let rows = raw_values-rows (found_of c.args.matches.now) c.args.id.now in
    ap (map (λ (text : Bor Text). text.now)) c.new.ensures.items
    ∙ ap (λ (o : Option (List Text)). unwrap_or o []) (c.in-None.ensures ∙ rows)
