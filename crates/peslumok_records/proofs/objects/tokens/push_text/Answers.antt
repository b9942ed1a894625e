use Rattle.std.proofs.Common.{◌≡◌, ◌∷◌, [], arith, rules, subst}
use Rattle.json.specs.Lex.{tokens}
use Rattle.json.specs.Token.{Token}
use Rattle.std.proofs.lemmas.Grind.{common_steps}
use Rattle.peslumok_records.specs.objects.Tokens.{TakesMembers}
use Rattle.peslumok_records.proofs.lemmas.objects.TakenMembers.{whole_text}
use Rattle.peslumok_records.proofs.objects.tokens.push_text.Goals as goal

pub returns-clause-taken : goal.returns-clause-taken
returns-clause-taken c = λ over.
    let asked = c.args.asked.now in
    let old = c.args.builder.now in
    let new = c.push_members.new.builder in
    let opens : tokens c.args.text.now ≡ Token.begin_object ∷ c.next.new.self = grind arith in
    let ended : c.push_members.new.reader ≡ [] = grind (arith, common_steps) in
    whole_text asked c.args.text.now c.next.new.self old new opens
    (subst (λ left. TakesMembers asked c.next.new.self left old new) ended
    (c.push_members.ensures.taken (search rules)))
