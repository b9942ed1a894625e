use Rattle.std.proofs.Common.{◌≡◌, ◌≢◌, get_or, rules, arith}
use Rattle.agg_segment.specs.declared.storage.sign.Sign.TheVariants.{Small}
use Rattle.agg_segment.proofs.FieldSigns.{signs_clash, sign_given, given_back}
use Rattle.agg_segment.proofs.signs.give_sign.Goals as goal

pub returns-then-ne-clause-mixed : goal.returns-then-ne-clause-mixed
returns-then-ne-clause-mixed c is before are =
    let says : c.args.sign ≢ Small = grind (arith, rules) in
    let known : get_or c.args.signs.now c.args.field Small ≢ Small = grind (arith, rules) in
    let apart : c.args.sign ≢ get_or c.args.signs.now c.args.field Small = grind (arith, rules) in
    signs_clash c.args.signs.now before c.args.field c.args.sign c.requires says known apart are

pub returns-then-ne-clause-ok : goal.returns-then-ne-clause-ok
returns-then-ne-clause-ok c = search rules

pub returns-clause-ok : goal.returns-clause-ok
returns-clause-ok c before are =
    let small : get_or c.args.signs.now c.args.field Small ≡ Small = grind (arith, rules) in
    sign_given c.args.signs.now before c.args.field c.args.sign c.requires small are

pub returns-clause-undone : goal.returns-clause-undone
returns-clause-undone c =
    let small : get_or c.args.signs.now c.args.field Small ≡ Small = grind (arith, rules) in
    rw c.in_ok-push.ensures.items (given_back c.args.given.now.items c.args.field c.args.sign
    c.args.signs.now c.requires small)
