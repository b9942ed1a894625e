use Rattle.std.proofs.Common.{◌++◌, ◌∙◌, ap, map-id, string_bytes, sym}
use Rattle.std.proofs.lemmas.Iterator.{YieldsList-from_chars}
use Rattle.std.proofs.lemmas.Iterator.Consumers.{YieldsList-end}
use Rattle.std.specs.Prelude.{flat_map}
use Rattle.peslumok_front.specs.tables.Visible.{visible_char}
use Rattle.peslumok_front.proofs.lemmas.tables.Harmless.{visible-harmless}
use Rattle.peslumok_front.proofs.tables.visible.write_visible.Goals as goal

pub returns-clause-appends : goal.returns-clause-appends
returns-clause-appends c =
    let ends = YieldsList-end (YieldsList-from_chars c.args.text.now c.utf8.text cc)
    c.loop-c.yielded _ c.loop-c.yielded_by _ _ c.in-None.is c.next.ensures.steps in
    c.loop-c.invariant
    ∙ ap (λ all. string_bytes c.args.out.now ++ flat_map visible_char all)
    (sym (map-id c.loop-c.yielded) ∙ ends.0)

pub returns-in_err-write_visible_char-clause-harmless :
    goal.returns-in_err-write_visible_char-clause-harmless
returns-in_err-write_visible_char-clause-harmless c =
    visible-harmless c.args.text.now c.utf8.text

pub returns-clause-harmless : goal.returns-clause-harmless
returns-clause-harmless c = visible-harmless c.args.text.now c.utf8.text
