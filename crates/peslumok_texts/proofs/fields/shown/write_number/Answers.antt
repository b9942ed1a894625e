use Rattle.std.proofs.Common.{◌≡◌, to_z, of_z}
use mir.Syntax.{w128}
use Rattle.std.proofs.lemmas.Int.{to_z-of_z}
use Rattle.std.proofs.lemmas.Result.{on_ok_weaker}
use Rattle.peslumok_texts.proofs.lemmas.fields.ShownTexts.{number_text}
use Rattle.peslumok_texts.proofs.fields.shown.write_number.Goals as goal

pub returns-in-Date : goal.returns-in-Date
returns-in-Date c =
    let number : to_z w128 (of_z w128 c.args.number) ≡ c.args.number =
    to_z-of_z w128 c.args.number c.ranges.number in
    let reads = number_text c.args.of c.args.number (to_z w128 (of_z w128 c.args.number)) in
    on_ok_weaker c.write_nanos.result
    (λ written. (written.0, written.1, reads written.0 c.in-Date.is number written.2))
    c.write_nanos.ensures
