use Rattle.std.proofs.Common.{◌≡◌, ◌∙◌, ℤ, FitsSigned, w64, subst, ap, to_z, of_z}
use mir.Syntax.{w128}
use Rattle.std.proofs.lemmas.Int.{to_z-of_z}
use Rattle.peslumok_texts.proofs.lemmas.fields.ShownTexts.{nanos_text}
use Rattle.peslumok_texts.proofs.fields.shown.write_nanos.Goals as goal

pub returns-in_ok-write_date-in-Ok : goal.returns-in_ok-write_date-in-Ok
returns-in_ok-write_date-in-Ok c =
    let written = c.in_ok-write_date-in-Ok.ensures.text in
    let number : to_z w128 (of_z w128 c.args.number) ≡ c.args.number =
    to_z-of_z w128 c.args.number c.ranges.number in
    let fits : FitsSigned w64 c.args.number = subst (FitsSigned w64) number c.in-Ok.ensures.0 in
    let same : to_z w64 (of_z w64 c.in-Ok.nanos) ≡ c.args.number =
    ap (λ (n : ℤ). to_z w64 (of_z w64 n)) (c.in-Ok.ensures.1 ∙ number)
    ∙ to_z-of_z w64 c.args.number fits in
    let reads = nanos_text c.args.number (to_z w64 (of_z w64 c.in-Ok.nanos)) written.0 in
    (written.0, written.1, reads same fits written.2)
