use Rattle.std.proofs.Common.{◌≡◌, ◌∙◌, ℤ, ap, to_z, of_z, w64}
use Rattle.std.specs.Str.Parse.{signed_digits_value}
use Rattle.std.proofs.lemmas.Int.{to_z-of_z}
use Rattle.peslumok_front.proofs.lemmas.grouping.Widths.{no_number, read_number}
use Rattle.peslumok_front.proofs.grouping.division.Division.of_numbers.Goals as goal

pub returns-in-Ok : goal.returns-in-Ok
returns-in-Ok c =
    let text = c.args.interval.now in
    let read = c.in-Ok.ensures.value.0 in
    let width : to_z w64 (of_z w64 c.in-Ok.width) ≡ signed_digits_value 10 text =
    ap (λ (n : ℤ). to_z w64 (of_z w64 n)) read.1
    ∙ to_z-of_z w64 (signed_digits_value 10 text) read.0.1 in
    c.of_width.ensures
    ∙ read_number text (to_z w64 (of_z w64 c.in-Ok.width)) read.0.0 read.0.1 width

pub returns-in-Err : goal.returns-in-Err
returns-in-Err c = no_number c.args.interval.now c.in-Err.ensures.value.0
