use Rattle.std.proofs.Common.{◌≡◌, ◌∙◌, ℤ, true, false, sym, ap, Some, to_z, of_z}
use mir.Syntax.{w128}
use Rattle.std.specs.Str.Parse.{signed_digits_value}
use Rattle.std.proofs.lemmas.Int.{to_z-of_z}
use Rattle.peslumok_texts.specs.fields.Wholes.{begins_bare, has_64_bits}
use Rattle.peslumok_texts.proofs.lemmas.fields.WholeTexts.{none_unless_bare, none_unless_digits}
use Rattle.peslumok_texts.proofs.lemmas.fields.WholeTexts.{some_where_bare}
use Rattle.peslumok_texts.proofs.fields.whole.whole_number.Goals as goal

pub returns-then-not-begins_bare-clause-value : goal.returns-then-not-begins_bare-clause-value
returns-then-not-begins_bare-clause-value c =
    let bare : begins_bare c.args.text.now ≡ false = ap begins_bare (sym c.as_bytes.ensures.value)
    ∙ sym c.begins_bare.ensures ∙ c.if-not-begins_bare.true in
    sym (none_unless_bare c.args.text.now bare)

pub returns-in-Ok-clause-value : goal.returns-in-Ok-clause-value
returns-in-Ok-clause-value c =
    let read = c.in-Ok.ensures.value.0 in
    let number : to_z w128 (of_z w128 c.in-Ok.number) ≡ signed_digits_value 10 c.args.text.now =
    ap (λ (n : ℤ). to_z w128 (of_z w128 n)) read.1
    ∙ to_z-of_z w128 (signed_digits_value 10 c.args.text.now) read.0.1 in
    let bare : begins_bare c.args.text.now ≡ true = ap begins_bare (sym c.as_bytes.ensures.value)
    ∙ sym c.begins_bare.ensures ∙ c.if-not-begins_bare.false in
    let small : has_64_bits (signed_digits_value 10 c.args.text.now) ≡ true =
    ap has_64_bits (sym number) ∙ sym c.has_64_bits.ensures ∙ c.if-has_64_bits.true in
    ap Some number ∙ sym (some_where_bare c.args.text.now bare read.0.0 small)

pub returns-in_default-2-clause-value : goal.returns-in_default-2-clause-value
returns-in_default-2-clause-value c =
    sym (none_unless_digits c.args.text.now c.in_default.ensures.value.0)
