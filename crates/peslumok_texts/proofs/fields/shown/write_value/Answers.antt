use Rattle.std.proofs.Common.{◌≡◌, rules, w64, to_z, of_z}
use Rattle.peslumok_texts.proofs.lemmas.fields.ShownTexts.{date_text}
use Rattle.peslumok_texts.proofs.fields.shown.write_value.Goals as goal

pub returns-in_ok-write_date-in-DateTime : goal.returns-in_ok-write_date-in-DateTime
returns-in_ok-write_date-in-DateTime c =
    let written = c.in_ok-write_date-in-DateTime.ensures.text in
    let same : to_z w64 (of_z w64 c.in-DateTime.nanos) ≡ c.in-DateTime.nanos = search rules in
    let nanos = to_z w64 (of_z w64 c.in-DateTime.nanos) in
    let reads = date_text c.args.of c.args.value.now c.in-DateTime.nanos nanos written.0 in
    (written.0, written.1, reads c.in-DateTime.is same written.2)
