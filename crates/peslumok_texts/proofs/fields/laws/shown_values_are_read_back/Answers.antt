use Rattle.std.proofs.Common.{ap, Ok}
use Rattle.peslumok_texts.proofs.lemmas.dates.Printed.{reads-date}
use Rattle.peslumok_texts.proofs.lemmas.decimals.ReadBack.{decimal_of-decimal_text}
use Rattle.peslumok_texts.specs.fields.Values.{number_or_text, date_value, decimal_value}
use Rattle.std.specs.Fmt.{signed_decimal}
use Rattle.peslumok_texts.proofs.lemmas.fields.WholeTexts.{whole_of-signed_decimal}
use Rattle.peslumok_texts.proofs.fields.laws.shown_values_are_read_back.Goals as goal

pub returns-clause-numbers : goal.returns-clause-numbers
returns-clause-numbers c = λ number small.
    ap (λ whole. Ok (number_or_text (signed_decimal number) whole))
    (whole_of-signed_decimal number small)

pub returns-clause-decimals : goal.returns-clause-decimals
returns-clause-decimals c = λ places number small.
    ap (decimal_value places) (decimal_of-decimal_text places number small)

pub returns-clause-dates : goal.returns-clause-dates
returns-clause-dates c = λ nanos text fits written.
    ap date_value (reads-date nanos text fits written)
