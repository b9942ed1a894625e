use Rattle.std.proofs.Common.{◌∙◌, ap}
use Rattle.peslumok_texts.specs.fields.Wholes.{whole_of}
use Rattle.peslumok_texts.proofs.lemmas.fields.WholeTexts.{whole_is, whole_of-signed_decimal}
use Rattle.peslumok_texts.proofs.fields.laws.whole_numbers_are_as_they_are_written.Goals as goal

pub returns : goal.returns
returns c = λ text number. (
  whole_is text number,
  λ written. ap whole_of written.0 ∙ whole_of-signed_decimal number written.1,
)
