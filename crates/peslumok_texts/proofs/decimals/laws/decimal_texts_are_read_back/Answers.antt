use Rattle.peslumok_texts.proofs.lemmas.decimals.ReadBack.{decimal_of-decimal_text}
use Rattle.peslumok_texts.proofs.decimals.laws.decimal_texts_are_read_back.Goals as goal

pub returns : goal.returns
returns c = decimal_of-decimal_text
