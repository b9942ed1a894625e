use Rattle.peslumok_texts.proofs.lemmas.dates.Printed.{reads-date}
use Rattle.peslumok_texts.proofs.dates.laws.date_texts_are_read_back.Goals as goal

pub returns : goal.returns
returns c = reads-date
