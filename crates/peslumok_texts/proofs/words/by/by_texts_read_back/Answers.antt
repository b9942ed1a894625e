use Rattle.peslumok_texts.proofs.lemmas.words.Spelled.{stands}
use Rattle.peslumok_texts.proofs.words.by.by_texts_read_back.Goals as goal

pub returns : goal.returns
returns c = stands
