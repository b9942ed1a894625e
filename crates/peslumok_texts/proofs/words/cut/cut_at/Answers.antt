use Rattle.std.proofs.Common.{None, Some, sym}
use Rattle.peslumok_texts.proofs.lemmas.words.WordCuts.{cut_at-splits}
use Rattle.peslumok_texts.proofs.words.cut.cut_at.Goals as goal

pub returns-in-Some : goal.returns-in-Some
returns-in-Some c =
    sym (cut_at-splits c.args.word.now c.args.text.now (Some (c.in-Some.front, c.in-Some.rest))
    c.requires c.in-Some.ensures.cases)

pub returns-in-None : goal.returns-in-None
returns-in-None c =
    sym (cut_at-splits c.args.word.now c.args.text.now None c.requires c.in-None.ensures.cases)
