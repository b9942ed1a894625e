use Rattle.peslumok_texts.proofs.lemmas.words.Prefixes.{after_prefix-strips}
use Rattle.peslumok_texts.proofs.words.condition.after_prefix.Goals as goal

pub returns : goal.returns
returns c =
    after_prefix-strips c.args.prefix.now c.args.text.now c.strip_prefix.result
    c.strip_prefix.ensures.cases
