use Rattle.agg_segment.proofs.lemmas.storage.OneEachNumbers.{number_of_one, number_of_none}
use Rattle.agg_segment.proofs.storage.rows.one_number.Goals as goal

pub returns-then-at-numbers : goal.returns-then-at-numbers
returns-then-at-numbers c = number_of_one c.args.numbers.now c.args.doc c.if-at-numbers.true

pub returns : goal.returns
returns c = number_of_none c.args.numbers.now c.args.doc c.if-at-numbers.false
