use Rattle.peslumok_front.proofs.lemmas.grouping.MatchedTerms.{matches-some}
use Rattle.peslumok_front.proofs.grouping.boolean.some_of.Goals as goal

pub returns : goal.returns
returns c document =
    matches-some c.new.result c.args.should c.new-2.result document c.new.ensures c.new-2.ensures
