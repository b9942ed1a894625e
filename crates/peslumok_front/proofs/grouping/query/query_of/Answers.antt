use Rattle.peslumok_front.proofs.lemmas.grouping.AskedQueries.{no_text, with_text}
use Rattle.peslumok_front.proofs.grouping.query.query_of.Goals as goal

pub returns-in_default-clause-met : goal.returns-in_default-clause-met
returns-in_default-clause-met c =
    no_text c.args.grouping.now c.all_of.result c.in_ok-must.must c.in_default.is
    c.in_ok-must.ensures.met c.all_of.ensures

pub returns-clause-met : goal.returns-clause-met
returns-clause-met c =
    with_text c.args.grouping.now c.all_of-2.result c.in-Some.text c.in_ok-said.said
    c.in_ok-must.must c.push.new.self c.in-Some.is c.in_ok-said.ensures.said
    c.in_ok-push.ensures.ok c.in_ok-must.ensures.met c.all_of-2.ensures
