use Rattle.agg_request.proofs.lemmas.json_values.JsonLemmas.{has_members_from}
use Rattle.agg_request.proofs.json_values.json_value.has_members.Goals as goal

pub returns-in-Some : goal.returns-in-Some
returns-in-Some c = has_members_from _ c.in-Some.members.now.entries _ _ c.in-Some.ensures
    c.len.ensures.len
