use Rattle.agg_request_tree.specs.Faults.{IsSoundRequest, RequestHasFault}
use Rattle.agg_check.proofs.lemmas.refusals.SoundRequests.{told-none, told-some}
use Rattle.agg_check.proofs.Verdicts.{unsound}
use Rattle.agg_check.proofs.verdict.refusal_of.Goals as goal

pub returns-in-Some : goal.returns-in-Some
returns-in-Some c =
    let request = c.args.input.now.header.request in
    λ asked. unsound request c.in-Some.found.fault
    (told-some (IsSoundRequest request) (λ found. RequestHasFault request found.fault)
    c.in_ok-found.field-0 c.in-Some.found c.in-Some.is c.in_ok-found.ensures) asked.sound

pub later_refusal-requires : goal.later_refusal-requires
later_refusal-requires c =
    let request = c.args.input.now.header.request in
    told-none (IsSoundRequest request) (λ found. RequestHasFault request found.fault)
    c.in_ok-found.field-0 c.in-None.is c.in_ok-found.ensures
