use Rattle.std.proofs.Common.{sym, subst}
use Rattle.std.specs.List.{All, Any}
use Rattle.agg_request_tree.specs.Faults.{HasFault, IsSound, RequestHasFault}
use Rattle.agg_request_tree.specs.Request.{agg_of, composites_in, own_composite}
use Rattle.agg_check.proofs.lemmas.refusals.SeenRequests.{Any-of_next, IsSeenUpTo-more}
use Rattle.agg_check.proofs.lemmas.refusals.SeenRequests.{IsSeenUpTo-none}
use Rattle.agg_check.proofs.lemmas.refusals.SoundRequests.{found-below, told-none, told-some}
use Rattle.agg_check.proofs.refusals.place.+places.Goals as goal

pub refused_composite-loop-name-init : goal.refused_composite-loop-name-init
refused_composite-loop-name-init g t c =
    IsSeenUpTo-none own_composite IsSound c.args.request.now c.into_iter-name-iterator.result
    (cc (c.iter-name-items.ensures.entries, c.into_iter-name-iterator.ensures.into_iter_gives))

pub refused_composite-loop-name-preserved : goal.refused_composite-loop-name-preserved
refused_composite-loop-name-preserved g t c =
    IsSeenUpTo-more own_composite IsSound c.args.request.now c.loop-name.name-iterator
    c.in-Some.name.now c.in-Some.aggregation.now c.next.new.self c.loop-name.invariant
    c.in-Some.ensures.steps
    (told-none (All IsSound (composites_in c.in-Some.aggregation.now))
    (λ refused. Any (λ composite. HasFault composite refused.fault)
    (composites_in c.in-Some.aggregation.now)) c.in_ok-found.field-0 c.in-None-2.is
    c.in_ok-found.ensures)

pub refused_composite-returns-in-Some-2 : goal.refused_composite-returns-in-Some-2
refused_composite-returns-in-Some-2 g t c =
    subst (λ fault. RequestHasFault c.args.request.now fault) (sym c.in_ok-named-in-Some-2.ensures)
    (Any-of_next own_composite IsSound (λ composite. HasFault composite c.in-Some-2.found.fault)
    c.args.request.now c.loop-name.name-iterator c.in-Some.name.now c.in-Some.aggregation.now
    c.next.new.self c.loop-name.invariant c.in-Some.ensures.steps
    (told-some (All IsSound (composites_in c.in-Some.aggregation.now))
    (λ refused. Any (λ composite. HasFault composite refused.fault)
    (composites_in c.in-Some.aggregation.now)) c.in_ok-found.field-0 c.in-Some-2.found
    c.in-Some-2.is c.in_ok-found.ensures))

pub refused_below-returns-in-None : goal.refused_below-returns-in-None
refused_below-returns-in-None g t c =
    found-below (λ refused. refused.fault) c.args.aggregation.now c.refused_composite.result
    (told-none (All IsSound (own_composite (agg_of c.args.aggregation.now)))
    (λ refused. Any (λ composite. HasFault composite refused.fault)
    (own_composite (agg_of c.args.aggregation.now))) c.in_ok-found.field-0 c.in-None.is
    c.in_ok-found.ensures) c.refused_composite.ensures
