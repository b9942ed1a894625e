use Rattle.std.proofs.Common.{subst}
use Rattle.peslumok_records.specs.held.Asked.{Asks}
use Rattle.peslumok_front.proofs.lemmas.front.AskedAll.{ask-more, ask-start}
use Rattle.peslumok_front.proofs.front.grouped.ask_all.Goals as goal

pub loop-name-init : goal.loop-name-init
loop-name-init c =
    ask-start c.args.fields.now c.iter-name-items.result c.into_iter-name-iterator.result
    c.new-asked.result c.new-asked.ensures c.iter-name-items.ensures.entries
    c.into_iter-name-iterator.ensures.into_iter_gives

pub loop-name-preserved : goal.loop-name-preserved
loop-name-preserved c =
    let asks = subst (λ name. Asks name c.in-Some.of.now c.loop-name.asked c.ask.new.self)
    c.in_ok-name.ensures c.in_ok-ask.ensures.ok in
    ask-more c.args.fields.now c.loop-name.asked c.ask.new.self c.loop-name.name-iterator
    c.next.new.self c.in-Some.name.now c.in-Some.of.now c.iter-name-items.ensures.ascending
    c.loop-name.invariant c.in-Some.ensures.steps asks
