use Rattle.std.proofs.lemmas.Result.{err_from_is_err_and}
use Rattle.agg_pages.proofs.lemmas.document_json.FieldValues.{adds_more, no_keys_at}
use Rattle.agg_pages.proofs.document_json.document.add_items.Goals as goal

pub returns-in_err-add_item-clause-not_input : goal.returns-in_err-add_item-clause-not_input
returns-in_err-add_item-clause-not_input c = λ refused.
    let p = err_from_is_err_and c.from_residual.result c.from_residual.ensures.1 in
    no_keys_at c.args.items.now c.loop-item.item-index c.item-item.result c.loop-item-test.true
    c.item-item.is (c.in_err-add_item.ensures.not_input (cc (refused, p.1, p.2)))

pub loop-item-preserved : goal.loop-item-preserved
loop-item-preserved c =
    adds_more c.args.name.now c.args.items.now c.loop-item.item-index c.item-item.result
    c.args.document.now c.loop-item.document c.add_item.new.document c.loop-item-test.true
    c.item-item.is c.loop-item.invariant c.in_ok-add_item.ensures.ok
