use Rattle.std.proofs.Common.{[], ◌∷◌, ◌++◌, sym, ap, ◌∙◌}
use Rattle.std.proofs.lemmas.Result.{err_from_is_err_and}
use Rattle.agg_pages.proofs.lemmas.document_json.FieldValues.{adds_item, no_keys_item}
use Rattle.agg_pages.proofs.document_json.document.add_item.Goals as goal

pub returns-in_err-value-clause-not_input : goal.returns-in_err-value-clause-not_input
returns-in_err-value-clause-not_input c = λ refused.
    let p = err_from_is_err_and c.from_residual.result c.from_residual.ensures.1 in
    no_keys_item c.args.item.now (sym c.is_null.ensures ∙ c.if-is_null.false)
    (c.in_err-value.ensures.not_input (cc (refused, p.1, p.2)))

pub returns-clause-ok : goal.returns-clause-ok
returns-clause-ok c =
    adds_item c.args.name.now c.args.item.now c.in_ok-value.value c.args.document.now
    c.add.new.self (sym c.is_null.ensures ∙ c.if-is_null.false) c.in_ok-value.ensures.ok
    (c.in_ok-add.ensures.ok
    ∙ ap (λ n. c.args.document.now ++ (n, c.in_ok-value.value) ∷ []) c.in_ok-copy_of.ensures)
