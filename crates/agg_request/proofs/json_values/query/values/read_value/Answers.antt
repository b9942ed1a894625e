use Rattle.agg_request.proofs.lemmas.json_values.ValueTexts.{read_copy, refused_copy}
use Rattle.agg_request.proofs.json_values.query.values.read_value.Goals as goal

pub returns-in_err-key : goal.returns-in_err-key
returns-in_err-key c =
    refused_copy c.args.text.now c.in_ok-copy_of.field-0 c.in_err-key.field-0.0
    c.from_residual-in_err-key.result c.in_ok-copy_of.ensures c.from_residual-in_err-key.ensures.1
    c.in_err-key.ensures.err c.in_err-key.ensures.each

pub returns : goal.returns
returns c =
    read_copy c.args.text.now c.in_ok-copy_of.field-0 c.in_ok-key.key.0 c.into.result
    c.value_of.result c.ok_or.result c.in_ok-copy_of.ensures c.into.ensures c.ok_or.ensures.value
    c.in_ok-key.ensures.ok c.in_ok-key.ensures.each c.value_of.ensures.some c.value_of.ensures.none
