use Rattle.std.proofs.lemmas.Result.{err_from_is_err_and, on_ok_weaker}
use Rattle.agg_pages.proofs.lemmas.document_json.TokenLines.{held_from, none_from}
use Rattle.agg_pages.proofs.document_json.document.read_document.Goals as goal

pub returns-in_err-read_document_tokens-clause-not_input
    : goal.returns-in_err-read_document_tokens-clause-not_input
returns-in_err-read_document_tokens-clause-not_input c = λ refused.
    let p = err_from_is_err_and c.from_residual.result c.from_residual.ensures.1 in
    c.in_err-read_document_tokens.ensures.not_input (cc (refused, p.1, p.2))

pub returns : goal.returns
returns c =
    let line = c.args.line.now in
    let old = c.args.builder.now in
    let now = c.read_document_tokens.new.builder in
    let kept = c.in_ok-read_document_tokens.ensures.left c.if-branch.false in record {
      ok = on_ok_weaker c.read_by_value.result
          (held_from line old now kept c.read_by_value.new.builder) c.read_by_value.ensures.ok;
      not_input = λ refused.
          none_from line old now kept (c.read_by_value.ensures.not_input refused);
    }
