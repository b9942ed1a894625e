use Rattle.std.proofs.Common.{sym, ap, ◌∙◌}
use Rattle.std.proofs.lemmas.Result.{err_from_is_err_and}
use Rattle.serde_json.specs.View.{view}
use Rattle.agg_request.specs.json_values.Json.{has_members}
use Rattle.agg_pages.proofs.lemmas.input_text.Headers.{no_bucket_limit, no_memory_limit, no_name}
use Rattle.agg_pages.proofs.lemmas.input_text.Headers.{no_query, no_request, no_schema}
use Rattle.agg_pages.proofs.lemmas.input_text.Headers.{other_members}
use Rattle.agg_pages.proofs.input_text.header.header_of_value.Goals as goal

pub returns-then-not-has_members-clause-not_input
    : goal.returns-then-not-has_members-clause-not_input
returns-then-not-has_members-clause-not_input g c = λ _.
    other_members c.args.builders.items g.B.HasName.name_of (view c.args.value.now)
    (sym (c.has_members.ensures ∙ ap (λ n. has_members n (view c.args.value.now))
    c.header_members.ensures) ∙ c.if-not-has_members.true)

pub returns-in_err-request-clause-not_input : goal.returns-in_err-request-clause-not_input
returns-in_err-request-clause-not_input g c = λ refused.
    let p = err_from_is_err_and c.from_residual.result c.from_residual.ensures.1 in
    no_request c.args.builders.items g.B.HasName.name_of (view c.args.value.now)
    (c.in_err-request.ensures.not_input (cc (refused, p.1, p.2)))

pub returns-in_err-name-clause-not_input : goal.returns-in_err-name-clause-not_input
returns-in_err-name-clause-not_input g c = λ refused.
    let p = err_from_is_err_and c.from_residual-in_err-name.result
    c.from_residual-in_err-name.ensures.1 in
    no_name c.args.builders.items g.B.HasName.name_of (view c.args.value.now)
    (c.in_err-name.ensures.not_input (cc (refused, p.1, p.2)))

pub returns-in_err-schema-clause-not_input : goal.returns-in_err-schema-clause-not_input
returns-in_err-schema-clause-not_input g c = λ refused.
    let p = err_from_is_err_and c.from_residual-in_err-schema.result
    c.from_residual-in_err-schema.ensures.1 in
    no_schema c.args.builders.items g.B.HasName.name_of (view c.args.value.now)
    (c.in_err-schema.ensures.not_input (cc (refused, p.1, p.2)))

pub returns-in_err-query-clause-not_input : goal.returns-in_err-query-clause-not_input
returns-in_err-query-clause-not_input g c = λ refused.
    let p = err_from_is_err_and c.from_residual-in_err-query.result
    c.from_residual-in_err-query.ensures.1 in
    no_query c.args.builders.items g.B.HasName.name_of (view c.args.value.now)
    (c.in_err-query.ensures.not_input (cc (refused, p.1, p.2)))

pub returns-in_err-memory_limit-clause-not_input : goal.returns-in_err-memory_limit-clause-not_input
returns-in_err-memory_limit-clause-not_input g c = λ refused.
    let p = err_from_is_err_and c.from_residual-in_err-memory_limit.result
    c.from_residual-in_err-memory_limit.ensures.1 in
    no_memory_limit c.args.builders.items g.B.HasName.name_of (view c.args.value.now)
    (c.in_err-memory_limit.ensures.not_input (cc (refused, p.1, p.2)))

pub returns-in_err-bucket_limit-clause-not_input : goal.returns-in_err-bucket_limit-clause-not_input
returns-in_err-bucket_limit-clause-not_input g c = λ refused.
    let p = err_from_is_err_and c.from_residual-in_err-bucket_limit.result
    c.from_residual-in_err-bucket_limit.ensures.1 in
    no_bucket_limit c.args.builders.items g.B.HasName.name_of (view c.args.value.now)
    (c.in_err-bucket_limit.ensures.not_input (cc (refused, p.1, p.2)))

pub returns-clause-ok : goal.returns-clause-ok
returns-clause-ok g c = record {
  members = sym (c.has_members.ensures ∙ ap (λ n. has_members n (view c.args.value.now))
      c.header_members.ensures) ∙ c.if-not-has_members.false;
  request = c.in_ok-request.ensures.ok;
  name = c.in_ok-name.ensures.ok;
  schema = c.in_ok-schema.ensures.ok;
  query = c.in_ok-query.ensures.ok;
  memory_limit = c.in_ok-memory_limit.ensures.ok;
  bucket_limit = c.in_ok-bucket_limit.ensures.ok;
}
