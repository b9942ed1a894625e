use Rattle.std.proofs.Common.{Err, inl, inr, ap, subst}
use Rattle.std.proofs.lemmas.Result.{err_from_is_err_and}
use Rattle.serde_json.specs.View.{view}
use Rattle.agg_request.specs.json_values.Query.{IsQuery}
use Rattle.agg_pages.specs.input_text.Header.{IsQueryOf}
use Rattle.agg_values.specs.Nothing.{NoneIs}
use Rattle.agg_pages.proofs.input_text.header.query_of.Goals as goal

pub returns-in_err-read_query-in-Some-clause-not_input
    : goal.returns-in_err-read_query-in-Some-clause-not_input
returns-in_err-read_query-in-Some-clause-not_input c = λ refused.
    let p = err_from_is_err_and c.from_residual.result c.from_residual.ensures.1 in
    let none : NoneIs (IsQuery (view c.in-Some.query.now)) =
    elim (p.2.0 (cc (refused, p.1))) [
      | inl unsupported ↦ c.in_err-read_query-in-Some.ensures.none (inl (ap Err unsupported))
      | inr other ↦ elim other [
        | inl grammar ↦ c.in_err-read_query-in-Some.ensures.none (inr (ap Err grammar))
        | inr unknown ↦ absurd (c.in_err-read_query-in-Some.ensures.kinds (ap Err unknown))
      ]
    ] in
    subst (λ o. NoneIs (IsQueryOf o)) c.in-Some.ensures none
