use Rattle.std.proofs.Common.{Err, inl, inr, ap, subst, sym}
use Rattle.std.proofs.lemmas.Result.{err_from_is_err_and}
use Rattle.serde_json.specs.View.{view}
use Rattle.agg_request.specs.reading.RequestJson.{IsNoRequest}
use Rattle.agg_pages.specs.input_text.Header.{IsRequestAt}
use Rattle.agg_values.specs.Nothing.{NoneIs}
use Rattle.agg_pages.proofs.input_text.header.request_in.Goals as goal

pub returns-in_err-read_request-clause-not_input : goal.returns-in_err-read_request-clause-not_input
returns-in_err-read_request-clause-not_input g c = λ refused.
    let p = err_from_is_err_and c.from_residual-in_err-read_request.result
    c.from_residual-in_err-read_request.ensures.1 in
    let none : IsNoRequest g.B.HasName.name_of (view c.in_ok-member.field-0.now)
    c.args.builders.items =
    elim (p.2.0 (cc (refused, p.1))) [
      | inl unsupported ↦ c.in_err-read_request.ensures.none (inl (ap Err unsupported))
      | inr other ↦ elim other [
        | inl grammar ↦ c.in_err-read_request.ensures.none (inr (inl (ap Err grammar)))
        | inr unknown ↦ c.in_err-read_request.ensures.none (inr (inr (ap Err unknown)))
      ]
    ] in
    subst (λ o. NoneIs (IsRequestAt c.args.builders.items g.B.HasName.name_of o))
    (sym c.in_ok-member.ensures.ok) none
