use Rattle.std.proofs.Common.{◌≡◌, Err, sym, ap, ◌∙◌, inl, inr, subst}
use Rattle.std.proofs.lemmas.Result.{err_from_is_err_and}
use Rattle.agg_pages.specs.declared.document_json.input_error.InputError.TheVariants.{NotInput}
use Rattle.agg_pages.specs.declared.source.reading.ReadAllError.TheVariants.{TooLong}
use Rattle.agg_pages.specs.declared.status.Status.TheVariants.{Input}
use Rattle.agg_pages.specs.input_text.Input.{AreNoInput, IsInput}
use Rattle.agg_pages.specs.input_text.StoredInput.{input_of}
use Rattle.agg_pages.proofs.lemmas.input_text.Inputs.{too_long}
use Rattle.agg_pages.proofs.Statuses.{not_input-from_status, too_long-from_status}
use Rattle.agg_pages.proofs.program.answer.Goals as goal

pub returns-in_err-bytes-clause-no_input : goal.returns-in_err-bytes-clause-no_input
returns-in_err-bytes-clause-no_input g c =
    let p = err_from_is_err_and c.from_residual.result c.from_residual.ensures.1 in
    λ is bytes told.
    let status : p.0 ≡ Input = cc (p.1, is) in
    let error : c.in_err-bytes.field-0.0 ≡ TooLong = too_long-from_status c.in_err-bytes.field-0.0
    (sym p.2 ∙ status) in
    let long = c.in_err-bytes.ensures.too_long (ap Err error) bytes told in
    (too_long c.args.builders.items (λ b. b.name) bytes long.0, inr long)

pub returns-in_err-input-clause-no_input : goal.returns-in_err-input-clause-no_input
returns-in_err-input-clause-no_input g c =
    let p = err_from_is_err_and c.from_residual-in_err-input.result
    c.from_residual-in_err-input.ensures.1 in
    λ is bytes told.
    let status : p.0 ≡ Input = cc (p.1, is) in
    let error : c.in_err-input.field-0.0 ≡ NotInput = not_input-from_status
    c.in_err-input.field-0.0 (sym p.2 ∙ status) in
    let gave = c.in_ok-bytes.ensures.ok bytes told in (
      subst (AreNoInput c.args.builders.items (λ b. b.name)) (c.deref.ensures.value ∙ gave.0)
          (c.in_err-input.ensures.not_input (ap Err error)),
      inl gave.1,
    )

pub returns-clause-ok : goal.returns-clause-ok
returns-clause-ok g c =
    let i = input_of c.in_ok-input.input in (
      i,
      (
        c.in_ok-bytes.bytes.items,
        c.in_ok-bytes.ensures.ok,
        subst (λ bytes. IsInput c.args.builders.items (λ b. b.name) bytes i) c.deref.ensures.value
            c.in_ok-input.ensures.ok,
      ),
      c.in_ok-reply_to.ensures,
    )
