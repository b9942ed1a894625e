use Rattle.std.proofs.Common.{Some, ap, subst, sym}
use Rattle.agg_values.specs.KeyText.{IsKeyText}
use Rattle.peslumok_front.proofs.lemmas.after_text.ReadKeys.{not-found, nothing-found}
use Rattle.peslumok_front.proofs.after_text.key.prefixed_key.Goals as goal

pub returns-in-Ok-clause-each : goal.returns-in-Ok-clause-each
returns-in-Ok-clause-each c key is =
    ap Some (c.in-Ok.ensures.each key
    (subst (λ t. IsKeyText t key) (sym c.in_ok-value.ensures) is))

pub returns : goal.returns
returns c = record {
  some = nothing-found c.args.value.now c.no_key.result c.no_key.ensures.none;
  each = λ key is.
      not-found c.no_key.result c.in-Err.error _ c.no_key.ensures.error
      (c.in-Err.ensures.each key (subst (λ t. IsKeyText t key) (sym c.in_ok-value.ensures) is));
}
