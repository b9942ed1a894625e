use Rattle.std.proofs.Common.{subst, sym, ◌∙◌}
use Rattle.agg_values.specs.KeyText.{IsKeyText}
use Rattle.agg_values.specs.Nothing.{NoneIs}
use Rattle.peslumok_front.proofs.lemmas.after_text.ReadKeys.{none-found, not-some}
use Rattle.peslumok_front.proofs.after_text.written.has_kind.Goals as goal

pub returns : goal.returns
returns c none =
    subst (λ t. NoneIs (IsKeyText t)) c.as_str.ensures
    (none-found c.as_str.result.now c.in_ok-prefixed_key.field-0
    c.in_ok-prefixed_key.ensures.each
    (not-some c.in_ok-prefixed_key.field-0 (sym c.is_some.ensures ∙ none)))
