use Rattle.std.proofs.Common.{◌≡◌, ◌⊎◌, Err, Ok, ap, subst, sym, ◌∙◌}
use Rattle.peslumok_texts.specs.fields.Types.{type_of}
use Rattle.peslumok_texts.specs.fields.Values.{text_value}
use Rattle.peslumok_texts.specs.declared.fields.error.ValueError.TheVariants as why
use Rattle.peslumok_front.specs.after_text.After.{IsUnreadKey, refusal_of}
use Rattle.peslumok_front.proofs.lemmas.after_text.ReadKeys.{refusal-cause, refused-only}
use Rattle.peslumok_front.proofs.lemmas.after_text.ReadKeys.{value-only, value-reads}
use Rattle.peslumok_front.proofs.after_text.key.value_key.Goals as goal
use Rattle.peslumok_front.proofs.after_text.key.value_key.Goals.{After-drop-field-inside}
use Rattle.peslumok_front.proofs.after_text.key.value_key.Goals.{After-refusal_of}

-- the type of the field
typed : (c : After-drop-field-inside)
    → c.get.result ≡ type_of c.args.types.now c.args.by.now.field.now
typed c = c.get.ensures ∙ ap (type_of c.args.types.now) c.in_ok-field.ensures

read : (c : After-drop-field-inside)
    → text_value (type_of c.args.types.now c.args.by.now.field.now) c.args.value.now
    ≡ Ok c.in-Ok.value
read c = sym (ap (λ t. text_value t c.args.value.now) (typed c)) ∙ c.in-Ok.ensures.value

pub returns-in-Ok-clause-ok : goal.returns-in-Ok-clause-ok
returns-in-Ok-clause-ok c =
    value-reads c.args.value.now _ c.in-Ok.value c.typed_key.result c.requires (read c)
    c.typed_key.ensures

pub returns-in-Ok-clause-each : goal.returns-in-Ok-clause-each
returns-in-Ok-clause-each c =
    value-only c.args.value.now _ c.in-Ok.value c.typed_key.result c.requires (read c)
    c.typed_key.ensures

-- why the value is refused
refused : (c : After-refusal_of) → (c.in-Err.error ≡ why.OutOfMemory)
    ⊎ (text_value (type_of c.args.types.now c.args.by.now.field.now) c.args.value.now
    ≡ Err c.in-Err.error)
refused c =
    subst (λ t. (c.in-Err.error ≡ why.OutOfMemory)
    ⊎ (text_value t c.args.value.now ≡ Err c.in-Err.error))
    (c.get.ensures ∙ ap (type_of c.args.types.now) c.in_ok-field.ensures) c.in-Err.ensures.error

pub returns-in-Err : goal.returns-in-Err
returns-in-Err c = record {
  ok = tt;
  each = λ key reads.
      c.refusal_of.ensures
      ∙ refused-only c.in_ok-field.field c.args.value.now _ c.in-Err.error c.requires (refused c)
      key reads;
  cause = subst (IsUnreadKey c.args.types.now c.args.by.now c.args.value.now)
      (sym (c.refusal_of.ensures ∙ ap (λ f. refusal_of f c.in-Err.error) c.in_ok-field.ensures))
      (refusal-cause c.args.types.now c.args.by.now c.args.value.now c.in-Err.error c.requires
      (refused c));
}
