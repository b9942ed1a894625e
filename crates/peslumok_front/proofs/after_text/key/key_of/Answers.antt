use Rattle.peslumok_texts.specs.fields.Types.{type_of}
use Rattle.peslumok_front.proofs.lemmas.after_text.ReadKeys.{found-only, found-reads, none-found}
use Rattle.peslumok_front.proofs.after_text.key.key_of.Goals as goal

pub returns-in-Some : goal.returns-in-Some
returns-in-Some c = record {
  ok = found-reads c.args.value.now (type_of c.args.types.now c.args.by.now.field.now)
      c.in_ok-key.field-0 c.in-Some.key c.in_ok-key.ensures.some c.in-Some.is;
  each = found-only c.args.value.now (type_of c.args.types.now c.args.by.now.field.now)
      c.in_ok-key.field-0 c.in-Some.key c.in_ok-key.ensures.some
      c.in_ok-key.ensures.each c.in-Some.is;
  cause = tt;
}

pub value_key-requires : goal.value_key-requires
value_key-requires c =
    none-found c.args.value.now c.in_ok-key.field-0 c.in_ok-key.ensures.each
    c.in-None.is
