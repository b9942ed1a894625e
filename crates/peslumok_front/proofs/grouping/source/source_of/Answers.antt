use Rattle.std.proofs.Common.{◌∙◌, refl, sym}
use Rattle.peslumok_texts.specs.words.By.{parts}
use Rattle.peslumok_front.proofs.lemmas.grouping.AskedSources.{asked_by, refused-part}
use Rattle.peslumok_front.proofs.grouping.source.source_of.Goals as goal

pub returns-in-Ok-clause-source : goal.returns-in-Ok-clause-source
returns-in-Ok-clause-source c =
    sym (asked_by c.args.types.now (parts c.args.by.now) _ c.in_ok-field.field refl
    c.in_ok-field.ensures)
    ∙ sym c.in_ok-source.ensures ∙ c.in-Ok.is

pub returns-in_ok-copy_of-in-Err-clause-cause : goal.returns-in_ok-copy_of-in-Err-clause-cause
returns-in_ok-copy_of-in-Err-clause-cause c =
    refused-part c.args.types.now (parts c.args.by.now) _ c.in_ok-field.field _
    c.in_ok-copy_of-in-Err.field-0 c.in-Err.why refl c.in_ok-field.ensures c.field.view_is
    (sym c.in_ok-source.ensures ∙ c.in-Err.is)
    (c.in_ok-copy_of-in-Err.ensures ∙ c.faulty_text.ensures)
