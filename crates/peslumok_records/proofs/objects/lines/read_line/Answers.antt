use Rattle.std.proofs.Common.{◌≡◌, subst, sym, true}
use Rattle.std.specs.Prelude.{option_and_then}
use Rattle.std.proofs.lemmas.Result.{IfErr-weaker, on_ok_weaker}
use Rattle.json.specs.Value.{value_view}
use Rattle.agg_values.specs.Nothing.{NoneIs}
use Rattle.peslumok_records.specs.held.Documents.{IsRead}
use Rattle.peslumok_records.specs.held.Causes.{is_fault}
use Rattle.peslumok_records.specs.held.Held.{Holds}
use Rattle.peslumok_records.specs.declared.held.error.RecordError.{RecordError}
use Rattle.peslumok_records.proofs.lemmas.held.Appended.{holds_later}
use Rattle.peslumok_records.specs.objects.JsonRecords.{text_document}
use Rattle.peslumok_records.specs.objects.Objects.{object_document}
use Rattle.peslumok_records.proofs.objects.lines.read_line.Goals as goal

pub returns-in-Ok-clause-ok : goal.returns-in-Ok-clause-ok
returns-in-Ok-clause-ok c =
    let asked = c.args.asked.now in
    let now = c.add_tokens.new.into in
    let new = c.add_object.new.records in
    on_ok_weaker c.add_object.result (λ holds.
    holds_later (text_document asked c.args.line.now) c.args.into.now now new
    (c.in_ok-add_tokens.ensures.left c.if-branch.false)
    (subst (λ d. Holds (option_and_then (object_document asked) d) now new)
    (sym c.in-Ok.ensures.ok) holds)) c.add_object.ensures.ok

pub returns-in-Ok-clause-none : goal.returns-in-Ok-clause-none
returns-in-Ok-clause-none c =
    let asked = c.args.asked.now in
    IfErr-weaker c.add_object.result
    (λ (error : RecordError). is_fault error.cause ≡ true
    → NoneIs (IsRead (object_document asked (value_view c.in-Ok.value))))
    (λ (error : RecordError). is_fault error.cause ≡ true
    → NoneIs (IsRead (text_document asked c.args.line.now)))
    (λ error none fault.
    subst (λ d. NoneIs (IsRead (option_and_then (object_document asked) d)))
    (sym c.in-Ok.ensures.ok) (none fault))
    c.add_object.ensures.none
