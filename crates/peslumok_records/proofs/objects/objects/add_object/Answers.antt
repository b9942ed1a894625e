use Rattle.std.proofs.Common.{◌≡◌, ◌∙◌, Some, ap, rules, subst, sym, true}
use Rattle.std.specs.Prelude.{option_and_then}
use Rattle.json.specs.Find.{as_object}
use Rattle.json.specs.Value.{members_view, value_view}
use Rattle.json.proofs.Trees.{view-Object}
use Rattle.agg_values.specs.Nothing.{NoneIs}
use Rattle.peslumok_records.specs.held.Documents.{IsRead}
use Rattle.peslumok_records.specs.held.Causes.{is_fault}
use Rattle.peslumok_records.specs.held.Values.{document_of_fields}
use Rattle.peslumok_records.specs.objects.Objects.{field_values, object_document}
use Rattle.peslumok_records.proofs.objects.objects.add_object.Goals as goal

pub returns-in_err-try_object-clause-none : goal.returns-in_err-try_object-clause-none
returns-in_err-try_object-clause-none c =
    let asked = c.args.asked.now in
    let d = value_view c.args.value.now in
    let members : as_object d ≡ Some (members_view c.in-Object.members.items) =
    ap (λ v. as_object (value_view v)) c.in-Object.is
    ∙ ap as_object (view-Object c.in-Object.members) in
    let same : object_document asked d ≡ document_of_fields (field_values d) asked =
    ap (option_and_then (λ _. document_of_fields (field_values d) asked)) members in
    let none : is_fault c.in_err-try_object.field-0.0.cause ≡ true
    → NoneIs (IsRead (object_document asked d)) =
    λ fault. subst (λ o. NoneIs (IsRead o)) (sym same) (c.in_err-try_object.ensures.none fault) in
    search (rules, none)
