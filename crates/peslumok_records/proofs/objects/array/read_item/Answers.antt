use Rattle.std.proofs.Common.{◌≡◌, ◌-◌, ◌∙◌, List, Some, ap, subst, sym, true}
use Rattle.std.proofs.lemmas.Result.{IfErr-weaker}
use Rattle.json.specs.Json.{Json, max_depth, value}
use Rattle.json.specs.Token.{Token}
use Rattle.json.specs.Value.{value_view}
use Rattle.agg_values.specs.Nothing.{NoneIs}
use Rattle.peslumok_records.specs.held.Documents.{IsRead}
use Rattle.peslumok_records.specs.held.Causes.{is_fault}
use Rattle.peslumok_records.specs.declared.held.error.RecordError.{RecordError}
use Rattle.peslumok_records.specs.objects.Objects.{object_document}
use Rattle.peslumok_records.proofs.lemmas.objects.NoJsonDocuments.{json_in}
use Rattle.peslumok_records.proofs.objects.array.read_item.Goals as goal

pub returns-in-Ok-clause-none : goal.returns-in-Ok-clause-none
returns-in-Ok-clause-none c =
    let asked = c.args.asked.now in
    IfErr-weaker c.add_object.result
    (λ (error : RecordError). is_fault error.cause ≡ true
    → NoneIs (IsRead (object_document asked (value_view c.in-Ok.value))))
    (λ (error : RecordError). is_fault error.cause ≡ true → (j : Json) (rest : List Token)
    → value (max_depth - 1) c.args.reader.now ≡ Some (j, rest)
    → NoneIs (IsRead (object_document asked j)))
    (λ error none fault j rest is.
    subst (λ d. NoneIs (IsRead (object_document asked d)))
    (ap json_in (sym c.in-Ok.ensures.ok ∙ is)) (none fault))
    c.add_object.ensures.none
