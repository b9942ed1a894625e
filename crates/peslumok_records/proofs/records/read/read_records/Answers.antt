use Rattle.std.proofs.Common.{◌≡◌, sym, subst, true}
use Rattle.std.specs.Str.{IsUtf8}
use Rattle.std.proofs.lemmas.Result.{IfErr-weaker, on_ok_weaker}
use Rattle.csv.specs.Reading.{strip_bom}
use Rattle.agg_values.specs.Nothing.{NoneIs}
use Rattle.peslumok_records.specs.held.Causes.{is_fault}
use Rattle.peslumok_records.specs.declared.held.error.RecordError.{RecordError}
use Rattle.peslumok_records.proofs.lemmas.held.HeldDocuments.{adds_later}
use Rattle.peslumok_records.specs.objects.JsonRecords.{AreItemDocuments}
use Rattle.peslumok_records.specs.objects.Lines.{AreLineDocuments, IsFirstFault, lines_of}
use Rattle.peslumok_records.specs.records.Formats.{AreDocumentsOf}
use Rattle.peslumok_texts.specs.declared.formats.RecordFormat.TheVariants as format
use Rattle.peslumok_records.proofs.records.read.read_records.Goals as goal

pub returns-in_ok-text_of-in-JsonLines-clause-held :
    goal.returns-in_ok-text_of-in-JsonLines-clause-held
returns-in_ok-text_of-in-JsonLines-clause-held c =
    let asked = c.args.asked.now in
    let text = c.in_ok-text_of-in-JsonLines.ensures.ok in
    on_ok_weaker c.read_lines.result (λ added.
    let (documents, are, held) = adds_later c.args.into.now c.number_fields.new.self
    c.read_lines.new.into c.number_fields.ensures.held added in (
      documents,
      subst (λ f. AreDocumentsOf f asked c.args.bytes.now documents)
          (sym c.in-JsonLines.is)
          (text.1, subst (λ t. AreLineDocuments asked (lines_of t) documents) text.0 are),
      held,
    )) c.read_lines.ensures.ok

pub returns-in_ok-text_of-in-Json-clause-held :
    goal.returns-in_ok-text_of-in-Json-clause-held
returns-in_ok-text_of-in-Json-clause-held c =
    let asked = c.args.asked.now in
    let text = c.in_ok-text_of-in-Json.ensures.ok in
    on_ok_weaker c.read_array.result (λ added.
    let (documents, are, held) = adds_later c.args.into.now c.number_fields.new.self
    c.read_array.new.into c.number_fields.ensures.held added in (
      documents,
      subst (λ f. AreDocumentsOf f asked c.args.bytes.now documents) (sym c.in-Json.is)
          (text.1, subst (λ t. AreItemDocuments asked t documents) text.0 are),
      held,
    )) c.read_array.ensures.ok

pub returns-in_ok-text_of-in-JsonLines-clause-none :
    goal.returns-in_ok-text_of-in-JsonLines-clause-none
returns-in_ok-text_of-in-JsonLines-clause-none c =
    let asked = c.args.asked.now in
    let bytes = c.args.bytes.now in
    let text = c.in_ok-text_of-in-JsonLines in
    IfErr-weaker c.read_lines.result
    (λ (error : RecordError). is_fault error.cause ≡ true
    → NoneIs (AreLineDocuments asked (lines_of text.field-0.now)))
    (λ (error : RecordError). is_fault error.cause ≡ true
    → NoneIs (AreDocumentsOf c.args.format asked bytes))
    (λ error none fault documents are.
    none fault documents (subst (λ t. AreLineDocuments asked (lines_of t) documents)
    (sym text.ensures.ok.0)
    (subst (λ f. AreDocumentsOf f asked bytes documents) c.in-JsonLines.is are).1))
    c.read_lines.ensures.none

pub returns-in_ok-text_of-in-Json-clause-none :
    goal.returns-in_ok-text_of-in-Json-clause-none
returns-in_ok-text_of-in-Json-clause-none c =
    let asked = c.args.asked.now in
    let bytes = c.args.bytes.now in
    let text = c.in_ok-text_of-in-Json in
    IfErr-weaker c.read_array.result
    (λ (error : RecordError). is_fault error.cause ≡ true
    → NoneIs (AreItemDocuments asked text.field-0.now))
    (λ (error : RecordError). is_fault error.cause ≡ true
    → NoneIs (AreDocumentsOf c.args.format asked bytes))
    (λ error none fault documents are.
    none fault documents (subst (λ t. AreItemDocuments asked t documents)
    (sym text.ensures.ok.0)
    (subst (λ f. AreDocumentsOf f asked bytes documents) c.in-Json.is are).1))
    c.read_array.ensures.none

pub returns-in_ok-text_of-in-JsonLines-clause-line :
    goal.returns-in_ok-text_of-in-JsonLines-clause-line
returns-in_ok-text_of-in-JsonLines-clause-line c =
    let asked = c.args.asked.now in
    let text = c.in_ok-text_of-in-JsonLines in
    IfErr-weaker c.read_lines.result
    (λ (error : RecordError). is_fault error.cause ≡ true
    → IsFirstFault asked text.field-0.now error.line)
    (λ (error : RecordError). is_fault error.cause ≡ true → c.args.format ≡ format.JsonLines
    → IsUtf8 (strip_bom c.args.bytes.now)
    → IsFirstFault asked (strip_bom c.args.bytes.now) error.line)
    (λ error line fault _ _.
    subst (λ t. IsFirstFault asked t error.line) text.ensures.ok.0 (line fault))
    c.read_lines.ensures.line
