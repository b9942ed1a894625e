use Rattle.std.proofs.Common.{◌∙◌}
use Rattle.json.specs.Value.{value_view}
use Rattle.peslumok_records.proofs.lemmas.held.NoDocuments.{no_field}
use Rattle.peslumok_records.specs.objects.Objects.{field_values}
use Rattle.peslumok_records.proofs.lemmas.objects.ObjectValues.{gains_field}
use Rattle.peslumok_records.proofs.objects.objects.push_object.Goals as goal

pub loop-field-preserved : goal.loop-field-preserved
loop-field-preserved c =
    let l = c.loop-field in record {
      documents = c.push_field.ensures.documents ∙ l.invariant.documents;
      gained = gains_field (field_values (value_view c.args.object.now)) c.args.asked.now
          l.field-index c.field-item.result c.args.builder.now l.builder c.push_field.new.builder
          c.loop-field-test.true c.field-item.is l.invariant.gained c.in_default.ensures.ok;
    }

pub returns-in-Err-clause-none : goal.returns-in-Err-clause-none
returns-in-Err-clause-none c = λ fault.
    no_field (field_values (value_view c.args.object.now)) c.args.asked.now
    c.loop-field.field-index c.field-item.result c.loop-field-test.true c.field-item.is
    (c.in-Err.ensures.none (c.of_field.ensures.fault fault))
