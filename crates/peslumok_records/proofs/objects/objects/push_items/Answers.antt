use Rattle.std.proofs.Common.{◌≡◌, None, ap, rules, true, ◌∙◌}
use Rattle.json.specs.Value.{items_view}
use Rattle.agg_segment.specs.storage.Cells.{number_of}
use Rattle.peslumok_records.specs.held.Causes.{is_fault}
use Rattle.peslumok_records.specs.objects.Objects.{item_values}
use Rattle.peslumok_records.proofs.lemmas.objects.NoJsonDocuments.{no_item}
use Rattle.peslumok_records.proofs.lemmas.objects.ObjectValues.{gains_item}
use Rattle.peslumok_records.proofs.objects.objects.push_items.Goals as goal

pub loop-item-preserved : goal.loop-item-preserved
loop-item-preserved c =
    let l = c.loop-item in
    let pushed = c.push_item.ensures in record {
      numbered = ap (λ names. number_of names c.args.field.now.name) pushed.names
          ∙ l.invariant.numbered;
      documents = pushed.documents ∙ l.invariant.documents;
      gained = gains_item c.args.field.now.name c.args.field.now.of c.args.items.now l.item-index
          c.item-item.result c.args.builder.now l.builder c.push_item.new.builder
          c.loop-item-test.true c.item-item.is l.invariant.gained c.in_ok-push_item.ensures.ok;
    }

pub returns-in_err-push_item-clause-none : goal.returns-in_err-push_item-clause-none
returns-in_err-push_item-clause-none c =
    let field = c.args.field.now in
    let none : is_fault c.in_err-push_item.field-0.0 ≡ true
    → item_values field.of (items_view c.args.items.now) ≡ None =
    λ fault. no_item field.of c.args.items.now c.loop-item.item-index c.item-item.result
    c.loop-item-test.true c.item-item.is (c.in_err-push_item.ensures.none fault) in
    search (rules, none)
