use Rattle.std.proofs.Common.{◌≡◌, ◌∙◌, Some, None, ap, sym, arith, rules}
use Rattle.json.specs.Json.{after_end_array}
use Rattle.json.specs.Reads.{token_of}
use Rattle.agg_segment.specs.storage.Cells.{number_of}
use Rattle.peslumok_records.proofs.lemmas.objects.TakenValues.{all_items, one_item_more}
use Rattle.peslumok_records.proofs.objects.tokens.push_array.Goals as goal

pub items-preserved : goal.items-preserved
items-preserved c =
    let l = c.items in
    let field = c.args.field.now in
    let going : (after_end_array l.reader ≡ None) × (c.take_end_array.new.self ≡ l.reader) =
    grind arith in
    let pushed = c.push_scalar.ensures in
    record {
      taken = one_item_more field c.args.reader.now l.reader c.next.new.self
          (token_of c.in-Some.token) c.args.builder.now l.builder c.push_scalar.new.builder going.0
          (sym going.1 ∙ c.in-Some.ensures.value) l.invariant.taken (pushed.taken (search rules));
      documents = pushed.documents ∙ l.invariant.documents;
      numbered = ap (λ names. number_of names field.name) pushed.names ∙ l.invariant.numbered;
    }

pub returns-clause-taken : goal.returns-clause-taken
returns-clause-taken c = λ _.
    let l = c.items in
    let closes : after_end_array l.reader ≡ Some c.take_end_array.new.self = grind arith in
    all_items c.args.field.now c.args.reader.now l.reader c.take_end_array.new.self
    c.args.builder.now l.builder l.invariant.taken closes
