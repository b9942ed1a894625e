use Rattle.std.proofs.Common.{◌≡◌, length, arith, rules}
use Rattle.std.proofs.lemmas.List.{nil_from_length}
use Rattle.agg_request_tree.proofs.FieldNames.{AreTakenUpTo-all, AreTakenUpTo-more}
use Rattle.agg_request_tree.proofs.field_names.add_all.Goals as goal

pub loop-field-preserved : goal.loop-field-preserved
loop-field-preserved c =
    AreTakenUpTo-more c.args.fields c.loop-field.field-iterator.rest.items c.args.names.now
    c.loop-field.names c.insert.new.self c.in-Some.field c.next.new.self.rest.items
    c.loop-field.invariant c.in-Some.ensures.steps.0 c.in_ok-insert.ensures.ok

pub returns : goal.returns
returns c =
    let none : length c.loop-field.field-iterator.rest.items ≡ 0 =
    grind (arith, rules, c.in-None.ensures.steps.0) in
    AreTakenUpTo-all c.args.fields c.loop-field.field-iterator.rest.items c.args.names.now
    c.loop-field.names c.loop-field.invariant (nil_from_length _ none)
