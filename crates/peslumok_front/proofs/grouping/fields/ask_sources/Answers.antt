use Rattle.peslumok_front.proofs.lemmas.grouping.AddedFields.{added-item}
use Rattle.peslumok_front.proofs.grouping.fields.ask_sources.Goals as goal

pub loop-by-preserved : goal.loop-by-preserved
loop-by-preserved c =
    added-item (λ by. by.field.now) c.args.sources.now c.loop-by.by-index _ c.args.types.now
    c.args.fields.now c.loop-by.fields c.ask.new.fields c.in_ok-field.field c.loop-by-test.true
    c.loop-by.invariant c.in_ok-ask.ensures c.in_ok-field.ensures
