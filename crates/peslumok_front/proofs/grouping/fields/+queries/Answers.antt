use Rattle.std.proofs.lemmas.Result.{on_ok_weaker}
use Rattle.peslumok_front.proofs.lemmas.grouping.AddedFields.{added-Boolean}
use Rattle.peslumok_front.proofs.grouping.fields.+queries.Goals as goal

pub ask_query-returns-in_ok-ask_all-in-Boolean-2 :
    goal.ask_query-returns-in_ok-ask_all-in-Boolean-2
ask_query-returns-in_ok-ask_all-in-Boolean-2 t c =
    on_ok_weaker c.ask_all-in-Boolean-2.result
    (added-Boolean c.args.types.now c.args.fields.now c.ask_all.new.fields
    c.ask_all-in-Boolean.new.fields c.ask_all-in-Boolean-2.new.fields c.args.query.now
    c.in-Boolean.must c.in-Boolean.should c.in-Boolean.must_not c.in-Boolean.is
    c.in_ok-ask_all-in-Boolean.ensures c.in_ok-ask_all-in-Boolean-2.ensures)
    c.ask_all-in-Boolean-2.ensures
