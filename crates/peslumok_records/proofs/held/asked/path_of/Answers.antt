use Rattle.std.proofs.Common.{◌∙◌, lit<}
use Rattle.std.proofs.lemmas.Iterator.Consumers.{YieldsList-at, YieldsList-end}
use Rattle.std.proofs.lemmas.Iterator.Splits.{YieldsList-from_str_split}
use Rattle.peslumok_records.proofs.held.asked.path_of.Goals as goal

pub returns : goal.returns
returns c =
    let l = c.loop-part in
    let split = c.split-part-items in
    let cut = YieldsList-at c.into_iter-part-iterator.ensures.into_iter_gives
    (YieldsList-from_str_split 46 c.args.name.now (lit< tt) split.ensures.text
    split.ensures.has_more split.ensures.pattern) in
    let end = YieldsList-end cut l.yielded _ l.yielded_by _ _ c.in-None.is c.next.ensures.steps in
    l.invariant ∙ end.0
