use Rattle.std.proofs.Common.{◌==◌, rules, tests}
use Rattle.std.proofs.lemmas.Iterator.{YieldsList-from_slice}
use Rattle.std.proofs.lemmas.Iterator.Search.{any_from_yields_List}
use Rattle.agg_engine.proofs.walk.checks.some_page_has_no_room.Goals as goal

pub returns : goal.returns
returns c =
    any_from_yields_List (λ s. s.page_size == 0) _ _ c.any.result c.any.ensures.ran
    (YieldsList-from_slice c.args.snapshots.now c.iter.ensures.rest)
    (λ x b q k. search (rules, tests))
