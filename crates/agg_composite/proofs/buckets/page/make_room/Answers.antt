use Rattle.std.proofs.Common.{◌≤◌, length, arith}
use Rattle.std.proofs.lemmas.Result.{IfOk-weaker}
use Rattle.agg_composite.proofs.lemmas.buckets.PageRoom.{above-page, room-made}
use Rattle.agg_composite.proofs.buckets.page.make_room.Goals as goal

pub returns-clause-room : goal.returns-clause-room
returns-clause-room g c =
    let page = c.args.page.now in
    let full : c.args.size ≤ length page = omega arith in
    IfOk-weaker c.evict_above.result _ _
    (λ _ takes room. room-made g.S.Ord.cmp g.met.S.Ord.total c.args.size page c.args.tuple.now
    c.requires.absent full c.evict_above.new.self (takes room))
    c.evict_above.ensures.evicted

pub returns-clause-none : goal.returns-clause-none
returns-clause-none g c =
    let page = c.args.page.now in
    let full : c.args.size ≤ length page = omega arith in
    IfOk-weaker c.evict_above.result _ _
    (λ _ keeps none.
    let kept = keeps none in (
      kept.0,
      above-page g.S.Ord.cmp g.met.S.Ord.total c.args.size page c.args.tuple.now
          c.requires.absent full kept.1,
    )) c.evict_above.ensures.kept
