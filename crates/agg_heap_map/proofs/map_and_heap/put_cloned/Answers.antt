use Rattle.std.proofs.Common.{◌≡◌, None, sym, ◌∙◌, rules}
use Rattle.std.specs.Map.{lookup}
use Rattle.agg_heap_map.specs.EntryOrder.{ascending}
use Rattle.agg_heap_map.proofs.EntryOrder.{ascending-same}
use Rattle.agg_heap_map.proofs.EntryValues.{lookup-by_eq}
use Rattle.agg_heap_map.proofs.KeyEquality.{once_by_cmp}
use Rattle.agg_heap_map.proofs.NewKeys.{one_more-entries, puts-new}
use Rattle.agg_heap_map.proofs.map_and_heap.put_cloned.Goals as goal

pub returns-in_ok-insert-in-None-clause-ok : goal.returns-in_ok-insert-in-None-clause-ok
returns-in_ok-insert-in-None-clause-ok g c =
    let R = g.S.Ord.cmp in
    let met = g.met.S in
    let k = c.args.key in
    let es = c.args.map.now.entries in
    let absent : lookup (g.S.PartialEq.eq k) es ≡ None =
    lookup-by_eq R met.Ord.total g.S.PartialEq.eq met.Ord.matches_eq es k ∙ c.requires.absent in
    let new : c.in_ok-insert-in-None.field-0 ≡ None = c.in_ok-insert-in-None.ensures.old
    ∙ c.make_room.ensures.values k ∙ absent in
    let puts =
    puts-new g.S.PartialEq.eq c.make_room.new.map c.insert.new.self k c.args.value
    c.in_ok-insert-in-None.field-0 new c.in_ok-insert-in-None.ensures.entries in
    one_more-entries R met.Ord.total g.S.PartialEq.eq met.Ord.matches_eq es
    c.make_room.new.map.entries c.insert.new.self.entries k c.args.value c.requires.once
    c.make_room.ensures.entries c.insert.ensures.unique puts

pub returns-in_err-insert-in-None-clause-err : goal.returns-in_err-insert-in-None-clause-err
returns-in_err-insert-in-None-clause-err g c =
    let R = g.S.Ord.cmp in
    let met = g.met.S in
    let es = c.args.map.now.entries in
    let once = once_by_cmp R g.S.PartialEq.eq met.Ord.matches_eq _ c.requires.once in
    let same : ascending R c.make_room.new.map.entries ≡ ascending R es =
    sym (ascending-same R met.Ord.total es c.make_room.new.map.entries c.make_room.ensures.entries
    once) in
    search (rules, same)
