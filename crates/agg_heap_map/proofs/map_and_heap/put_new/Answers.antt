use Rattle.std.proofs.Common.{◌≡◌, ◌∷◌, None, sym, ◌∙◌, subst, rules}
use Rattle.std.specs.BinaryHeap.{IsHeap, heap_items}
use Rattle.std.specs.List.Sorted.{IsPermutation}
use Rattle.std.specs.Map.{lookup}
use Rattle.agg_heap_map.specs.EntryOrder.{HaveSameKeys, ascending}
use Rattle.agg_heap_map.proofs.EntryOrder.{ascending-same}
use Rattle.agg_heap_map.proofs.EntryValues.{lookup-by_eq}
use Rattle.agg_heap_map.proofs.KeyEquality.{once_by_cmp}
use Rattle.agg_heap_map.proofs.NewKeys.{one_more-entries, one_more-keys, puts-new, reordered-keys}
use Rattle.agg_heap_map.proofs.map_and_heap.put_new.Goals as goal

pub returns-in_err-push-clause-same_keys : goal.returns-in_err-push-clause-same_keys
returns-in_err-push-clause-same_keys g c =
    let keys = c.requires.same_keys in
    let items : heap_items c.push.new.self ≡ heap_items c.args.heap.now = search rules in
    subst (HaveSameKeys g.S.Ord.cmp g.S.PartialEq.eq _) (sym items)
    (record {
      same = reordered-keys c.args.map.now.entries c.reserve.new.self.entries _ keys.same
          c.reserve.ensures.entries.0;
      once = c.reserve.ensures.unique;
      heap = keys.heap;
    })

pub returns-in_err-push-clause-err : goal.returns-in_err-push-clause-err
returns-in_err-push-clause-err g c =
    let R = g.S.Ord.cmp in
    let met = g.met.S in
    let es = c.args.map.now.entries in
    let once = once_by_cmp R g.S.PartialEq.eq met.Ord.matches_eq _ c.requires.same_keys.once in
    let same : ascending R c.reserve.new.self.entries ≡ ascending R es =
    sym (ascending-same R met.Ord.total es c.reserve.new.self.entries c.reserve.ensures.entries.0
    once) in
    search (rules, same)

pub returns-clause-same_keys : goal.returns-clause-same_keys
returns-clause-same_keys g c =
    let R = g.S.Ord.cmp in
    let met = g.met.S in
    let k = c.args.key in
    let es = c.args.map.now.entries in
    let keys = c.requires.same_keys in
    let absent : lookup (g.S.PartialEq.eq k) es ≡ None =
    lookup-by_eq R met.Ord.total g.S.PartialEq.eq met.Ord.matches_eq es k ∙ c.requires.absent in
    let new : c.in_ok-insert.field-0 ≡ None = c.in_ok-insert.ensures.old
    ∙ c.reserve.ensures.entries.2 k ∙ absent in
    let puts =
    puts-new g.S.PartialEq.eq c.reserve.new.self c.insert.new.self k c.args.value
    c.in_ok-insert.field-0 new c.in_ok-insert.ensures.entries in
    let items = heap_items c.args.heap.now in
    let more = heap_items c.push.new.self in
    let twin : IsPermutation (c.args.twin ∷ items) more = search rules in
    let pushed : IsPermutation (k ∷ items) more =
    subst (λ t. IsPermutation (t ∷ items) more) c.requires.twin twin in
    let heap : IsHeap R more = search rules in
    record {
      same = one_more-keys es c.reserve.new.self.entries c.insert.new.self.entries k c.args.value
          items more keys.same c.reserve.ensures.entries.0 puts pushed;
      once = c.insert.ensures.unique;
      heap = heap;
    }

pub returns-clause-ok : goal.returns-clause-ok
returns-clause-ok g c =
    let R = g.S.Ord.cmp in
    let met = g.met.S in
    let k = c.args.key in
    let es = c.args.map.now.entries in
    let absent : lookup (g.S.PartialEq.eq k) es ≡ None =
    lookup-by_eq R met.Ord.total g.S.PartialEq.eq met.Ord.matches_eq es k ∙ c.requires.absent in
    let new : c.in_ok-insert.field-0 ≡ None = c.in_ok-insert.ensures.old
    ∙ c.reserve.ensures.entries.2 k ∙ absent in
    let puts =
    puts-new g.S.PartialEq.eq c.reserve.new.self c.insert.new.self k c.args.value
    c.in_ok-insert.field-0 new c.in_ok-insert.ensures.entries in
    one_more-entries R met.Ord.total g.S.PartialEq.eq met.Ord.matches_eq es
    c.reserve.new.self.entries c.insert.new.self.entries k c.args.value
    c.requires.same_keys.once c.reserve.ensures.entries.0 c.insert.ensures.unique puts
