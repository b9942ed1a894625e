use Rattle.std.proofs.Common.{◌≡◌, Less, false, inl, inr, is_lt, length, refl, rules}
use Rattle.std.specs.BinaryHeap.{heap_items}
use Rattle.agg_heap_map.proofs.GreatestKey.{Shows, no_entries, shown}
use Rattle.agg_heap_map.proofs.map_and_heap.evict_above.Goals as goal

pub returns-in_default-clause-kept : goal.returns-in_default-clause-kept
returns-in_default-clause-kept g c =
    let items = heap_items c.args.heap.now in
    let none : length items ≡ 0 = search (rules, c.args.heap.now.data.ok) in
    λ _. (refl, inl (no_entries g.S.Ord.cmp c.args.map.now.entries items c.requires.same none))

pub returns-then-is_lt-clause-kept : goal.returns-then-is_lt-clause-kept
returns-then-is_lt-clause-kept g c =
    let R = g.S.Ord.cmp in
    let met = g.met.S in
    let x = c.in-Some.highest.now in
    let item = c.peek.ensures.item.3 in
    let all = c.peek.ensures.greatest in
    let shows : Shows R (heap_items c.args.heap.now) x =
    (rw c.in-Some.is at item, rw c.in-Some.is at all) in
    let last =
    shown R met.Ord.total g.S.PartialEq.eq met.Eq.laws met.Ord.matches_eq
    c.args.map.now.entries (heap_items c.args.heap.now) x c.requires shows in
    let less : R x c.args.key.now ≡ Less = search rules in
    λ _. (refl, inr ((x, last.0), last.1, less))

pub returns-clause-evicted : goal.returns-clause-evicted
returns-clause-evicted g c =
    let R = g.S.Ord.cmp in
    let met = g.met.S in
    let x = c.in-Some.highest.now in
    let item = c.peek.ensures.item.3 in
    let all = c.peek.ensures.greatest in
    let shows : Shows R (heap_items c.args.heap.now) x =
    (rw c.in-Some.is at item, rw c.in-Some.is at all) in
    let last =
    shown R met.Ord.total g.S.PartialEq.eq met.Eq.laws met.Ord.matches_eq
    c.args.map.now.entries (heap_items c.args.heap.now) x c.requires shows in
    let not_less : is_lt (R x c.args.key.now) ≡ false = search rules in
    λ _. (c.evict.ensures.entries, (x, last.0), last.1, not_less)
