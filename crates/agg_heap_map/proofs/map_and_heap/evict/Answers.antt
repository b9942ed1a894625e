use Rattle.std.proofs.Common.{◌≡◌, ◌∷◌, ◌-◌, take, sym, ap, ◌∙◌, length, rules}
use Rattle.std.specs.BinaryHeap.{IsHeap, IsUpperBound, heap_items}
use Rattle.std.specs.List.Sorted.{IsPermutation}
use Rattle.std.proofs.lemmas.List.Sorted.{IsPermutation-trans}
use Rattle.agg_heap_map.specs.EntryOrder.{HaveSameKeys}
use Rattle.agg_heap_map.proofs.GreatestKey.{evicted, evicted_keys, no_entries}
use Rattle.agg_heap_map.proofs.map_and_heap.evict.Goals as goal

pub returns-in-Some-clause-same_keys : goal.returns-in-Some-clause-same_keys
returns-in-Some-clause-same_keys g c =
    let R = g.S.Ord.cmp in
    let met = g.met.S in
    let es = c.args.map.now.entries in
    let keys : HaveSameKeys R g.S.PartialEq.eq (Rattle.std.specs.Map.keys_of es)
    (heap_items c.args.heap.now) = c.requires in
    let others = heap_items c.pop.new.self in
    let popped : IsPermutation (heap_items c.args.heap.now) (c.in-Some.key ∷ others) =
    search rules in
    let upper : IsUpperBound R c.in-Some.key others = search rules in
    let heap : IsHeap R others = search rules in
    let same = IsPermutation-trans _ _ _ keys.same popped in
    record {
      same = evicted_keys R met.Ord.total g.S.PartialEq.eq met.Eq.laws met.Ord.matches_eq es
          c.in-Some.key others keys.once same upper c.remove.new.self.entries
          c.remove.ensures.entries;
      once = c.remove.ensures.unique;
      heap = heap;
    }

pub returns-in-Some-clause-entries : goal.returns-in-Some-clause-entries
returns-in-Some-clause-entries g c =
    let R = g.S.Ord.cmp in
    let met = g.met.S in
    let es = c.args.map.now.entries in
    let keys : HaveSameKeys R g.S.PartialEq.eq (Rattle.std.specs.Map.keys_of es)
    (heap_items c.args.heap.now) = c.requires in
    let others = heap_items c.pop.new.self in
    let popped : IsPermutation (heap_items c.args.heap.now) (c.in-Some.key ∷ others) =
    search rules in
    let upper : IsUpperBound R c.in-Some.key others = search rules in
    let same = IsPermutation-trans _ _ _ keys.same popped in
    evicted R met.Ord.total g.S.PartialEq.eq met.Eq.laws met.Ord.matches_eq es c.in-Some.key others
    keys.once same upper c.remove.new.self.entries c.remove.ensures.entries

pub returns-in_default-clause-entries : goal.returns-in_default-clause-entries
returns-in_default-clause-entries g c =
    let R = g.S.Ord.cmp in
    let items = heap_items c.args.heap.now in
    let none : length items ≡ 0 = search (rules, c.args.heap.now.data.ok) in
    let nothing = no_entries R c.args.map.now.entries items c.requires.same none in
    nothing ∙ ap (λ fs. take (length fs - 1) fs) (sym nothing)
