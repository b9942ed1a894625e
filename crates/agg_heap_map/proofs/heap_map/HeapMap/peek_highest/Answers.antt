use Rattle.std.proofs.Common.{◌≡◌, ◌-◌, ◌≤◌, [], Option, Some, None, refl}
use Rattle.std.proofs.Common.{subst, length, arith}
use denote.Ref.{Bor}
use Rattle.std.specs.BinaryHeap.{heap_items}
use Rattle.std.specs.List.{slice_get}
use Rattle.std.specs.Option.{MatchOption}
use Rattle.agg_heap_map.specs.EntryOrder.{ascending}
use Rattle.agg_heap_map.proofs.GreatestKey.{Shows, no_entries, shown}
use Rattle.agg_heap_map.proofs.heap_map.HeapMap.peek_highest.Goals as goal

pub returns : goal.returns
returns g c =
    let R = g.S.Ord.cmp in
    let met = g.met.S in
    let es = c.self.inside.map.entries in
    let items = heap_items c.self.inside.heap in
    let keys = c.self.invariant in
    let P : Option (Bor g.row.S.Denot) → Type 0 =
    λ o. MatchOption o (ascending R es ≡ [])
    (λ k. (x : g.row.V.Denot)
    × (slice_get (ascending R es) (length (ascending R es) - 1) ≡ Some (k.now, x))) in
    let by : (o : Option (Bor g.row.S.Denot)) → c.peek.result ≡ o → P o = elim [
      | None ↦ λ is. let none = c.peek.ensures.item.3 in let short : length items ≤ 0 =
          rw is at none in no_entries R es items keys.same (omega arith)
      | Some x ↦ λ is.
          let first = c.peek.ensures.item.3 in
          let all = c.peek.ensures.greatest in
          let shows : Shows R items x.now = (rw is at first, rw is at all) in
          shown R met.Ord.total g.S.PartialEq.eq met.Eq.laws met.Ord.matches_eq es items x.now keys
          shows
    ] in
    subst (λ fs.
    MatchOption c.peek.result (fs ≡ [])
    (λ k. (x : g.row.V.Denot) × (slice_get fs (length fs - 1) ≡ Some (k.now, x)))) c.self.view_is
    (by c.peek.result refl)
