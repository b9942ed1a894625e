use Rattle.std.proofs.Common.{sym, ap, ◌∙◌, subst, length}
use Rattle.std.specs.List.Sorted.{IsStrictlySortedBy}
use Rattle.std.specs.Map.{keys_of}
use Rattle.agg_heap_map.proofs.AscendingKeys.{ascending-sorted}
use Rattle.agg_heap_map.proofs.EntryOrder.{length-ascending}
use Rattle.agg_heap_map.proofs.KeyEquality.{once_by_cmp}
use Rattle.agg_heap_map.proofs.lazy_heap_map.LazyHeapMap.size.Goals as goal

pub returns : goal.returns
returns g c =
    let R = g.S.Ord.cmp in
    let met = g.met.S in
    let es = c.self.inside.map.entries in
    let once = once_by_cmp R g.S.PartialEq.eq met.Ord.matches_eq _ c.self.invariant.0 in
    record {
      len =
          c.len.ensures.len ∙ sym (length-ascending R met.Ord.total es once)
          ∙ ap length c.self.view_is;
      ordered =
          subst (λ fs. IsStrictlySortedBy R (keys_of fs)) c.self.view_is
          (ascending-sorted R met.Ord.total es);
    }
