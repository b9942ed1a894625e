use Rattle.std.proofs.Common.{ap, sym, ◌∙◌, subst}
use Rattle.std.specs.List.{IsDistinct}
use Rattle.std.specs.List.Sorted.{IsStrictlySortedBy}
use Rattle.std.specs.Map.{keys_of}
use Rattle.agg_heap_map.specs.EntryOrder.{ascending}
use Rattle.agg_heap_map.proofs.AscendingKeys.{ascending-sorted}
use Rattle.agg_heap_map.proofs.lazy_heap_map.LazyHeapMap.entries_ascending.Goals as goal

pub sort-requires : goal.sort-requires
sort-requires g c =
    subst (λ es. IsDistinct g.S.PartialEq.eq (keys_of es)) (sym c.in_ok-entries.ensures)
    c.self.invariant.0

pub returns : goal.returns
returns g c =
    let R = g.S.Ord.cmp in record {
      entries = c.sort.ensures ∙ ap (ascending R) c.in_ok-entries.ensures ∙ c.self.view_is;
      ordered =
          subst (λ fs. IsStrictlySortedBy R (keys_of fs)) c.self.view_is
          (ascending-sorted R g.met.S.Ord.total c.self.inside.map.entries);
    }
