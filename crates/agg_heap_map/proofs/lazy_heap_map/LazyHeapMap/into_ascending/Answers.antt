use Rattle.std.proofs.Common.{ap, sym, ◌∙◌, subst}
use Rattle.std.specs.List.{IsDistinct}
use Rattle.std.specs.Map.{keys_of}
use Rattle.agg_heap_map.specs.EntryOrder.{ascending}
use Rattle.agg_heap_map.proofs.lazy_heap_map.LazyHeapMap.into_ascending.Goals as goal

pub sort-requires : goal.sort-requires
sort-requires g c =
    subst (λ es. IsDistinct g.S.PartialEq.eq (keys_of es)) (sym c.in_ok-entries.ensures)
    c.self.invariant.0

pub returns : goal.returns
returns g c =
    c.new.ensures ∙ c.sort.ensures ∙ ap (ascending g.S.Ord.cmp) c.in_ok-entries.ensures
    ∙ c.self.view_is
