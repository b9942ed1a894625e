use Rattle.std.proofs.Common.{ap, ◌∙◌, subst}
use Rattle.agg_heap_map.specs.EntryOrder.{ascending}
use Rattle.agg_heap_map.specs.Eviction.{GreatestIsBelow, TakesGreatest}
use Rattle.agg_heap_map.proofs.lazy_heap_map.LazyHeapMap.evict_above.Goals as goal

pub returns-clause-evicted : goal.returns-clause-evicted
returns-clause-evicted g c =
    let R = g.S.Ord.cmp in
    let k = c.args.key.now in
    let fs = ascending R c.evict_above-evicted.new.map.entries in
    λ out.
    subst (λ es. TakesGreatest R k es fs) c.self.view_is (c.evict_above-evicted.ensures.evicted out)

pub returns-clause-kept : goal.returns-clause-kept
returns-clause-kept g c =
    let R = g.S.Ord.cmp in
    λ out.
    let kept = c.evict_above-evicted.ensures.kept out in (
      ap (λ m. ascending R m.entries) kept.0 ∙ c.self.view_is,
      subst (GreatestIsBelow R c.args.key.now) c.self.view_is kept.1,
    )
