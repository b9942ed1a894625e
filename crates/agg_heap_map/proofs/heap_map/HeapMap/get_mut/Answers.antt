use Rattle.std.proofs.Common.{refl, ap, ◌∙◌, subst}
use Rattle.std.specs.BTreeMap.{is_at}
use Rattle.std.specs.List.Sorted.{IsStrictlySortedBy}
use Rattle.std.specs.Map.{keys_of, lookup, set_value}
use Rattle.agg_heap_map.specs.EntryOrder.{ascending}
use Rattle.agg_heap_map.proofs.AscendingKeys.{ascending-sorted}
use Rattle.agg_heap_map.proofs.EntryValues.{lookup-by_eq, set-by_eq}
use Rattle.agg_heap_map.proofs.heap_map.HeapMap.get_mut.Goals as goal

pub returns : goal.returns
returns g c =
    let R = g.S.Ord.cmp in
    let met = g.met.S in
    let k = c.args.key.now in
    let es = c.self.inside.map.entries in
    let eq = g.S.PartialEq.eq in
    let ties = met.Ord.matches_eq in (
      (
        refl,
        λ w.
            ap (ascending R) (c.get_mut.follows.holds w).0
            ∙ set-by_eq R met.Ord.total eq ties es k w c.self.invariant.once
            ∙ ap (λ fs. set_value (is_at (R k)) fs w) c.self.view_is,
        ap (λ m. ascending R m.entries) c.get_mut.follows.holds-at-none ∙ c.self.view_is,
      ),
      record {
        writes_back = tt;
        value =
            c.get_mut.ensures.value ∙ lookup-by_eq R met.Ord.total eq ties es k
            ∙ ap (lookup (is_at (R k))) c.self.view_is;
        ordered =
            subst (λ fs. IsStrictlySortedBy R (keys_of fs)) c.self.view_is
            (ascending-sorted R met.Ord.total es);
        steps = c.tick.ensures;
      },
    )
