use Rattle.std.proofs.Common.{ap, ◌∙◌, subst}
use Rattle.std.specs.BTreeMap.{is_at}
use Rattle.std.specs.List.Sorted.{IsStrictlySortedBy}
use Rattle.std.specs.Map.{keys_of, lookup}
use Rattle.std.specs.Option.{is_some}
use Rattle.agg_heap_map.proofs.AscendingKeys.{ascending-sorted}
use Rattle.agg_heap_map.proofs.EntryValues.{lookup-by_eq}
use Rattle.agg_heap_map.proofs.heap_map.HeapMap.holds.Goals as goal

pub returns : goal.returns
returns g c =
    let R = g.S.Ord.cmp in
    let met = g.met.S in
    let k = c.args.key.now in
    let es = c.self.inside.map.entries in
    record {
      found =
          c.contains_key.ensures
          ∙ ap is_some
          (lookup-by_eq R met.Ord.total g.S.PartialEq.eq met.Ord.matches_eq es k
          ∙ ap (lookup (is_at (R k))) c.self.view_is);
      ordered =
          subst (λ fs. IsStrictlySortedBy R (keys_of fs)) c.self.view_is
          (ascending-sorted R met.Ord.total es);
    }
