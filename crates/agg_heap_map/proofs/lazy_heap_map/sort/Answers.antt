use Rattle.std.proofs.Common.{rules}
use Rattle.std.specs.Ordering.{is_lt}
use Rattle.std.proofs.lemmas.Fn.{always_returns_same}
use Rattle.std.proofs.lemmas.List.Sorted.{ranks_by}
use Rattle.agg_heap_map.proofs.KeyEquality.{once_by_cmp}
use Rattle.agg_heap_map.proofs.SortedEntries.{sorted-ascending}
use Rattle.agg_heap_map.proofs.lazy_heap_map.sort.Goals as goal

pub returns : goal.returns
returns g c =
    let R = g.S.Ord.cmp in
    let met = g.met.S in
    let es = c.args.entries.now.items in
    let sorted = c.sort_unstable_by.ensures.sorted (λ a b. is_lt (R a.0 b.0))
    (ranks_by met.Ord.total (λ e. e.0))
    (always_returns_same _ _ _ (λ a r f called. search rules)) in
    sorted-ascending R met.Ord.total es c.sort_unstable_by.new.self.items
    (once_by_cmp R g.S.PartialEq.eq met.Ord.matches_eq _ c.requires)
    c.sort_unstable_by.ensures.permutation sorted
