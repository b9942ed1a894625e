use Rattle.agg_composite.proofs.lemmas.tuple_counts.GroupSteps.{AreGrouped}
use Rattle.agg_composite.proofs.tuple_counts.grouped.grouped.Given as goal

-- the groups so far, and the one that grows, with the counts that are still to come
abbrev pub invariant-loop-next : goal.invariant-loop-next
invariant-loop-next g l =
    AreGrouped g.S.Ord.cmp g.met.S.Ord.total l.fn.counts.items l.groups.items l.tuple l.count
    l.next-iterator
