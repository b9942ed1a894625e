use Rattle.std.proofs.Common.{◌≡◌, ◌++◌, List}
use Rattle.agg_results.specs.declared.final_results.types.CompositeBucketEntry.{
  CompositeBucketEntry,
}
use Rattle.peslumok_front.specs.top_groups.Top.{AreTop}
use Rattle.peslumok_front.proofs.top_groups.groups.TopGroups.add_all.Given as goal

-- the groups so far are added
abbrev pub invariant-loop-group : goal.invariant-loop-group
invariant-loop-group l = record {
  count : l.self.count ≡ l.initial.self.count;
  groups : (before : List CompositeBucketEntry)
      → AreTop l.initial.self.count before l.initial.self.groups.items
      → AreTop l.initial.self.count (before ++ l.yielded) l.self.groups.items;
}
