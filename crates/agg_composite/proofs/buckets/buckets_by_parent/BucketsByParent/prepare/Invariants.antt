use Rattle.std.proofs.Common.{◌+◌, ◌-◌, ◌<◌, length}
use Rattle.agg_composite.specs.buckets.Node.{Counts, Prepares}
use Rattle.agg_composite.proofs.buckets.buckets_by_parent.BucketsByParent.prepare.Given as goal

abbrev pub invariant-loop-self : goal.invariant-loop-self
invariant-loop-self g l = record {
  same : Prepares l.fn.self (record {
    parents = l.self-inside.parents.items;
    size = l.self-inside.size;
    next = l.self-inside.ids;
    pushes = l.self-inside.pushes.items;
    parent = l.self-inside.parent;
    doc = l.self-inside.doc;
  });
  inside : l.self-inside.parent < length l.self-inside.parents.items;
  counts : Counts l.self-inside.num_buckets l.self-inside.parents.items l.self-inside.ids;
}

abbrev pub decreases-loop-self : goal.decreases-loop-self
decreases-loop-self g l = l.max_parent + 1 - length l.self-inside.parents.items
