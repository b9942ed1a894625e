-- A tree of collectors as plain data, one level at a time.
use Rattle.std.proofs.Common.{◌≡◌, ℕ, map, rules}
use Rattle.std.specs.declared.alloc.Global.{Global}
use Rattle.std.specs.declared.boxed.Box.{Box}
use Rattle.std.specs.declared.vec.Vec.{Vec}
use Rattle.agg_composite.specs.Composite.{Composite as CompositeCollector}
use Rattle.agg_filter.specs.Filter.{Filter as FilterCollector}
use Rattle.agg_metric.specs.Collector.{Metric as MetricCollector}
use Rattle.agg_engine_tree.specs.collector_tree.Caches.{Cache}
use Rattle.agg_engine_tree.specs.collector_tree.Tree.{Held, held_of, helds_of}
use Rattle.agg_engine_tree.specs.declared.collector_tree.tree.SegmentCollectorTree as declared
use declared.{SegmentCollectorTree, Composite, Filter, Metric, Group, the_lemmas}

pub held-composite : (index : ℕ) (collector : CompositeCollector Cache)
    (child : Box SegmentCollectorTree Global)
    → held_of (Composite index collector child)
    ≡ Held.composite index collector (held_of child.value)
held-composite index collector child = search (rules, the_lemmas)

pub held-filter : (index : ℕ) (collector : FilterCollector Cache)
    (child : Box SegmentCollectorTree Global)
    → held_of (Filter index collector child) ≡ Held.filter index collector (held_of child.value)
held-filter index collector child = search (rules, the_lemmas)

pub held-metric : (index : ℕ) (collector : MetricCollector)
    → held_of (Metric index collector) ≡ Held.metric index collector
held-metric index collector = search (rules, the_lemmas)

pub held-group : (children : Vec SegmentCollectorTree Global)
    → held_of (Group children) ≡ Held.group (helds_of (map held_of children.items))
held-group children = search (rules, the_lemmas)
