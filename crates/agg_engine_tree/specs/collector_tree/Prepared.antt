-- Which parents the collectors of a tree are prepared for.
use Rattle.std.specs.Prelude.{◌<◌, ℕ, length, ⊤}
use Rattle.agg_engine_tree.specs.collector_tree.Tree.{Held, Helds}

-- the collectors at the top of a tree are prepared for a parent
abbrev mutual
  pub IsPrepared : ℕ → Held → Type 0
  IsPrepared parent (Held.composite index collector h) = parent < length collector.node.parents
  IsPrepared parent (Held.filter index collector h) = parent < length collector.counts
  IsPrepared parent (Held.metric index collector) = parent < length collector.metrics
  IsPrepared parent (Held.group hs) = ArePrepared parent hs

  pub ArePrepared : ℕ → Helds → Type 0
  ArePrepared parent Helds.none = ⊤
  ArePrepared parent (Helds.more h hs) = IsPrepared parent h × ArePrepared parent hs
