-- What waits in the caches of a tree, and what the collector of a filter holds.
use Rattle.std.specs.Prelude.{ℕ, List, [], get_or}
use Rattle.agg_filter.specs.Filter.{Filter}
use Rattle.agg_engine_tree.specs.declared.collector_tree.filter_collector.ByPlace.{ByPlace}
use Rattle.agg_engine_tree.specs.declared.collector_tree.filter_collector.ByPlace.TheVariants.{
  Below,
}
use Rattle.agg_engine_tree.specs.declared.collector_tree.filter_collector.ByPlace.TheVariants.{Top}

-- the documents that wait in a cache, by bucket
abbrev pub Cache : Type 0
Cache = List (List ℕ)

abbrev pub waiting_in : Cache → ℕ → List ℕ
waiting_in cache id = get_or cache id []

-- what the collector of a filter holds, wherever the filter stands
abbrev pub filter_of : ByPlace → Filter Cache
filter_of (Top collector) = collector
filter_of (Below collector) = collector
