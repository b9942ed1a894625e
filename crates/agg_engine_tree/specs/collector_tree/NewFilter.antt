-- New collectors of filters.
use Rattle.std.specs.Prelude.{◌≡◌, ℕ, [], Bool, not}
use Rattle.agg_filter.specs.Filter.{Filter, FilterFor}
use Rattle.agg_engine_tree.specs.collector_tree.Caches.{Cache, waiting_in}

-- a filter's collector that visited nothing
pub record IsNewFilter (is_leaf : Bool) (collector : Filter Cache) : Type 0 where
  pub empty : (is_match : ℕ → Bool) → FilterFor waiting_in is_match collector [] []
  pub waiting : (id : ℕ) → waiting_in collector.cache.0 id ≡ []
  pub hands_on : collector.hands_on ≡ not is_leaf
