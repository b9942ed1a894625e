use Rattle.std_collections.specs.Map.Iter.{deref_pair}
use Rattle.std_collections.proofs.IterRuns.{shows_values_in_order}
use Rattle.agg_values.proofs.name_map.NameMap.iter.Goals as goal

pub returns-clause-values_in_order : goal.returns-clause-values_in_order
returns-clause-values_in_order g c = shows_values_in_order deref_pair
