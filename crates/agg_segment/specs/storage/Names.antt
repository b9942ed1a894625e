-- The names of fields with their numbers.
use Rattle.std.specs.Prelude.{ℕ, String, map}
use Rattle.std.specs.BTreeMap.{BTreeMap}
use Rattle.std.specs.String.{string_bytes}
use Rattle.agg_values.specs.Names.{Named}

-- the names by their bytes
abbrev pub numbered_names : {Y : Type 0} → BTreeMap (String Y) ℕ → Named ℕ
numbered_names names = map (λ e. (string_bytes e.0, e.1)) names.entries
