-- Tuples of typed keys.
use Rattle.std.specs.Prelude.{List, [], ◌∷◌}
use Rattle.agg_values.specs.TypedKey.{CompositeIntermediateKey}
use Rattle.agg_values.specs.declared.tuple.Keys.{Keys}
use Rattle.agg_values.specs.declared.tuple.Keys.TheVariants.{Many, One}

-- a tuple of typed keys, one for each source
abbrev pub KeyTuple : Type 0
KeyTuple = List CompositeIntermediateKey

-- the keys of a tuple, however they are kept
abbrev pub key_list : Keys → KeyTuple
key_list (One key) = key ∷ []
key_list (Many keys) = keys.items
