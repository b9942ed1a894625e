-- Tuples by the names of their sources.
use Rattle.std.specs.Prelude.{[], ◌∷◌}
use Rattle.agg_values.specs.TypedKey.{CompositeIntermediateKey}
use Rattle.agg_values.specs.declared.after_key.AfterKey.{AfterKey}
use Rattle.agg_values.specs.Names.{put, Named}
use Rattle.agg_request_tree.specs.Source.{name_of, Sources}
use Rattle.agg_values.specs.Tuple.{KeyTuple}

-- a value for each source of a tuple, by the source's name
abbrev pub by_source : {T : Type 0} → (CompositeIntermediateKey → T) → Sources → KeyTuple → Named T
by_source value [] keys = []
by_source value (source ∷ sources) [] = []
by_source value (source ∷ sources) (k ∷ keys) =
    put (name_of source) (value k) (by_source value sources keys)

-- a tuple as the after key of a composite
abbrev pub after_map : Sources → KeyTuple → Named AfterKey
after_map = by_source (λ k. record { 0 = k })
