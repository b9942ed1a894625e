-- The tuples of a document, and those that lie past a bound.
use Rattle.std.specs.Prelude.{Bool, ◌&&◌, ◌||◌, nat_lt}
use Rattle.std.specs.Prelude.{List, [], ◌∷◌, filter, length, map, take}
use Rattle.std.specs.List.{flat_map}
use Rattle.std.specs.Option.{option_map_or}
use Rattle.std.specs.Ordering.{is_lt, is_eq}
use Rattle.agg_values.specs.declared.after_key.AfterKey.{AfterKey}
use Rattle.agg_values.specs.KeyOrder.{tuple_order, SourceRules}
use Rattle.agg_values.specs.Names.{Named}
use Rattle.agg_segment.specs.storage.Document.{Fields}
use Rattle.agg_request_tree.specs.Source.{Sources, after_of, rules_of, source_values}
use Rattle.agg_values.specs.Tuple.{KeyTuple}

-- one tuple for each choice of one key per source, repeats kept
abbrev pub occurrences : Sources → Fields → List KeyTuple
occurrences [] document = [] ∷ []
occurrences (source ∷ sources) document =
    flat_map (λ k. map (λ t. k ∷ t) (occurrences sources document)) (source_values source document)

-- the occurrences of all documents
abbrev pub occurrences_in : Sources → List Fields → List KeyTuple
occurrences_in sources documents = flat_map (occurrences sources) documents

-- the after values of the sources before the first one that `after` doesn't name
abbrev pub bound_of : Sources → Named AfterKey → KeyTuple
bound_of [] after = []
bound_of (source ∷ sources) after =
    option_map_or (λ k. k ∷ bound_of sources after) (after_of after source) []

-- whether a tuple lies past a bound: above it in the places that the bound has, or equal there to a
-- bound that lacks a place; ascending, (2, 1) is past the bounds (1, 1) and (2), not past (2, 1)
abbrev pub is_past : SourceRules → KeyTuple → KeyTuple → Bool
is_past rules bound tuple =
    let o = tuple_order rules bound (take (length bound) tuple) in
    is_lt o || (is_eq o && nat_lt (length bound) (length rules))

-- whether two tuples are one, numbers by value
abbrev pub same_tuple : SourceRules → KeyTuple → KeyTuple → Bool
same_tuple rules t u = is_eq (tuple_order rules t u)

-- the occurrences of all documents that lie past a bound
abbrev pub past_occurrences : Sources → KeyTuple → List Fields → List KeyTuple
past_occurrences sources bound documents =
    filter (is_past (rules_of sources) bound) (occurrences_in sources documents)
