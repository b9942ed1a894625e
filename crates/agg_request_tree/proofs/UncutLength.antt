-- How many documents a composite counts.
use Rattle.std.proofs.Common.{◌≡◌, ◌+◌, List, [], ◌∷◌, length, length-append, map, refl, sym, ◌∙◌}
use Rattle.std.specs.List.{flat_map}
use Rattle.std.proofs.lemmas.List.{length-map}
use Rattle.agg_segment.specs.storage.Document.{Fields}
use Rattle.agg_request_tree.specs.declared.aggregation.CompositeAggregation.{CompositeAggregation}
use Rattle.agg_request_tree.specs.Occurrences.{occurrences, occurrences_in}
use Rattle.agg_request_tree.specs.Uncut.{counted, once_each}

-- documents, each once for each of its elements, are as many as all elements
pub length-each : {X : Type 0} (elements : Fields → List X) (documents : List Fields)
    → length (once_each elements documents) ≡ length (flat_map elements documents)
length-each elements [] = refl
length-each elements (d ∷ documents) =
    length-append (map (λ x. d) (elements d)) (once_each elements documents)
    ∙ (λ i. length-map (elements d) (λ x. d) i + length-each elements documents i)
    ∙ sym (length-append (elements d) (flat_map elements documents))

-- a composite counts a document for each of its occurrences
pub length-counted : (composite : CompositeAggregation) (documents : List Fields)
    → length (counted composite documents)
    ≡ length (occurrences_in composite.sources documents)
length-counted composite = length-each (occurrences composite.sources)
