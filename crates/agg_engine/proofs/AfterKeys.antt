-- After keys from which each source goes on.
use Rattle.std.proofs.Common.{◌≢◌, ℕ, List, get_or, refl}
use Rattle.std.specs.List.{All, Contains}
use Rattle.std.proofs.lemmas.List.Elements.{recursion_from_All}
use Rattle.std.proofs.lemmas.Slice.Zip.{AllZip-long}
use Rattle.agg_values.specs.Tuple.{KeyTuple}
use Rattle.agg_values.specs.declared.typed_key.CompositeIntermediateKey.TheVariants.{Null}
use Rattle.agg_segment.specs.storage.Document.{Fields}
use Rattle.agg_request_tree.specs.BySource.{after_map}
use Rattle.agg_request_tree.specs.Faults.{HasInterval, HaveOwnNames}
use Rattle.agg_request_tree.specs.Occurrences.{occurrences, occurrences_in}
use Rattle.agg_request_tree.specs.Source.{Sources, after_of}
use Rattle.agg_request_tree.specs.declared.aggregation.CompositeAggregation.{CompositeAggregation}
use Rattle.agg_request_tree.proofs.Faults.{IsSoundSource-parts}
use Rattle.agg_request_tree.proofs.Lists.{AllByRecursion-Has, Contains-from_Has, Has-from_Contains}
use Rattle.agg_request_tree.proofs.Lists.{Has-from_flat_map}
use Rattle.agg_request_tree.proofs.SourceKeys.{IsNullByBucket, after_map-own, after_map-sound}
use Rattle.agg_request_tree.proofs.SourceKeys.{occurrence-Null}
use Rattle.agg_engine.specs.PageAnswers.{MayGoOnFrom}

-- no field of a document holds Null
abbrev pub HasNoNull : Fields → Type 0
HasNoNull document = (field : List ℕ) → All (λ k. k ≢ Null) (document field)

-- a composite goes on from the after key of a tuple of documents without Null
pub MayGoOnFrom-after : (sources : Sources) (documents : List Fields) (tuple : KeyTuple)
    → HaveOwnNames sources → All HasInterval sources → All HasNoNull documents
    → Contains (occurrences_in sources documents) tuple
    → MayGoOnFrom sources (after_map sources tuple)
MayGoOnFrom-after sources documents tuple own_names intervals no_null occurs =
    let from = Has-from_flat_map (occurrences sources) documents tuple
    (Has-from_Contains (occurrences_in sources documents) tuple occurs) in
    let document = AllByRecursion-Has HasNoNull documents from.0
    (recursion_from_All HasNoNull documents no_null) from.1 in
    let there = Contains-from_Has (occurrences sources from.0) tuple from.2 in
    let long = AllZip-long IsNullByBucket sources tuple (occurrence-Null sources from.0 tuple
    document there) in
    let later : CompositeAggregation = record {
      sources = sources;
      size = 0;
      after = after_map sources tuple;
    } in
    λ i d within.
    let source = get_or sources i d in
    IsSoundSource-parts source (after_of (after_map sources tuple) source)
    (after_map-sound later from.0 tuple refl own_names long document there i d within)
    (intervals i d within)
    (after_map-own later from.0 tuple refl own_names long there i d within)
