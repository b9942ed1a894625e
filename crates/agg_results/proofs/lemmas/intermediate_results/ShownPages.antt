-- The page of the lowest entries, as it is shown.
use Rattle.std.proofs.Common.{◌≡◌, ◌-◌, ℕ, suc, List, [], ◌∷◌, length, map, ap}
use Rattle.std.proofs.Common.{◌∙◌, Option, Some, None, arith, eq-eqb}
use Rattle.std.specs.List.{last_or, slice_get}
use Rattle.std.specs.Map.{keys_of}
use Rattle.std.proofs.lemmas.List.{length-map}
use Rattle.agg_values.specs.Names.{Named}
use Rattle.agg_values.specs.Tuple.{KeyTuple}
use Rattle.agg_values.specs.declared.after_key.AfterKey.{AfterKey}
use Rattle.agg_request_tree.specs.Source.{Sources}
use Rattle.agg_request_tree.specs.Request.{Request}
use Rattle.agg_results.specs.intermediate_results.Final.{final_by_name, lowest_of}
use Rattle.agg_results.specs.intermediate_results.Shown.{last_tuple}
use Rattle.agg_results.specs.intermediate_results.Intermediate.{Entries, TupleEntry, below_entry}
use Rattle.agg_results.specs.intermediate_results.Intermediate.{counts_of, target_size_of}
use Rattle.agg_results.specs.declared.intermediate_results as intermediate
use intermediate.composite.IntermediateCompositeBucketResult as composite
use composite.{IntermediateCompositeBucketResult}
use Rattle.agg_results.specs.declared.intermediate_results.entry.IntermediateTermBucketEntry
    as entry
use entry.{IntermediateTermBucketEntry}
use Rattle.agg_results.specs.intermediate_results.Shown.{shown_after, shown_bucket, shown_page}
use Rattle.agg_results.specs.declared.final_results.types.AggregationResult.TheVariants as kind
use Rattle.agg_results.specs.declared.final_results.types.BucketResult.TheVariants as buckets
use Rattle.agg_results.specs.declared.final_results.types.CompositeBucketEntry.{
  CompositeBucketEntry,
}

-- the last entry has the last tuple
last-key : (page : Entries) (e : KeyTuple × IntermediateTermBucketEntry) (o : Option KeyTuple)
    → Some e ≡ slice_get page (length page - 1) → Some e.0 ≡ last_or o (keys_of (counts_of page))
last-key [] e o at = cc
last-key (f ∷ []) e o at = let same : e ≡ f = cc in ap (λ g. Some g.0) same
last-key (f ∷ g ∷ page) e o at =
    let next : length (f ∷ g ∷ page) - 1 ≡ suc (length (g ∷ page) - 1) = omega arith in
    last-key (g ∷ page) e (Some f.0) (at ∙ ap (slice_get (f ∷ g ∷ page)) next)

-- a full page has the tuple of its last entry
pub full-last_tuple : (size : ℕ) (page : Entries) (e : KeyTuple × IntermediateTermBucketEntry)
    → length page ≡ size → Some e ≡ slice_get page (length page - 1)
    → Some e.0 ≡ last_tuple size (counts_of page)
full-last_tuple size page e full at =
    let as_many : length (counts_of page) ≡ size =
    length-map page (λ (e : KeyTuple × IntermediateTermBucketEntry). (e.0, e.1.doc_count)) ∙ full in
    let is = eq-eqb (length (counts_of page)) size as_many in
    rw is (last-key page e None at)

-- an entry as it is shown, with the final results below it
abbrev pub shown_entry : {B : Type 0} → Sources → Request B → TupleEntry → CompositeBucketEntry
shown_entry sources below e =
    shown_bucket sources (e.0, e.1.doc_count) (final_by_name below (below_entry e.1))

-- the page of the lowest entries
pub page-is : {B : Type 0} (sources : Sources) (below : Request B)
    (held : IntermediateCompositeBucketResult) (lowest : Entries) (size : ℕ)
    (last : Option KeyTuple) (after : Named AfterKey) (entries : List CompositeBucketEntry)
    → lowest ≡ lowest_of held → size ≡ target_size_of held
    → last ≡ last_tuple size (counts_of lowest) → after ≡ shown_after sources last
    → entries ≡ map (shown_entry sources below) lowest
    → kind.BucketResult (buckets.Composite entries after)
    ≡ shown_page sources (map (shown_entry sources below) (lowest_of held))
    (last_tuple (target_size_of held) (counts_of (lowest_of held)))
page-is sources below held lowest size last after entries low room is later shown =
    let own_entries : entries ≡ map (shown_entry sources below) (lowest_of held) =
    shown ∙ ap (map (shown_entry sources below)) low in
    let own_last : last ≡ last_tuple (target_size_of held) (counts_of (lowest_of held)) =
    is ∙ (λ i. last_tuple (room i) (counts_of (low i))) in
    let own_after = later ∙ ap (shown_after sources) own_last in
    λ i. kind.BucketResult (buckets.Composite (own_entries i) (own_after i))
