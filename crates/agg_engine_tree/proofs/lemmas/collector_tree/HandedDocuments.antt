-- What a node hands on is no more than its uncut list.
use Rattle.std.proofs.Common.{◌≡◌, ◌≤◌, ◌+◌, ℕ, List, [], ◌∷◌, Bool, true, false, if◌then◌else◌}
use Rattle.std.proofs.Common.{filter, refl, sym, ap, ◌∙◌, subst, arith}
use Rattle.std.specs.Prelude.{◌&&◌, nat_lt}
use Rattle.agg_values.specs.Names.{Named}
use Rattle.agg_values.specs.declared.after_key.AfterKey.{AfterKey}
use Rattle.agg_segment.specs.storage.Document.{Fields}
use Rattle.agg_segment.specs.Query.{matches}
use Rattle.agg_segment.specs.Segment.{Stored, document_at, documents_at}
use Rattle.agg_segment.specs.declared.query.QueryTree.{QueryTree}
use Rattle.agg_request_tree.specs.Matching.{matching}
use Rattle.agg_request_tree.specs.Occurrences.{occurrences}
use Rattle.agg_request_tree.specs.Uncut.{counted, once_each}
use Rattle.agg_request_tree.specs.declared.aggregation.CompositeAggregation.{CompositeAggregation}
use Rattle.agg_request_tree.specs.declared.aggregation.filter.FilterQuery.{FilterQuery}
use Rattle.agg_request_tree.specs.declared.aggregation.filter.FilterQuery.TheVariants as by
use Rattle.agg_composite.specs.declared.accessor.request_data.CompositeAggReqData.{
  CompositeAggReqData,
}
use Rattle.agg_composite.specs.buckets.Visits.{docs_in}
use Rattle.agg_composite.specs.Composite.{Composite, CompositeFor}
use Rattle.agg_filter.specs.Filter.{Filter, FilterFor}
use Rattle.agg_filter.specs.Matching.{is_matching}
use Rattle.agg_engine_tree.specs.segment_context.Context.{tree_in}
use Rattle.agg_engine_tree.specs.collector_tree.Caches.{Cache, waiting_in}
use Rattle.agg_engine_tree.specs.collector_tree.Tree.{visits_of}
use Rattle.agg_engine_tree.proofs.lemmas.collector_tree.LowerDocuments.{given-visited}
use Rattle.agg_engine_tree.proofs.lemmas.collector_tree.MatchedDocuments.{given-matched}
use Rattle.agg_engine_tree.proofs.lemmas.collector_tree.UncutParts.{Lighter, lighter-both}
use Rattle.agg_engine_tree.proofs.lemmas.collector_tree.UncutParts.{lighter-within, visits-counted}
use Rattle.agg_engine_tree.proofs.lemmas.collector_tree.UncutParts.{weigh}

-- what a composite gave is no more than what it counts
pub composite-lighter : (req : CompositeAggReqData) (segment : Stored) (after : Named AfterKey)
    (asked : CompositeAggregation) → req.req.now.sources ≡ asked.sources
    → (collector : Composite Cache) (taken given : List (ℕ × ℕ)) → collector.hands_on ≡ true
    → CompositeFor waiting_in req collector (visits_of req segment after taken) given
    → Lighter (documents_at segment (docs_in given))
    (counted asked (documents_at segment (docs_in taken)))
composite-lighter req segment after asked same collector taken given on f =
    let visits = visits_of req segment after taken in
    let whole = documents_at segment (docs_in taken) in
    subst (λ sources. Lighter (documents_at segment (docs_in given))
    (once_each (occurrences sources) whole)) same
    (lighter-both (documents_at segment (docs_in given)) (documents_at segment (docs_in visits))
    (once_each (occurrences req.req.now.sources) whole)
    (lighter-within segment (docs_in given) (docs_in visits)
    (given-visited req collector visits given on f))
    (visits-counted req segment after taken))

-- ---- filters

step-at : (segment : Stored) (f : Fields → ℕ) (b : Bool) (d : ℕ) (docs : List ℕ)
    → weigh f (documents_at segment (if b then d ∷ docs else docs))
    ≡ (if b then f (document_at segment d) else 0) + weigh f (documents_at segment docs)
step-at segment f true d docs = refl
step-at segment f false d docs = omega arith

step-in : (f : Fields → ℕ) (b : Bool) (d : Fields) (docs : List Fields)
    → weigh f (if b then d ∷ docs else docs) ≡ (if b then f d else 0) + weigh f docs
step-in f true d docs = refl
step-in f false d docs = omega arith

both-less : (a b : Bool) (n : ℕ) → (if a && b then n else 0) ≤ (if b then n else 0)
both-less true b n = omega arith
both-less false true n = omega arith
both-less false false n = omega arith

matched-less : (tree : QueryTree) (segment : Stored) (f : Fields → ℕ) (docs : List ℕ)
    → weigh f (documents_at segment (filter (is_matching tree segment) docs))
    ≤ weigh f (filter (matches tree) (documents_at segment docs))
matched-less tree segment f [] = omega arith
matched-less tree segment f (d ∷ docs) =
    let doc = document_at segment d in
    omega (
      arith,
      step-at segment f (is_matching tree segment d) d (filter (is_matching tree segment) docs),
      step-in f (matches tree doc) doc (filter (matches tree) (documents_at segment docs)),
      both-less (nat_lt d segment.count) (matches tree doc) (f doc),
      matched-less tree segment f docs,
    )

matching-tree : (query : FilterQuery QueryTree) (documents : List Fields)
    → matching matches query documents ≡ filter (matches (tree_in query)) documents
matching-tree (by.Tree tree) documents = refl
matching-tree (by.CustomBuilder tree) documents = refl

-- documents by number that match are no more than those that match
pub matched-lighter : (tree : QueryTree) (segment : Stored) (query : FilterQuery QueryTree)
    → tree ≡ tree_in query → (docs : List ℕ)
    → Lighter (documents_at segment (filter (is_matching tree segment) docs))
    (matching matches query (documents_at segment docs))
matched-lighter tree segment query same docs =
    subst (Lighter (documents_at segment (filter (is_matching tree segment) docs)))
    (ap (λ t. filter (matches t) (documents_at segment docs)) same
    ∙ sym (matching-tree query (documents_at segment docs)))
    (record { lighter = λ weight. matched-less tree segment weight docs })

-- what a filter gave is no more than what it matches
pub filter-lighter : (tree : QueryTree) (segment : Stored) (query : FilterQuery QueryTree)
    → tree ≡ tree_in query → (collector : Filter Cache) (taken given : List (ℕ × ℕ))
    → collector.hands_on ≡ true → FilterFor waiting_in (is_matching tree segment) collector taken
    given
    → Lighter (documents_at segment (docs_in given))
    (matching matches query (documents_at segment (docs_in taken)))
filter-lighter tree segment query same collector taken given on f =
    let m = is_matching tree segment in
    lighter-both (documents_at segment (docs_in given))
    (documents_at segment (filter m (docs_in taken)))
    (matching matches query (documents_at segment (docs_in taken)))
    (lighter-within segment (docs_in given) (filter m (docs_in taken))
    (given-matched m collector taken given on f))
    (matched-lighter tree segment query same (docs_in taken))
