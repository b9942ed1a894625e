use Rattle.std.proofs.Common.{◌≡◌, List, [], ◌∷◌, Bool, true, cond, filter, refl, sym, ap, ◌∙◌}
use Rattle.std.proofs.Common.{◌<◌, ℕ, length, subst}
use Rattle.std.specs.List.{All as Each, range_with_len}
use Rattle.std.proofs.lemmas.List.FromFn.{length-map-range_with_len}
use Rattle.std.proofs.lemmas.List.{length-map}
use Rattle.agg_segment.specs.storage.Document.{Fields}
use Rattle.agg_segment.specs.Query.{matches, matches_by}
use Rattle.agg_segment.specs.Segment.{Stored, document_at, documents_at, documents_of}
use Rattle.agg_segment.specs.declared.query.QueryTree.TheFolds.{fold-roll-QueryTree}
use Rattle.agg_segment.specs.declared.query.QueryTree.TheOpen as layer
use Rattle.agg_segment.specs.declared.query.QueryTree.TheVariants.{All, rolls-All}
use Rattle.agg_engine.proofs.lemmas.snapshot_results.MarkedDocuments.{first-within, given-so}
use Rattle.agg_engine.proofs.lemmas.snapshot_results.MarkedDocuments.{given-within}
use Rattle.agg_engine.proofs.snapshot_results.matching.matching_docs.Goals as goal

matches-All : (document : Fields) → matches All document ≡ true
matches-All document =
    ap (λ tree. matches tree document) (sym rolls-All)
    ∙ ap (λ f. f document) (fold-roll-QueryTree (Fields → Bool) matches_by layer.All)

every : (documents : List Fields) → documents ≡ filter (matches All) documents
every [] = refl
every (document ∷ documents) =
    ap (λ ds. document ∷ ds) (every documents)
    ∙ sym (ap (λ b. cond b (document ∷ filter (matches All) documents)
    (filter (matches All) documents)) (matches-All document))

-- the first documents, as many as there are, are all
all-documents : (segment : Stored) (count : ℕ) → count ≡ length (documents_of segment)
    → documents_at segment (range_with_len 0 count) ≡ documents_of segment
all-documents segment count is =
    let long = length-map-range_with_len (document_at segment) 0 segment.count in
    ap (λ n. documents_at segment (range_with_len 0 n)) (is ∙ long)

pub returns-in-All-clause-documents : goal.returns-in-All-clause-documents
returns-in-All-clause-documents c =
    let segment = c.args.segment.now in
    let documents = documents_of segment in
    let count = c.num_docs-count.result in
    given-so (λ docs. docs.items)
    (λ docs. documents_at segment docs ≡ filter (matches c.args.query.now) documents)
    c.first_docs.result (range_with_len 0 count) c.first_docs.ensures
    (all-documents segment count c.num_docs-count.ensures.count
    ∙ every documents
    ∙ ap (λ query. filter (matches query) documents) (sym c.in-All.is))

pub returns-in-All-clause-within : goal.returns-in-All-clause-within
returns-in-All-clause-within c =
    let count = c.num_docs-count.result in
    given-so (λ docs. docs.items)
    (λ docs. Each (λ doc. doc < length (documents_of c.args.segment.now)) docs)
    c.first_docs.result (range_with_len 0 count) c.first_docs.ensures
    (subst (λ n. Each (λ doc. doc < n) (range_with_len 0 count)) c.num_docs-count.ensures.count
    (first-within count))

pub returns-clause-within : goal.returns-clause-within
returns-clause-within c =
    let documents = documents_of c.args.segment.now in
    given-within (λ docs. docs.items) c.docs-2.result c.in_ok-new.field-0 (length documents)
    (ap length c.in_ok-new.ensures ∙ length-map documents (matches c.args.query.now))
    c.docs-2.ensures.docs
