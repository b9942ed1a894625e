-- The visits that a composite makes of documents under parents.
use Rattle.std.proofs.Common.{◌≡◌, ℕ, zero, suc, List, [], ◌∷◌, ◌++◌, ◌==◌, ◌&&◌, Bool}
use Rattle.std.proofs.Common.{true, false, append-nil, filter, length, inl, inr, refl, sym, ap}
use Rattle.std.proofs.Common.{◌∙◌, subst, replicate}
use Rattle.std.specs.Prelude.{if◌then◌else◌}
use Rattle.std.specs.List.{AllByRecursion, count_by}
use Rattle.std.proofs.lemmas.Bool.{cases_eq}
use Rattle.std.proofs.lemmas.List.{map-append}
use Rattle.std.proofs.lemmas.List.Concat.{flat_map-append}
use Rattle.std.proofs.lemmas.List.Elements.{filter-append}
use Rattle.std.proofs.lemmas.List.Sums.{length-filter}
use Rattle.agg_values.specs.Names.{Named}
use Rattle.agg_values.specs.Tuple.{KeyTuple}
use Rattle.agg_values.specs.declared.after_key.AfterKey.{AfterKey}
use Rattle.agg_cache.specs.Waiting.{docs_of, is_id}
use Rattle.agg_segment.specs.storage.Document.{Fields}
use Rattle.agg_segment.specs.Segment.{Stored, document_at, documents_at}
use Rattle.agg_request_tree.specs.Occurrences.{bound_of, is_past, occurrences, occurrences_in}
use Rattle.agg_request_tree.specs.Occurrences.{past_occurrences, same_tuple}
use Rattle.agg_request_tree.specs.Page.{documents_with}
use Rattle.agg_request_tree.specs.Source.{Sources, rules_of}
use Rattle.agg_request_tree.proofs.PageFromGroups.{count_by-past}
use Rattle.agg_composite.specs.declared.accessor.request_data.CompositeAggReqData.{
  CompositeAggReqData,
}
use Rattle.agg_composite.specs.buckets.Cut.{tuples_under}
use Rattle.agg_composite.specs.buckets.Visits.{Owner, visits_at}
use Rattle.agg_composite.proofs.lemmas.buckets.Labels.{docs_of-append, is_id-other, is_id-same}
use Rattle.agg_composite.specs.Composite.{docs_under}
use Rattle.agg_composite.specs.Visits.{TypedVisit, visits_past}
use Rattle.agg_composite.proofs.VisitsPast.{tuples_under-past}
use Rattle.agg_engine_tree.specs.collector_tree.Tree.{visits_of}
use Rattle.agg_results.proofs.Parts.{with-append}

-- these if so, else none
abbrev if_so : {X : Type 0} → Bool → List X → List X
if_so b xs = if b then xs else []

-- ---- the visits of one document

-- under another parent there are none
tuples-other : {S : Type 0} (p q doc : ℕ) (ts : List S) → ¬ (q ≡ p)
    → tuples_under p (visits_at q doc ts) ≡ []
tuples-other p q doc [] other = refl
tuples-other p q doc (t ∷ ts) other =
    ap (λ b. if_so b (t ∷ []) ++ tuples_under p (visits_at q doc ts)) (is_id-other q p other)
    ∙ tuples-other p q doc ts other

module _ (is_it : KeyTuple → Bool) where
  -- the documents of visits under a parent, whose tuple passes a test
  abbrev docs_by : ℕ → List TypedVisit → List ℕ
  docs_by p = docs_of (λ (o : Owner KeyTuple). (p == o.0) && is_it o.1)

  own-by : (b : Bool) (t : KeyTuple) (ts : List KeyTuple) (doc : ℕ) → is_it t ≡ b
      → if_so (true && is_it t) (doc ∷ []) ++ replicate (length (filter is_it ts)) doc
      ≡ replicate (length (filter is_it (t ∷ ts))) doc
  own-by true t ts doc is = rw is refl
  own-by false t ts doc is = rw is refl

  docs-own : (p doc : ℕ) (ts : List KeyTuple)
      → docs_by p (visits_at p doc ts) ≡ replicate (length (filter is_it ts)) doc
  docs-own p doc [] = refl
  docs-own p doc (t ∷ ts) =
      ap (λ b. if_so (b && is_it t) (doc ∷ []) ++ docs_by p (visits_at p doc ts)) (is_id-same p)
      ∙ ap (λ ds. if_so (true && is_it t) (doc ∷ []) ++ ds) (docs-own p doc ts)
      ∙ own-by (is_it t) t ts doc refl

  docs-other : (p q doc : ℕ) (ts : List KeyTuple) → ¬ (q ≡ p)
      → docs_by p (visits_at q doc ts) ≡ []
  docs-other p q doc [] other = refl
  docs-other p q doc (t ∷ ts) other =
      ap (λ b. if_so (b && is_it t) (doc ∷ []) ++ docs_by p (visits_at q doc ts))
      (is_id-other q p other)
      ∙ docs-other p q doc ts other

-- ---- the visits of all documents

module _ (req : CompositeAggReqData) (segment : Stored) (after : Named AfterKey) (parent : ℕ) where
  abbrev sources : Sources
  sources = req.req.now.sources

  -- the occurrences of documents past the bound
  abbrev past : List ℕ → List KeyTuple
  past docs = past_occurrences sources (bound_of sources after) (documents_at segment docs)

  past-append : (xs ys : List ℕ) → past (xs ++ ys) ≡ past xs ++ past ys
  past-append xs ys =
      let test = is_past (rules_of sources) (bound_of sources after) in
      ap (past_occurrences sources (bound_of sources after))
      (map-append (document_at segment) xs ys)
      ∙ ap (filter test)
      (flat_map-append (occurrences sources) (documents_at segment xs) (documents_at segment ys))
      ∙ filter-append test (occurrences_in sources (documents_at segment xs))
      (occurrences_in sources (documents_at segment ys))

  abbrev visits_one : ℕ × ℕ → List TypedVisit
  visits_one e = visits_past sources segment after e.0 (e.1 ∷ [])

  -- the documents under the parent
  abbrev own_docs : List (ℕ × ℕ) → List ℕ
  own_docs taken = docs_of (is_id parent) taken

  tuples-one : (e : ℕ × ℕ)
      → tuples_under parent (visits_one e) ≡ past (if_so (is_id parent e.0) (e.1 ∷ []))
  tuples-one e = elim (cases_eq e.0 parent) [
    | inl same ↦
        ap (λ q. tuples_under parent (visits_past sources segment after q (e.1 ∷ []))) same
        ∙ tuples_under-past sources segment after parent (e.1 ∷ [])
        ∙ ap (λ b. past (if_so b (e.1 ∷ [])))
        (sym (ap (is_id parent) same ∙ is_id-same parent))
    | inr other ↦
        ap (tuples_under parent) (append-nil (visits_at e.0 e.1 (past (e.1 ∷ []))))
        ∙ tuples-other parent e.0 e.1 (past (e.1 ∷ [])) other
        ∙ ap (λ b. past (if_so b (e.1 ∷ []))) (sym (is_id-other parent e.0 (λ is. other (sym is))))
  ]

  -- the tuples of the visits under the parent are the occurrences of its documents past the bound
  pub tuples-taken : (taken : List (ℕ × ℕ))
      → tuples_under parent (visits_of req segment after taken) ≡ past (own_docs taken)
  tuples-taken [] = refl
  tuples-taken (e ∷ taken) =
      flat_map-append (λ v. if_so (parent == v.0.0) (v.0.1 ∷ [])) (visits_one e)
      (visits_of req segment after taken)
      ∙ (λ i. tuples-one e i ++ tuples-taken taken i)
      ∙ sym (past-append (if_so (is_id parent e.0) (e.1 ∷ [])) (own_docs taken))

  module _ (key : KeyTuple) where
    abbrev is_it : KeyTuple → Bool
    is_it = same_tuple (rules_of sources) key

    -- a document once for each of its past occurrences of the tuple
    abbrev copies : ℕ → List ℕ
    copies doc = replicate (length (filter is_it (past (doc ∷ [])))) doc

    docs-one : (e : ℕ × ℕ) → docs_under (rules_of sources) parent key (visits_one e)
        ≡ if_so (is_id parent e.0) (copies e.1)
    docs-one e =
        let plain = ap (docs_under (rules_of sources) parent key)
        (append-nil (visits_at e.0 e.1 (past (e.1 ∷ [])))) in
        elim (cases_eq e.0 parent) [
          | inl same ↦
              plain
              ∙ ap (λ q. docs_by is_it parent (visits_at q e.1 (past (e.1 ∷ [])))) same
              ∙ docs-own is_it parent e.1 (past (e.1 ∷ []))
              ∙ ap (λ b. if_so b (copies e.1)) (sym (ap (is_id parent) same ∙ is_id-same parent))
          | inr other ↦
              plain
              ∙ docs-other is_it parent e.0 e.1 (past (e.1 ∷ [])) other
              ∙ ap (λ b. if_so b (copies e.1))
              (sym (is_id-other parent e.0 (λ is. other (sym is))))
        ]

    docs-more : (e : ℕ × ℕ) (taken : List (ℕ × ℕ))
        → docs_under (rules_of sources) parent key (visits_of req segment after (e ∷ taken))
        ≡ if_so (is_id parent e.0) (copies e.1)
        ++ docs_under (rules_of sources) parent key (visits_of req segment after taken)
    docs-more e taken =
        docs_of-append (λ (o : Owner KeyTuple). (parent == o.0) && is_it o.1) (visits_one e)
        (visits_of req segment after taken)
        ∙ ap (λ ds. ds ++ docs_under (rules_of sources) parent key
        (visits_of req segment after taken)) (docs-one e)

    copies-all : (P : ℕ → Type 0) (n doc : ℕ) (docs : List ℕ) → P doc → AllByRecursion P docs
        → AllByRecursion P (replicate n doc ++ docs)
    copies-all P zero doc docs here rest = rest
    copies-all P (suc n) doc docs here rest = (here, copies-all P n doc docs here rest)

    docs-all-by : (P : ℕ → Type 0) (b : Bool) (doc : ℕ) (own docs : List ℕ)
        → (AllByRecursion P own → AllByRecursion P docs)
        → AllByRecursion P (if_so b (doc ∷ []) ++ own)
        → AllByRecursion P (if_so b (copies doc) ++ docs)
    docs-all-by P true doc own docs rest all =
        copies-all P (length (filter is_it (past (doc ∷ [])))) doc docs all.0 (rest all.1)
    docs-all-by P false doc own docs rest all = rest all

    -- what holds of the parent's documents holds of those of a tuple
    pub docs-all : (P : ℕ → Type 0) (taken : List (ℕ × ℕ)) → AllByRecursion P (own_docs taken)
        → AllByRecursion P
        (docs_under (rules_of sources) parent key (visits_of req segment after taken))
    docs-all P [] all = tt
    docs-all P (e ∷ taken) all =
        subst (AllByRecursion P) (sym (docs-more e taken))
        (docs-all-by P (is_id parent e.0) e.1 (own_docs taken)
        (docs_under (rules_of sources) parent key (visits_of req segment after taken))
        (docs-all P taken) all)

    module _ (is_listed : is_past (rules_of sources) (bound_of sources after) key ≡ true) where
      copies-with-by : (n : ℕ) (doc : ℕ)
          → documents_at segment (replicate n doc) ≡ replicate n (document_at segment doc)
      copies-with-by zero doc = refl
      copies-with-by (suc n) doc = ap (λ ds. document_at segment doc ∷ ds) (copies-with-by n doc)

      -- a past tuple occurs as often among the past occurrences as at all
      times : (d : Fields) → length (filter is_it
          (past_occurrences sources (bound_of sources after) (d ∷ [])))
          ≡ count_by is_it (occurrences sources d)
      times d =
          length-filter is_it (past_occurrences sources (bound_of sources after) (d ∷ []))
          ∙ count_by-past (rules_of sources) (bound_of sources after) key
          (occurrences_in sources (d ∷ [])) is_listed
          ∙ ap (count_by is_it) (append-nil (occurrences sources d))

      copies-with : (b : Bool) (doc : ℕ)
          → documents_at segment (if_so b (copies doc))
          ≡ documents_with sources (documents_at segment (if_so b (doc ∷ []))) key
      copies-with false doc = refl
      copies-with true doc =
          copies-with-by (length (filter is_it (past (doc ∷ [])))) doc
          ∙ ap (λ n. replicate n (document_at segment doc)) (times (document_at segment doc))
          ∙ sym (append-nil (replicate (count_by is_it (occurrences sources
          (document_at segment doc))) (document_at segment doc)))

      -- the documents of the visits of a past tuple are the parent's documents with it
      pub docs-with : (taken : List (ℕ × ℕ)) → documents_at segment
          (docs_under (rules_of sources) parent key (visits_of req segment after taken))
          ≡ documents_with sources (documents_at segment (own_docs taken)) key
      docs-with [] = refl
      docs-with (e ∷ taken) =
          ap (documents_at segment) (docs-more e taken)
          ∙ map-append (document_at segment) (if_so (is_id parent e.0) (copies e.1))
          (docs_under (rules_of sources) parent key (visits_of req segment after taken))
          ∙ (λ i. copies-with (is_id parent e.0) e.1 i ++ docs-with taken i)
          ∙ sym (with-append sources (documents_at segment (if_so (is_id parent e.0) (e.1 ∷ [])))
          (documents_at segment (own_docs taken)) key)
          ∙ ap (λ ds. documents_with sources ds key)
          (sym (map-append (document_at segment) (if_so (is_id parent e.0) (e.1 ∷ []))
          (own_docs taken)))
