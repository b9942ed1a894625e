-- The visits of documents under a parent are their occurrences past the bound.
use Rattle.std.proofs.Common.{◌≡◌, ℕ, List, [], ◌∷◌, ◌++◌, ◌+◌, ◌==◌, filter, length, refl, ap}
use Rattle.std.proofs.Common.{length-append, sym, ◌∙◌}
use Rattle.std.specs.Prelude.{if◌then◌else◌}
use Rattle.std.proofs.lemmas.List.{length-map, map-append}
use Rattle.std.proofs.lemmas.List.Concat.{flat_map-append}
use Rattle.std.proofs.lemmas.List.Elements.{filter-append}
use Rattle.agg_values.specs.Names.{Named}
use Rattle.agg_values.specs.Tuple.{KeyTuple}
use Rattle.agg_values.specs.declared.after_key.AfterKey.{AfterKey}
use Rattle.agg_segment.specs.Segment.{Stored, document_at, documents_at}
use Rattle.agg_request_tree.specs.Occurrences.{bound_of, is_past, occurrences, occurrences_in}
use Rattle.agg_request_tree.specs.Occurrences.{past_occurrences}
use Rattle.agg_request_tree.specs.Source.{Sources, rules_of}
use Rattle.agg_composite.specs.buckets.Cut.{tuples_under}
use Rattle.agg_composite.specs.buckets.Visits.{Visit, visits_at}
use Rattle.agg_composite.proofs.lemmas.buckets.Labels.{is_id-same}
use Rattle.agg_composite.specs.Visits.{visits_past}

-- the tuples of the visits of a document under its parent
own-tuples : {S : Type 0} (p doc : ℕ) (ts : List S) → tuples_under p (visits_at p doc ts) ≡ ts
own-tuples p doc [] = refl
own-tuples p doc (t ∷ ts) =
    ap (λ b. (if b then t ∷ [] else []) ++ tuples_under p (visits_at p doc ts)) (is_id-same p)
    ∙ ap (λ us. t ∷ us) (own-tuples p doc ts)

module _ (sources : Sources) (segment : Stored) (after : Named AfterKey) where
  -- the occurrences of documents that lie past the bound
  abbrev past : List ℕ → List KeyTuple
  past docs = past_occurrences sources (bound_of sources after) (documents_at segment docs)

  pub past-append : (xs ys : List ℕ) → past (xs ++ ys) ≡ past xs ++ past ys
  past-append xs ys =
      let test = is_past (rules_of sources) (bound_of sources after) in
      ap (past_occurrences sources (bound_of sources after))
      (map-append (document_at segment) xs ys)
      ∙ ap (filter test)
      (flat_map-append (occurrences sources) (documents_at segment xs) (documents_at segment ys))
      ∙ filter-append test (occurrences_in sources (documents_at segment xs))
      (occurrences_in sources (documents_at segment ys))

  -- they are the tuples of the visits under the parent
  pub tuples_under-past : (parent : ℕ) (docs : List ℕ)
      → tuples_under parent (visits_past sources segment after parent docs) ≡ past docs
  tuples_under-past parent [] = refl
  tuples_under-past parent (doc ∷ docs) =
      flat_map-append (λ v. if parent == v.0.0 then v.0.1 ∷ [] else [])
      (visits_at parent doc (past (doc ∷ []))) (visits_past sources segment after parent docs)
      ∙ (λ i. own-tuples parent doc (past (doc ∷ [])) i ++ tuples_under-past parent docs i)
      ∙ sym (past-append (doc ∷ []) docs)

  -- the visits past the bound are as many as the tuples
  pub length-past : (parent : ℕ) (docs : List ℕ)
      → length (visits_past sources segment after parent docs) ≡ length (past docs)
  length-past parent [] = refl
  length-past parent (doc ∷ docs) =
      length-append (visits_at parent doc (past (doc ∷ [])))
      (visits_past sources segment after parent docs)
      ∙ (λ i. length-map {B = Visit KeyTuple} (past (doc ∷ [])) (λ t. ((parent, t), doc)) i
      + length-past parent docs i)
      ∙ sym (length-append (past (doc ∷ [])) (past docs))
      ∙ ap length (sym (past-append (doc ∷ []) docs))
