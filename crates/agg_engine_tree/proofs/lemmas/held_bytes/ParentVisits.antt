-- The visits of a composite, parent by parent.
use Rattle.std.proofs.Common.{◌≡◌, ◌<◌, ◌≤◌, ◌==◌, ℕ, List, [], ◌∷◌, ◌++◌, Bool, true}
use Rattle.std.proofs.Common.{append-nil, inl, inr, refl, sym, ap, ◌∙◌, subst, arith}
use Rattle.std.specs.Prelude.{if◌then◌else◌}
use Rattle.std.specs.List.{AllByRecursion, list_any, sum_by}
use Rattle.std.proofs.lemmas.Bool.{cases_eq}
use Rattle.std.proofs.lemmas.List.{map-append}
use Rattle.std.proofs.lemmas.List.Concat.{flat_map-append}
use Rattle.agg_values.specs.Names.{Named}
use Rattle.agg_values.specs.Tuple.{KeyTuple}
use Rattle.agg_values.specs.declared.after_key.AfterKey.{AfterKey}
use Rattle.agg_cache.specs.Waiting.{docs_of, is_id, under}
use Rattle.agg_segment.specs.Segment.{Stored, documents_at}
use Rattle.agg_request_tree.specs.Occurrences.{bound_of, occurrences, past_occurrences}
use Rattle.agg_request_tree.specs.Uncut.{once_each}
use Rattle.agg_request_tree.proofs.Lists.{AllByRecursion-always, AllByRecursion-flat_map}
use Rattle.agg_request_tree.proofs.Lists.{AllByRecursion-map, AllByRecursion-weaker}
use Rattle.agg_request_tree.specs.charges.Within.{Within}
use Rattle.agg_composite.specs.declared.accessor.request_data.CompositeAggReqData.{
  CompositeAggReqData,
}
use Rattle.agg_composite.specs.buckets.Visits.{Owner, docs_in, visits_at, weight}
use Rattle.agg_composite.proofs.lemmas.buckets.Labels.{docs_in-append, docs_of-append, is_id-other}
use Rattle.agg_composite.proofs.lemmas.buckets.Labels.{is_id-same}
use Rattle.agg_composite.specs.Visits.{TypedVisit, visits_past}
use Rattle.agg_engine_tree.specs.collector_tree.Tree.{visits_of}
use Rattle.agg_engine_tree.proofs.lemmas.collector_tree.UncutParts.{Lighter, visits-counted}
use Rattle.agg_engine_tree.proofs.lemmas.held_bytes.DocumentLists.{within-lighter}
use Rattle.agg_engine_tree.proofs.lemmas.held_bytes.LabelSums.{docs-all, weight-covered}
use Rattle.agg_engine_tree.proofs.lemmas.held_bytes.NumberSums.{among-below, up_to}

-- whether an owner is of a parent
abbrev pub is_under : ℕ → Owner KeyTuple → Bool
is_under p o = p == o.0

-- ---- the visits of one document

own-visits : (p doc : ℕ) (ts : List KeyTuple)
    → docs_of (is_under p) (visits_at p doc ts) ≡ docs_in (visits_at p doc ts)
own-visits p doc [] = refl
own-visits p doc (t ∷ ts) =
    ap (λ b. (if b then doc ∷ [] else []) ++ docs_of (is_under p) (visits_at p doc ts))
    (is_id-same p)
    ∙ ap (λ ds. doc ∷ ds) (own-visits p doc ts)

other-visits : (p q doc : ℕ) (ts : List KeyTuple) → ¬ (q ≡ p)
    → docs_of (is_under p) (visits_at q doc ts) ≡ []
other-visits p q doc [] other = refl
other-visits p q doc (t ∷ ts) other =
    ap (λ b. (if b then doc ∷ [] else []) ++ docs_of (is_under p) (visits_at q doc ts))
    (is_id-other q p other)
    ∙ other-visits p q doc ts other

docs-under : (p : ℕ) (docs : List ℕ) → docs_in (under p docs) ≡ docs
docs-under p [] = refl
docs-under p (d ∷ docs) = ap (λ ds. d ∷ ds) (docs-under p docs)

-- ---- the visits of all documents

module _ (req : CompositeAggReqData) (segment : Stored) (after : Named AfterKey) where
  abbrev visits_one : ℕ × ℕ → List TypedVisit
  visits_one e = visits_past req.req.now.sources segment after e.0 (e.1 ∷ [])

  -- the tuples of one document
  abbrev tuples_one : ℕ → List KeyTuple
  tuples_one doc =
      past_occurrences req.req.now.sources (bound_of req.req.now.sources after)
      (documents_at segment (doc ∷ []))

  module _ (p : ℕ) where
    abbrev own : List (ℕ × ℕ) → List ℕ
    own taken = docs_of (is_id p) taken

    one-under : (e : ℕ × ℕ) → docs_of (is_under p) (visits_one e)
        ≡ docs_in (visits_of req segment after (under p (own (e ∷ []))))
    one-under e =
        let plain = ap (docs_of (is_under p)) (append-nil (visits_at e.0 e.1 (tuples_one e.1))) in
        elim (cases_eq e.0 p) [
          | inl same ↦
              plain
              ∙ ap (λ q. docs_of (is_under p) (visits_at q e.1 (tuples_one e.1))) same
              ∙ own-visits p e.1 (tuples_one e.1)
              ∙ ap docs_in (sym (append-nil (visits_at p e.1 (tuples_one e.1))))
              ∙ ap docs_in (sym (append-nil (visits_one (p, e.1))))
              ∙ ap (λ b. docs_in (visits_of req segment after
              (under p ((if b then e.1 ∷ [] else []) ++ []))))
              (sym (ap (is_id p) same ∙ is_id-same p))
          | inr other ↦
              plain
              ∙ other-visits p e.0 e.1 (tuples_one e.1) other
              ∙ ap (λ b. docs_in (visits_of req segment after
              (under p ((if b then e.1 ∷ [] else []) ++ []))))
              (sym (is_id-other p e.0 (λ is. other (sym is))))
        ]

    -- the documents of the visits under a parent are those of the visits of its documents alone
    under-parent : (taken : List (ℕ × ℕ)) → docs_of (is_under p) (visits_of req segment after taken)
        ≡ docs_in (visits_of req segment after (under p (own taken)))
    under-parent [] = refl
    under-parent (e ∷ taken) =
        docs_of-append (is_under p) (visits_one e) (visits_of req segment after taken)
        ∙ (λ i. one-under e i ++ under-parent taken i)
        ∙ sym (visits-split (own (e ∷ [])) (own taken))
        ∙ ap (λ ds. docs_in (visits_of req segment after (under p ds))) (own-first e taken)
      where
        visits-split : (xs ys : List ℕ)
            → docs_in (visits_of req segment after (under p (xs ++ ys)))
            ≡ docs_in (visits_of req segment after (under p xs))
            ++ docs_in (visits_of req segment after (under p ys))
        visits-split xs ys =
            ap (λ ps. docs_in (visits_of req segment after ps)) (map-append _ xs ys)
            ∙ ap docs_in (flat_map-append visits_one (under p xs) (under p ys))
            ∙ docs_in-append (visits_of req segment after (under p xs))
            (visits_of req segment after (under p ys))

        own-first : (e : ℕ × ℕ) (taken : List (ℕ × ℕ)) → own (e ∷ []) ++ own taken ≡ own (e ∷ taken)
        own-first e taken = ap (λ ds. ds ++ own taken) (append-nil _)

    -- the documents of the visits under a parent are no more than the uncut list of its documents
    pub visits-inside : (taken : List (ℕ × ℕ))
        → Within (documents_at segment (docs_of (is_under p) (visits_of req segment after taken)))
        (once_each (occurrences req.req.now.sources) (documents_at segment (own taken)))
    visits-inside taken =
        within-lighter _ _
        (subst (λ docs. Lighter (documents_at segment docs)
        (once_each (occurrences req.req.now.sources) (documents_at segment (own taken))))
        (sym (under-parent taken))
        (subst (λ docs. Lighter
        (documents_at segment (docs_in (visits_of req segment after (under p (own taken)))))
        (once_each (occurrences req.req.now.sources) (documents_at segment docs)))
        (docs-under p (own taken)) (visits-counted req segment after (under p (own taken)))))

  -- ---- all parents

  module _ (n : ℕ) where
    -- a visit is under a parent below the number
    abbrev IsLow : TypedVisit → Type 0
    IsLow v = v.0.0 < n

    visits-low : (taken : List (ℕ × ℕ)) → AllByRecursion (λ e. e.0 < n) taken
        → AllByRecursion IsLow (visits_of req segment after taken)
    visits-low taken low =
        AllByRecursion-flat_map IsLow visits_one taken
        (AllByRecursion-weaker (λ e. e.0 < n) (λ e. AllByRecursion IsLow (visits_one e))
        (λ e below.
        subst (AllByRecursion IsLow) (sym (append-nil (visits_at e.0 e.1 (tuples_one e.1))))
        (AllByRecursion-map IsLow _ (tuples_one e.1)
        (AllByRecursion-always (λ t. e.0 < n) (λ t. below) (tuples_one e.1)))) taken low)

    -- the owner of a visit is of some parent below the number
    abbrev IsUnder : TypedVisit → Type 0
    IsUnder v = true ≡ true → list_any (λ p. is_under p v.0) (up_to n) ≡ true

    -- where the parents are below a number, the visits are those under each of them
    pub visits-covered : (f : ℕ → ℕ) (taken : List (ℕ × ℕ)) → AllByRecursion (λ e. e.0 < n) taken
        → weight f (docs_in (visits_of req segment after taken))
        ≤ sum_by (λ p. weight f (docs_of (is_under p) (visits_of req segment after taken)))
        (up_to n)
    visits-covered f taken low = omega (
      arith,
      ap (weight f) (docs-all (visits_of req segment after taken)),
      weight-covered f is_under (up_to n) (λ o. true) (visits_of req segment after taken)
          (AllByRecursion-weaker IsLow IsUnder (λ v below own. among-below v.0.0 n below)
          (visits_of req segment after taken) (visits-low taken low)),
    )
