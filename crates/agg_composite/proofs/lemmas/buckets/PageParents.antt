-- From one parent's page to the pages of all.
use Rattle.std.proofs.Common.{◌≡◌, ◌≢◌, ◌==◌, ◌&&◌, ◌<◌, ◌≤◌, ◌⊎◌, ℕ, List, [], false, length}
use Rattle.std.proofs.Common.{get_or, set, length-set, refl, sym, ap, ◌∙◌, subst, inl, inr, ⊎_elim}
use Rattle.std.proofs.Common.{Ordering, None, arith}
use Rattle.std.specs.BTreeMap.{is_at}
use Rattle.std.specs.List.Sorted.{IsStrictlySortedBy}
use Rattle.std.specs.Map.{keys_of, lookup}
use Rattle.std.proofs.lemmas.Bool.{cases_Bool}
use Rattle.std.proofs.lemmas.List.{get_or-set_same, get_or-set_other}
use Rattle.agg_composite.specs.buckets.Node.{IsPast}
use Rattle.agg_composite.specs.buckets.Page.{IsAbove, Page, Puts}
use Rattle.agg_composite.specs.buckets.Visits.{Owner, is_owner}
use Rattle.agg_composite.specs.declared.buckets.bucket.Bucket.{Bucket}
use Rattle.agg_composite.proofs.lemmas.buckets.NodeSteps.{PutsAt}
use Rattle.agg_composite.proofs.lemmas.buckets.Owners.{number-is, number-same}

module _ {S : Type 0} (R : S → S → Ordering) (size : ℕ) (ps : List (Page S)) (p : ℕ) (t : S)
    (b : Bucket) (page : Page S) (l : p < length ps)
    (put : Puts R size t b (get_or ps p []) page) where
  at-parent : (q : ℕ) → p ≡ q → get_or (set ps p page) q [] ≡ page
  at-parent q at =
      ap (λ i. get_or (set ps p page) i []) (sym at) ∙ get_or-set_same ps p page [] l

  elsewhere : (q : ℕ) → (p == q) ≡ false → get_or (set ps p page) q [] ≡ get_or ps q []
  elsewhere q apart =
      let ne : q ≢ p = λ same. cc (sym apart ∙ number-is p q (sym same)) in
      get_or-set_other ps p q page [] ne

  -- what holds of each page, where it holds of the new one
  each : (P : Page S → Type 0) → ((q : ℕ) → P (get_or ps q [])) → P page
      → (q : ℕ) → P (get_or (set ps p page) q [])
  each P before now q = elim (cases_Bool (p == q)) [
    | inl same ↦ subst P (sym (at-parent q (number-same p q same))) now
    | inr apart ↦ subst P (sym (elsewhere q apart)) (before q)
  ]

  others-at : (q : Owner S) → is_owner R (p, t) q ≡ false
      → (lookup (is_at (R q.1)) (get_or (set ps p page) q.0 [])
      ≡ lookup (is_at (R q.1)) (get_or ps q.0 []))
      ⊎ ((lookup (is_at (R q.1)) (get_or (set ps p page) q.0 []) ≡ None)
      × IsPast R size (set ps p page) q)
  others-at q e = elim (cases_Bool (p == q.0)) [
    | inl same ↦
        let at = number-same p q.0 same in
        let here = at-parent q.0 at in
        let other : is_at (R t) q.1 ≡ false = (λ j. sym same j && is_at (R t) q.1) ∙ e in
        ⊎_elim
        (λ kept. inl (ap (lookup (is_at (R q.1))) here ∙ kept
        ∙ ap (λ i. lookup (is_at (R q.1)) (get_or ps i [])) at))
        (λ gone. inr (
          ap (lookup (is_at (R q.1))) here ∙ gone.0,
          subst (λ xs. IsAbove R size xs q.1) (sym here) gone.1,
        ))
        (put.others q.1 other)
    | inr apart ↦ inl (ap (lookup (is_at (R q.1))) (elsewhere q.0 apart))
  ]

  fuller-at : (q : Owner S) → IsPast R size ps q → IsPast R size (set ps p page) q
  fuller-at q past = elim (cases_Bool (p == q.0)) [
    | inl same ↦
        let at = number-same p q.0 same in
        subst (λ xs. IsAbove R size xs q.1) (sym (at-parent q.0 at))
        (put.fuller q.1 (subst (λ i. IsAbove R size (get_or ps i []) q.1) (sym at) past))
    | inr apart ↦ subst (λ xs. IsAbove R size xs q.1) (sym (elsewhere q.0 apart)) past
  ]

  no_fewer-at : (q : ℕ) → length (get_or ps q []) ≤ length (get_or (set ps p page) q [])
  no_fewer-at q = elim (cases_Bool (p == q)) [
    | inl same ↦
        let at = number-same p q same in
        subst (λ i. length (get_or ps i []) ≤ length (get_or (set ps p page) i [])) at
        (subst (λ xs. length (get_or ps p []) ≤ length xs) (sym (at-parent p refl)) put.no_fewer)
    | inr apart ↦ let e = ap length (elsewhere q apart) in omega (arith, e)
  ]

  -- a page put in place of a parent's
  pub puts-at : PutsAt R size (p, t) b ps (set ps p page)
  puts-at = record {
    here = ap (lookup (is_at (R t))) (at-parent p refl) ∙ put.here;
    others = others-at;
    ascending = λ before.
        each (λ xs. IsStrictlySortedBy R (keys_of xs)) before put.ascending;
    fits = λ before. each (λ xs. length xs ≤ size) before (put.fits (before p));
    no_fewer = no_fewer-at;
    fuller = fuller-at;
    long = length-set ps p page;
  }
