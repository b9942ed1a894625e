-- One bucket, with one more visit of its owner or of another one.
use Rattle.std.proofs.Common.{◌≡◌, ◌≢◌, ◌≤◌, ◌+◌, ◌⊎◌, inl, inr, ℕ, List, [], ◌∷◌, ◌++◌}
use Rattle.std.proofs.Common.{Bool, true, false, length, sym, ap, ◌∙◌, arith, ⊎_elim}
use Rattle.std.proofs.lemmas.List.{length_push}
use Rattle.agg_cache.specs.Waiting.{docs_of, is_id}
use Rattle.agg_composite.specs.buckets.Node.{Right}
use Rattle.agg_composite.specs.buckets.Page.{more, opened}
use Rattle.agg_composite.specs.declared.buckets.bucket.Bucket.{Bucket}
use Rattle.agg_composite.proofs.lemmas.buckets.Labels.{docs_of-same, docs_of-other, is_id-same}
use Rattle.agg_composite.proofs.lemmas.buckets.Labels.{is_id-other}

module _ {A : Type 0} (own : A → Bool) (vs : List (A × ℕ)) (o : A) (doc : ℕ) where
  -- a visit of another owner, under another id
  pub other-right : (ws : List (ℕ × ℕ)) (n m : ℕ) (b : Bucket) (id : ℕ) → Right own vs ws n b
      → b.id ≢ id → own o ≡ false → n ≤ m
      → Right own (vs ++ (o, doc) ∷ []) (ws ++ (id, doc) ∷ []) m b
  other-right ws n m b id r ne other l =
      let same = docs_of-other own vs o doc other in
      record {
        exact = docs_of-other (is_id b.id) ws id doc (is_id-other b.id id ne) ∙ r.exact ∙ sym same;
        counted = r.counted ∙ sym (ap length same);
        some = r.some;
        low = omega (arith, r.low);
      }

  -- a visit of another owner that is left out
  pub past-right : (ws : List (ℕ × ℕ)) (n : ℕ) (b : Bucket) → Right own vs ws n b → own o ≡ false
      → Right own (vs ++ (o, doc) ∷ []) ws n b
  past-right ws n b r other =
      let same = docs_of-other own vs o doc other in
      record {
        exact = r.exact ∙ sym same;
        counted = r.counted ∙ sym (ap length same);
        some = r.some;
        low = r.low;
      }

  -- a visit of this owner
  pub more-right : (ws : List (ℕ × ℕ)) (n : ℕ) (b : Bucket) → Right own vs ws n b → own o ≡ true
      → Right own (vs ++ (o, doc) ∷ []) (ws ++ (b.id, doc) ∷ []) n (more b)
  more-right ws n b r is =
      let one = docs_of-same own vs o doc is in
      record {
        exact = docs_of-same (is_id b.id) ws b.id doc (is_id-same b.id)
            ∙ ap (λ ds. ds ++ doc ∷ []) r.exact ∙ sym one;
        counted = ap (λ n. n + 1) r.counted ∙ sym (length_push (docs_of own vs) doc)
            ∙ sym (ap length one);
        some = omega (arith, r.some);
        low = r.low;
      }

  -- the first visit of an owner
  pub new-right : (ws : List (ℕ × ℕ)) (n : ℕ) → docs_of (is_id n) ws ≡ [] → docs_of own vs ≡ []
      → own o ≡ true
      → Right own (vs ++ (o, doc) ∷ []) (ws ++ (n, doc) ∷ []) (n + 1) (opened n)
  new-right ws n w v is =
      let one = docs_of-same own vs o doc is ∙ ap (λ ds. ds ++ doc ∷ []) v in
      record {
        exact = docs_of-same (is_id n) ws n doc (is_id-same n) ∙ ap (λ ds. ds ++ doc ∷ []) w
            ∙ sym one;
        counted = sym (ap length one);
        some = omega arith;
        low = omega arith;
      }

  -- an owner without a visit, or one above a full page
  pub none-right : (above above_now : Type 0) → (above → above_now) → own o ≡ false
      → (docs_of own vs ≡ []) ⊎ above → (docs_of own (vs ++ (o, doc) ∷ []) ≡ []) ⊎ above_now
  none-right above above_now stays other r =
      ⊎_elim (λ e. inl (docs_of-other own vs o doc other ∙ e)) (λ a. inr (stays a)) r
