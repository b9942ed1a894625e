-- The documents of labels.
use Rattle.std.proofs.Common.{◌≡◌, ◌≢◌, ◌+◌, ℕ, List, [], ◌∷◌, ◌++◌, Bool, true, false}
use Rattle.std.proofs.Common.{if◌then◌else◌, ap, ◌∙◌, arith, append-nil}
use Rattle.std.proofs.lemmas.List.{map-append}
use Rattle.std.proofs.lemmas.List.Concat.{flat_map-append}
use Rattle.std.proofs.lemmas.Bool.Decides.{nat_tests}
use Rattle.agg_cache.specs.Waiting.{docs_of, is_id}
use Rattle.agg_composite.specs.buckets.Visits.{Within, docs_in, weight}

pub docs_of-append : {A : Type 0} (t : A → Bool) (xs ys : List (A × ℕ))
    → docs_of t (xs ++ ys) ≡ docs_of t xs ++ docs_of t ys
docs_of-append t xs ys = flat_map-append _ xs ys

pub docs_of-same : {A : Type 0} (t : A → Bool) (xs : List (A × ℕ)) (o : A) (d : ℕ) → t o ≡ true
    → docs_of t (xs ++ (o, d) ∷ []) ≡ docs_of t xs ++ d ∷ []
docs_of-same t xs o d is =
    docs_of-append t xs ((o, d) ∷ [])
    ∙ ap (λ b. docs_of t xs ++ ((if b then d ∷ [] else []) ++ [])) is

pub docs_of-other : {A : Type 0} (t : A → Bool) (xs : List (A × ℕ)) (o : A) (d : ℕ) → t o ≡ false
    → docs_of t (xs ++ (o, d) ∷ []) ≡ docs_of t xs
docs_of-other t xs o d is =
    docs_of-append t xs ((o, d) ∷ [])
    ∙ ap (λ b. docs_of t xs ++ ((if b then d ∷ [] else []) ++ [])) is
    ∙ append-nil (docs_of t xs)

pub is_id-same : (i : ℕ) → is_id i i ≡ true
is_id-same i = grind (arith, nat_tests)

pub is_id-other : (i j : ℕ) → i ≢ j → is_id i j ≡ false
is_id-other i j ne = grind (arith, nat_tests)

-- ---- weights

pub weight-append : (f : ℕ → ℕ) (xs ys : List ℕ) → weight f (xs ++ ys) ≡ weight f xs + weight f ys
weight-append f [] ys = omega arith
weight-append f (x ∷ xs) ys = omega (arith, weight-append f xs ys)

pub within-append : (xs ys us ws : List ℕ) → Within xs us → Within ys ws
    → Within (xs ++ ys) (us ++ ws)
within-append xs ys us ws a b = record {
  lighter = λ f.
      omega (arith, a.lighter f, b.lighter f, weight-append f xs ys, weight-append f us ws);
}

pub within-same : (xs : List ℕ) → Within xs xs
within-same xs = record { lighter = λ f. omega arith }

pub docs_in-append : {A : Type 0} (xs ys : List (A × ℕ))
    → docs_in (xs ++ ys) ≡ docs_in xs ++ docs_in ys
docs_in-append xs ys = map-append (λ e. e.1) xs ys

-- a document more in both
pub within-push : {A B : Type 0} (xs : List (A × ℕ)) (ys : List (B × ℕ)) (a : A) (b : B) (doc : ℕ)
    → Within (docs_in xs) (docs_in ys)
    → Within (docs_in (xs ++ (a, doc) ∷ [])) (docs_in (ys ++ (b, doc) ∷ []))
within-push xs ys a b doc w =
    rw (docs_in-append xs ((a, doc) ∷ []), docs_in-append ys ((b, doc) ∷ []))
    (within-append (docs_in xs) (doc ∷ []) (docs_in ys) (doc ∷ []) w (within-same (doc ∷ [])))

-- a document more in the second alone
pub within-more : {A B : Type 0} (xs : List (A × ℕ)) (ys : List (B × ℕ)) (b : B) (doc : ℕ)
    → Within (docs_in xs) (docs_in ys) → Within (docs_in xs) (docs_in (ys ++ (b, doc) ∷ []))
within-more xs ys b doc w =
    rw (docs_in-append ys ((b, doc) ∷ []))
    (record {
      lighter = λ f. omega (arith, w.lighter f, weight-append f (docs_in ys) (doc ∷ []));
    })
