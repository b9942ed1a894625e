-- Too many visits are 2^32 or more, of those so far and these.
use Rattle.std.proofs.Common.{◌≡◌, ◌+◌, ◌≤◌, ◌<◌, ◌⊎◌, ◌^◌, ⊎_elim, ℕ, Bool, true, false, List, []}
use Rattle.std.proofs.Common.{◌∷◌, ◌++◌, length, refl, subst, Some, arith, Ordering}
use Rattle.std.specs.Prelude.{if◌then◌else◌}
use Rattle.std.proofs.lemmas.List.{length-map}
use Rattle.agg_cache.specs.Waiting.{docs_of}
use Rattle.agg_composite.specs.buckets.Node.{BucketsFor, IsPast, IsRightFor, Right, found}
use Rattle.agg_composite.specs.buckets.Page.{Page}
use Rattle.agg_composite.specs.buckets.Visits.{Owner, Visit, Within, docs_in, is_owner, weight}
use Rattle.agg_composite.specs.declared.buckets.bucket.Bucket.{Bucket}

-- lengths are weights
length-weight : (xs : List ℕ) → weight (λ d. 1) xs ≡ length xs
length-weight [] = refl
length-weight (x ∷ xs) = omega (arith, length-weight xs)

within-length : (xs ys : List ℕ) → Within xs ys → length xs ≤ length ys
within-length xs ys w = omega (arith, length-weight xs, length-weight ys, w.lighter (λ d. 1))

part-length : {A : Type 0} (t : A → Bool) (ps : List (A × ℕ)) → length (docs_of t ps) ≤ length ps
part-length t [] = omega arith
part-length t (p ∷ ps) = by_test (t p.0) (part-length t ps)
  where
    by_test : (b : Bool) → length (docs_of t ps) ≤ length ps
        → length ((if b then p.1 ∷ [] else []) ++ docs_of t ps) ≤ length (p ∷ ps)
    by_test true l = omega (arith, l)
    by_test false l = omega (arith, l)

-- where buckets are right for visits, too many visits more are 2^32 or more with those
pub many-visits : {S : Type 0} (R : S → S → Ordering) (size : ℕ) (parents : List (Page S))
    (next n : ℕ) (vs : List (Visit S)) (ws : List (ℕ × ℕ)) → BucketsFor R size parents next vs ws
    → (4294967295 < next + n)
    ⊎ ((o : Owner S) × (b : Bucket) × (found R parents o ≡ Some b) × (2 ^ 64 ≤ b.count + n))
    → 2 ^ 32 ≤ length vs + n
many-visits R size parents next n vs ws f many =
    let part = within-length (docs_in ws) (docs_in vs) f.part in
    let handed = length-map ws (λ e. e.1) in
    let visits = length-map vs (λ e. e.1) in
    ⊎_elim
    (λ e. omega (arith, e, f.few, part, handed, visits))
    (λ e.
    let own : Right (is_owner R e.0) vs ws next e.1 =
    subst (IsRightFor (is_owner R e.0) vs ws next (IsPast R size parents e.0)) e.2 (f.right e.0) in
    let few = part-length (is_owner R e.0) vs in
    let counted = own.counted in
    omega (arith, e.3, few, counted))
    many
