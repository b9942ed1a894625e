-- Numbers of which none is there twice.
use Rattle.std.proofs.Common.{◌≡◌, ◌==◌, ℕ, ◌≤◌, List, [], ◌∷◌, ◌++◌, length, Bool, true}
use Rattle.std.proofs.Common.{false, cond, get_or, refl, sym, ap, ◌∙◌, subst, arith}
use Rattle.std.proofs.lemmas.Bool.{eq-eqb, ne_eqb}
use Rattle.std.proofs.lemmas.List.{get_or_append_left, get_or_push, length_push}
use Rattle.std.proofs.lemmas.List.Sorted.{IsPermutation-sym, length_permutation}
use Rattle.std.proofs.lemmas.Map.Keys.{IsDistinct-IsPermutation, IsDistinct-from_apart}
use Rattle.std.proofs.lemmas.Map.Keys.{IsStrictlyIncreasing-dedup, apart_from_distinct}
use Rattle.std.proofs.lemmas.Map.Keys.{below_from_sorted, sorted_from_strictly_increasing}
use Rattle.std.specs.List.{AllByRecursion, Contains, IsDistinct, dedup, dedup_from}
use Rattle.std.specs.List.Sorted.{IsPermutation, IsSorted, IsStrictlyIncreasing}
use Rattle.std.specs.Ordering.{nat_cmp}
use Rattle.agg_pages.specs.document_json.Tokens.{AreDistinct}

-- whether two numbers are the same
abbrev same : ℕ → ℕ → Bool
same a b = a == b

-- ---- what `dedup` leaves, where it takes nothing away

no_more_by : (b : Bool) (k x : ℕ) (xs : List ℕ)
    → length (dedup_from same k xs) ≤ length (k ∷ xs)
    → length (dedup_from same x xs) ≤ length (x ∷ xs)
    → length (cond b (dedup_from same k xs) (k ∷ dedup_from same x xs)) ≤ length (k ∷ x ∷ xs)
no_more_by true k x xs few few_too = omega (arith, few)
no_more_by false k x xs few few_too = omega (arith, few_too)

no_more : (k : ℕ) (xs : List ℕ) → length (dedup_from same k xs) ≤ length (k ∷ xs)
no_more k [] = omega arith
no_more k (x ∷ xs) = no_more_by (same x k) k x xs (no_more k xs) (no_more x xs)

kept_by : (b : Bool) (k x : ℕ) (xs : List ℕ)
    → (length (dedup_from same x xs) ≡ length (x ∷ xs) → dedup_from same x xs ≡ x ∷ xs)
    → length (cond b (dedup_from same k xs) (k ∷ dedup_from same x xs)) ≡ length (k ∷ x ∷ xs)
    → cond b (dedup_from same k xs) (k ∷ dedup_from same x xs) ≡ k ∷ x ∷ xs
kept_by true k x xs later all = absurd (omega (arith, all, no_more k xs))
kept_by false k x xs later all = ap (λ l. k ∷ l) (later (omega (arith, all)))

kept_from : (k : ℕ) (xs : List ℕ) → length (dedup_from same k xs) ≡ length (k ∷ xs)
    → dedup_from same k xs ≡ k ∷ xs
kept_from k [] all = refl
kept_from k (x ∷ xs) all = kept_by (same x k) k x xs (kept_from x xs) all

all_kept : (xs : List ℕ) → length (dedup same xs) ≡ length xs → dedup same xs ≡ xs
all_kept [] all = refl
all_kept (x ∷ xs) all = kept_from x xs all

pub rising_apart : (xs : List ℕ) → IsStrictlyIncreasing xs → AreDistinct xs
rising_apart xs rising = IsDistinct-from_apart same xs (λ i j d before within.
    let sorted = sorted_from_strictly_increasing xs rising in
    let below = below_from_sorted xs i j d sorted before within in
    ne_eqb (get_or xs i d) (get_or xs j d) (λ e. absurd (omega (arith, below, e))))

flips_by : (a b : ℕ) (t : Bool) → same a b ≡ t → same a b ≡ same b a
flips_by a b true is = is ∙ sym (eq-eqb b a (sym (alike a b is)))
  where
    alike : (a b : ℕ) → same a b ≡ true → a ≡ b
    alike a b is = grind arith
flips_by a b false is = is ∙ sym (ne_eqb b a (λ e. absurd (cc (is, eq-eqb a b (sym e)))))

-- numbers of which none goes where they are sorted and then rid of those that are there twice
pub distinct_numbers : (numbers sorted : List ℕ) → IsPermutation numbers sorted
    → IsSorted nat_cmp sorted → length (dedup same sorted) ≡ length numbers → AreDistinct numbers
distinct_numbers numbers sorted moved ordered all =
    let long = length_permutation numbers sorted moved in
    let kept = all_kept sorted (all ∙ sym long) in
    IsDistinct-IsPermutation same (λ a b. flips_by a b (same a b) refl) sorted numbers
    (IsPermutation-sym numbers sorted moved)
    (rising_apart sorted
    (subst IsStrictlyIncreasing kept (IsStrictlyIncreasing-dedup sorted ordered)))

-- ---- one number more

all_front : (P : ℕ → Type 0) (xs ys : List ℕ) → AllByRecursion P (xs ++ ys) → AllByRecursion P xs
all_front P [] ys all = tt
all_front P (x ∷ xs) ys all = (all.0, all_front P xs ys all.1)

pub distinct_front : (xs ys : List ℕ) → AreDistinct (xs ++ ys) → AreDistinct xs
unfolding IsDistinct
distinct_front [] ys apart = tt
distinct_front (x ∷ xs) ys apart =
    (all_front (λ y. same x y ≡ false) xs ys apart.0, distinct_front xs ys apart.1)

pub last_is_new : (xs : List ℕ) (y : ℕ) → AreDistinct (xs ++ y ∷ []) → Contains xs y → ⊥
last_is_new xs y apart (k, within, there) =
    let long = length_push xs y in
    let other : same (get_or (xs ++ y ∷ []) k y) (get_or (xs ++ y ∷ []) (length xs) y) ≡ false =
    apart_from_distinct same (xs ++ y ∷ []) k (length xs) y apart within (omega (arith, long)) in
    let here : get_or (xs ++ y ∷ []) k y ≡ y = get_or_append_left xs (y ∷ []) y k within ∙ there in
    let last : get_or (xs ++ y ∷ []) (length xs) y ≡ y = get_or_push xs y y (length xs) refl in
    let equal : same y y ≡ true = eq-eqb y y refl in
    let apart_too : same y y ≡ false = rw (here, last) at other in
    cc (equal, apart_too)
