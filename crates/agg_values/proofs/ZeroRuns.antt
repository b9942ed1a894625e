-- The longest run of zero groups, and the first of that length.
use Rattle.std.proofs.Common.{◌≡◌, ℕ, zero, suc, ◌+◌, ◌<◌, Bool, true, false, cond, eqb, ltb, not}
use Rattle.std.proofs.Common.{List, [], ◌∷◌, length, map, fold, max, refl, sym, ap, ◌∙◌}
use Rattle.std.proofs.Common.{arith, inl, inr, le-leb, lt-ltb, Some, None, unwrap_or, ne_eqb}
use Rattle.std.proofs.Common.{eq-eqb}
use Rattle.std.specs.List.{range_with_len, prefix_len, position_or_len}
use Rattle.std.proofs.lemmas.Bool.{cases_lt, cases_eq, lt-leb}
use Rattle.std.proofs.NetLemmas.Texts.{IsZeroRun-longest_zero_run, longest_zero_run_first}
use Rattle.std.specs.Net.Text.{zero_run, longest_zero_run}
use Rattle.agg_values.specs.Address.{zeros_from, longest_run, first_run}

suc_plus : (a : ℕ) → suc a + 1 ≡ suc (a + 1)
suc_plus a = omega arith

-- the numbers from a + 1 on, by those from a on
map-range : {A : Type 0} (f : ℕ → A) (a n : ℕ)
    → map f (range_with_len (suc a) n) ≡ map (λ k. f (suc k)) (range_with_len a n)
map-range f a zero = refl
map-range f a (suc n) = λ i. f (suc a) ∷ (ap (λ b. map f (range_with_len b n)) (suc_plus a)
    ∙ map-range f (a + 1) n) i

prefix-range : (p : ℕ → Bool) (a n : ℕ) → prefix_len p (range_with_len (suc a) n) ≡ prefix_len (λ k.
    p (suc k)) (range_with_len a n)
prefix-range p a zero = refl
prefix-range p a (suc n) = λ i. cond (p (suc a)) (1 + (ap (λ b. prefix_len p (range_with_len b n))
    (suc_plus a) ∙ prefix-range p (a + 1) n) i) 0

fold_max : (m : ℕ) (xs : List ℕ) → fold max m xs ≡ max m (fold max 0 xs)
fold_max m [] = omega arith
fold_max m (x ∷ xs) = let e = fold_max (max m x) xs in let f = fold_max (max 0 x) xs in
    omega (arith, e, f)

most_zeros : List ℕ → ℕ
most_zeros xs = fold max 0 (map (zeros_from xs) (range_with_len 0 (length xs)))

most_zeros-cons : (x : ℕ) (xs : List ℕ)
    → most_zeros (x ∷ xs) ≡ max (zero_run (x ∷ xs)) (most_zeros xs)
unfolding most_zeros
most_zeros-cons x xs =
    fold_max (max 0 (zeros_from (x ∷ xs) 0)) (map (zeros_from (x ∷ xs))
    (range_with_len 1 (length xs)))
    ∙ (λ i. max (max 0 (zero_run (x ∷ xs)))
    (fold max 0 (map-range (zeros_from (x ∷ xs)) 0 (length xs) i)))
    ∙ omega arith

longest : (xs : List ℕ) → most_zeros xs ≡ (longest_zero_run xs).1
unfolding most_zeros
longest [] = refl
longest (x ∷ xs) =
    let later = longest xs in
    let here = most_zeros-cons x xs in
    elim (cases_lt (zero_run (x ∷ xs)) (longest_zero_run xs).1) [
      | inl shorter ↦ rw (lt-leb _ _ shorter) (omega (arith, later, here))
      | inr longer ↦ rw (le-leb _ _ longer) (omega (arith, later, here))
    ]

first_with : List ℕ → ℕ → ℕ
first_with xs len = position_or_len (λ at. eqb (zeros_from xs at) len)
    (range_with_len 0 (length xs))

first_with-cons : (x : ℕ) (xs : List ℕ) (len : ℕ)
    → first_with (x ∷ xs) len ≡ cond (eqb (zero_run (x ∷ xs)) len) 0 (1 + first_with xs len)
unfolding first_with
first_with-cons x xs len =
    (λ i. cond (not (eqb (zero_run (x ∷ xs)) len)) (1 + prefix-range (λ at.
    not (eqb (zeros_from (x ∷ xs) at) len)) 0 (length xs) i) 0)
    ∙ by_not (eqb (zero_run (x ∷ xs)) len)
  where
    by_not : (b : Bool)
        → cond (not b) (1 + position_or_len (λ at. eqb (zeros_from xs at) len)
        (range_with_len 0 (length xs))) 0 ≡ cond b 0 (1 + position_or_len (λ at.
        eqb (zeros_from xs at) len) (range_with_len 0 (length xs)))
    by_not true = refl
    by_not false = refl

first_none : first_with [] 0 ≡ 0
unfolding first_with
first_none = refl

first : (xs : List ℕ) → first_with xs (longest_zero_run xs).1 ≡ (longest_zero_run xs).0
first [] = first_none
first (x ∷ xs) =
    let later = first xs in
    let here = first_with-cons x xs in
    elim (cases_lt (zero_run (x ∷ xs)) (longest_zero_run xs).1) [
      | inl shorter ↦ rw (lt-leb _ _ shorter) (here _
          ∙ ap (λ b. cond b 0 (1 + first_with xs (longest_zero_run xs).1)) (ne_eqb _ _ (λ e.
          omega arith)) ∙ omega (arith, later))
      | inr longer ↦ rw (le-leb _ _ longer) (here _
          ∙ ap (λ b. cond b 0 (1 + first_with xs (zero_run (x ∷ xs)))) (eq-eqb _ _ refl))
    ]

-- the words of the definition are those of std
pub longest_run-same : (xs : List ℕ) → length xs ≡ 8 → longest_run xs ≡ (longest_zero_run xs).1
unfolding most_zeros
longest_run-same xs eight = ap (λ n. fold max 0 (map (zeros_from xs) (range_with_len 0 n)))
    (sym eight) ∙ longest xs

starts_within : (xs : List ℕ) → 0 < length xs → (longest_zero_run xs).0 < length xs
starts_within xs some =
    let within = (IsZeroRun-longest_zero_run xs).0 in
    let empty = (longest_zero_run_first xs 0 0 (omega arith, refl)).1 in
    elim (cases_eq (longest_zero_run xs).1 0) [
      | inl none ↦ omega (arith, empty (sym none))
      | inr long ↦ omega arith
    ]

first_of : (n at : ℕ) → at < n → unwrap_or (cond (ltb at n) (Some at) None) 0 ≡ at
first_of n at below = rw (lt-ltb at n below)

pub first_run-same : (xs : List ℕ) → length xs ≡ 8 → first_run xs ≡ (longest_zero_run xs).0
unfolding first_with
first_run-same xs eight =
    let at : first_with xs (longest_run xs) ≡ (longest_zero_run xs).0 =
    ap (first_with xs) (longest_run-same xs eight) ∙ first xs in
    let eights : position_or_len (λ k. eqb (zeros_from xs k) (longest_run xs)) (range_with_len 0 8)
    ≡ (longest_zero_run xs).0 =
    ap (λ n. position_or_len (λ k. eqb (zeros_from xs k) (longest_run xs)) (range_with_len 0 n))
    (sym eight) ∙ at in
    ap (λ k. unwrap_or (cond (ltb k 8) (Some k) None) 0) eights
    ∙ first_of 8 _ (omega (arith, starts_within xs (omega arith)))
