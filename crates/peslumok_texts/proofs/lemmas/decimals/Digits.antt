-- The numbers that digits write.
use Rattle.std.proofs.Common.{◌≡◌, ◌≤◌, ◌<◌, ◌+◌, ◌-◌, ◌*◌, ◌^◌, ◌++◌, ℕ, List, [], ◌∷◌, zero, suc}
use Rattle.std.proofs.Common.{refl, arith, drop, length, get_or, ◌∙◌, subst, ap}
use Rattle.std.proofs.Common.{◌/◌, ◌%◌}
use Rattle.std.proofs.lemmas.List.{append_assoc}
use native.Mathlib.Numerals.{unary_clauses}
use Rattle.peslumok_texts.specs.decimals.Decimal.{number_after, last_digits}

-- more digits make no smaller number
pub after_ge : (n : ℕ) (ds : List ℕ) → n ≤ number_after n ds
after_ge n [] = omega arith
after_ge n (c ∷ cs) = let more = after_ge (n * 10 + (c - 48)) cs in omega (arith, more)

pub after_append : (n : ℕ) (xs ys : List ℕ)
    → number_after n (xs ++ ys) ≡ number_after (number_after n xs) ys
after_append n [] ys = refl
after_append n (c ∷ cs) ys = after_append (n * 10 + (c - 48)) cs ys

-- digits that do not fit are not made to fit by those after them
pub stuck : (n m i : ℕ) (ds : List ℕ) → i < length ds → ¬ (n * 10 + (get_or ds i 0 - 48) < m)
    → ¬ (number_after n (drop i ds) < m)
stuck n m i [] h unfit = absurd (omega (arith, h))
stuck n m zero (c ∷ cs) h unfit =
    let more = after_ge (n * 10 + (c - 48)) cs in
    λ less. unfit (omega (arith, more, less))
stuck n m (suc i) (c ∷ cs) h unfit = stuck n m i cs (omega (arith, h)) unfit

pub at_end : (n : ℕ) (ds : List ℕ) → number_after n (drop (length ds) ds) ≡ n
at_end n [] = refl
at_end n (c ∷ cs) = at_end n cs

ten_more : (n p : ℕ) → n * (p * 10) ≡ 10 * (n * p)
ten_more n p = grind arith

pub pow_more : (k : ℕ) → 10 ^ suc k ≡ 10 ^ k * 10
pow_more k = simp unary_clauses refl

pub times_ge : (n k : ℕ) → n ≤ n * 10 ^ k
times_ge n zero = omega arith
times_ge n (suc k) =
    let less = times_ge n k in
    let same = ap (λ p. n * p) (pow_more k) ∙ ten_more n (10 ^ k) in
    omega (arith, less, same)

-- a number that does not fit
pub too_large : (m k : ℕ) (xs ys : List ℕ) → ¬ (number_after 0 xs < m)
    → ¬ (number_after 0 (xs ++ ys) * 10 ^ k < m)
too_large m k xs ys unfit =
    let same = after_append 0 xs ys in
    let more = after_ge (number_after 0 xs) ys in
    let scaled = times_ge (number_after 0 (xs ++ ys)) k in
    λ less. unfit (omega (arith, same, more, scaled, less))

pub too_large_after : (m k : ℕ) (xs ys : List ℕ) → ¬ (number_after (number_after 0 xs) ys < m)
    → ¬ (number_after 0 (xs ++ ys) * 10 ^ k < m)
too_large_after m k xs ys unfit =
    let same = after_append 0 xs ys in
    let scaled = times_ge (number_after 0 (xs ++ ys)) k in
    λ less. unfit (omega (arith, same, scaled, less))

-- one more of the last digits
pub digits_more : (front : List ℕ) (k n : ℕ)
    → (front ++ (48 + n / 10 ^ k % 10) ∷ []) ++ last_digits k n ≡ front ++ last_digits (suc k) n
digits_more front k n = append_assoc front ((48 + n / 10 ^ k % 10) ∷ []) (last_digits k n)

pub unit_positive : (k : ℕ) → 0 < 10 ^ k
unit_positive k = let more = times_ge 1 k in omega (arith, more)

-- one turn of writing the last digits
pub digit_written : (front total after : List ℕ) (count written n d : ℕ) → written < count
    → d ≡ n / 10 ^ (count - 1 - written) % 10 → after ≡ front ++ (48 + d) ∷ []
    → front ++ last_digits (count - written) n ≡ total
    → after ++ last_digits (count - (written + 1)) n ≡ total
digit_written front total after count written n d less digit is so =
    let one : count - written ≡ suc (count - 1 - written) = omega arith in
    let two : count - (written + 1) ≡ count - 1 - written = omega arith in
    let whole = subst (λ x. front ++ last_digits x n ≡ total) one so in
    rw (two, is, digit) (digits_more front (count - 1 - written) n ∙ whole)
