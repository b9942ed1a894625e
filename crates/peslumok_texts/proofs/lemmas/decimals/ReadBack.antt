-- What is written of a number is read back.
use Rattle.std.proofs.Common.{◌≡◌, ◌≤◌, ◌<◌, ◌+◌, ◌-◌, ◌*◌, ◌/◌, ◌%◌, ◌^◌, ◌++◌, ℕ, ℤ, pos, negsuc}
use Rattle.std.proofs.Common.{unsigned_abs, List, [], ◌∷◌, zero, suc, refl, arith, length, ◌∙◌, ap}
use Rattle.std.proofs.Common.{sym}
use Rattle.std.proofs.Common.{true, false, ◌==◌, nat_lt, Ok, Some, decimal, int_lt}
use Rattle.std.specs.List.{list_all, prefix_len}
use Rattle.std.specs.Char.{is_ascii_digit}
use Rattle.std.proofs.Math.Nat.{mod-lt, div-le_self}
use Rattle.std.proofs.Math.Seq.{take-append_seam, drop-append_seam}
use Rattle.std.proofs.lemmas.Nat.{div-add-mod', mod-mul-add, mul-add-lt}
use Rattle.std.proofs.lemmas.Bool.{and_parts}
use Rattle.std.proofs.lemmas.Bool.Decides.{nat_tests}
use Rattle.std.proofs.lemmas.Int.{ints}
use Rattle.std.proofs.lemmas.Fmt.{decimal_by_steps, decimal_nonempty}
use Rattle.std.proofs.lemmas.List.Folds.{list_all-append}
use Rattle.peslumok_texts.specs.decimals.Decimal.{number_after, last_digits, fraction}
use Rattle.peslumok_texts.specs.decimals.Decimal.{fraction_text, sign, sign_text, magnitude}
use Rattle.peslumok_texts.specs.decimals.Decimal.{in_places, counted, decimal_of, decimal_text}
use Rattle.peslumok_texts.proofs.lemmas.decimals.Digits.{after_append, unit_positive, pow_more}

pub digit_is : (n : ℕ) → is_ascii_digit (48 + n % 10) ≡ true
digit_is n = grind (arith, nat_tests)

-- the digits that are written are digits
pub all_digits-decimal : (n : ℕ) → n < 2 ^ 64 → list_all is_ascii_digit (decimal n) ≡ true
all_digits-decimal = decimal_by_steps (λ n ds. list_all is_ascii_digit ds ≡ true) one more
  where
    one : (n : ℕ) → n < 10 → list_all is_ascii_digit ((48 + n) ∷ []) ≡ true
    one n less =
        let digit : is_ascii_digit (48 + n) ≡ true = grind (arith, nat_tests) in
        rw digit refl

    more : (n : ℕ) (ds : List ℕ) → 10 ≤ n → list_all is_ascii_digit ds ≡ true
        → list_all is_ascii_digit (ds ++ ((48 + n % 10) ∷ [])) ≡ true
    more n ds large all =
        rw (list_all-append is_ascii_digit ds ((48 + n % 10) ∷ []), all, digit_is n) refl

pub all_digits-last : (k n : ℕ) → list_all is_ascii_digit (last_digits k n) ≡ true
all_digits-last zero n = refl
all_digits-last (suc k) n = rw (digit_is (n / 10 ^ k), all_digits-last k n) refl

pub length-last : (k n : ℕ) → length (last_digits k n) ≡ k
length-last zero n = refl
length-last (suc k) n = ap suc (length-last k n)

-- the number that is written
pub number-decimal : (n : ℕ) → n < 2 ^ 64 → number_after 0 (decimal n) ≡ n
number-decimal = decimal_by_steps (λ n ds. number_after 0 ds ≡ n) one more
  where
    one : (n : ℕ) → n < 10 → number_after 0 ((48 + n) ∷ []) ≡ n
    one n less = omega arith

    more : (n : ℕ) (ds : List ℕ) → 10 ≤ n → number_after 0 ds ≡ n / 10
        → number_after 0 (ds ++ ((48 + n % 10) ∷ [])) ≡ n
    more n ds large front = omega (arith, after_append 0 ds ((48 + n % 10) ∷ []), front)

regroup : (a d p r : ℕ) → (a * 10 + d) * p + r ≡ a * (p * 10) + (d * p + r)
regroup a d p r = grind arith

-- one digit more of a remainder
pub mod_more : (n p : ℕ) → 0 < p → n % (p * 10) ≡ n / p % 10 * p + n % p
mod_more n p positive =
    let digit : n / p % 10 < 10 = omega arith in
    let whole : n ≡ n / p / 10 * (p * 10) + (n / p % 10 * p + n % p) =
    sym (div-add-mod' n p) ∙ ap (λ (x : ℕ). x * p + n % p) (sym (div-add-mod' (n / p) 10))
    ∙ regroup (n / p / 10) (n / p % 10) p (n % p) in
    ap (λ (x : ℕ). x % (p * 10)) whole
    ∙ mod-mul-add (n / p / 10) (p * 10) (n / p % 10 * p + n % p)
    (mul-add-lt (n / p % 10) p (n % p) 10 digit (mod-lt n positive))

pub number-last : (a k n : ℕ) → number_after a (last_digits k n) ≡ a * 10 ^ k + n % 10 ^ k
number-last a zero n = omega arith
number-last a (suc k) n =
    let d = n / 10 ^ k % 10 in
    let digit : a * 10 + ((48 + d) - 48) ≡ a * 10 + d = omega arith in
    let first : number_after a (last_digits (suc k) n) ≡ (a * 10 + d) * 10 ^ k + n % 10 ^ k =
    ap (λ (x : ℕ). number_after x (last_digits k n)) digit ∙ number-last (a * 10 + d) k n in
    let last : a * (10 ^ k * 10) + (d * 10 ^ k + n % 10 ^ k) ≡ a * 10 ^ suc k + n % 10 ^ suc k =
    rw (pow_more k, mod_more n (10 ^ k) (unit_positive k)) refl in
    first ∙ regroup a d (10 ^ k) (n % 10 ^ k) ∙ last

-- the digits at the front
pub prefix-digits : (xs ys : List ℕ) → list_all is_ascii_digit xs ≡ true
    → prefix_len is_ascii_digit ys ≡ 0 → prefix_len is_ascii_digit (xs ++ ys) ≡ length xs
prefix-digits [] ys all none = none
prefix-digits (c ∷ xs) ys all none =
    let parts = and_parts (is_ascii_digit c) (list_all is_ascii_digit xs) all in
    rw (parts.0, prefix-digits xs ys parts.1 none) (omega arith)

pub prefix-fraction : (places n : ℕ) → prefix_len is_ascii_digit (fraction_text places n) ≡ 0
prefix-fraction zero n = refl
prefix-fraction (suc k) n =
    let some : (suc k == 0) ≡ false = grind (arith, nat_tests) in
    rw some refl

pub fraction-text : (places n : ℕ) → fraction (fraction_text places n) ≡ Some (last_digits places n)
fraction-text zero n = refl
fraction-text (suc k) n =
    let some : (suc k == 0) ≡ false = grind (arith, nat_tests) in
    let longer : nat_lt 0 (length (last_digits (suc k) n)) ≡ true = grind (arith, nat_tests) in
    rw (some, longer, digit_is (n / 10 ^ k), all_digits-last k n) refl

-- digits have no sign
pub sign-digits : (xs ys : List ℕ) → 0 < length xs → list_all is_ascii_digit xs ≡ true
    → sign (xs ++ ys) ≡ (false, xs ++ ys)
sign-digits [] ys some all = absurd (omega (arith, some))
sign-digits (c ∷ xs) ys some all =
    let digit = (and_parts (is_ascii_digit c) (list_all is_ascii_digit xs) all).0 in
    let plain : (c == 45) ≡ false = grind (arith, nat_tests, digit) in
    rw plain refl

pub in_places-text : (places n : ℕ) → n / 10 ^ places < 2 ^ 64
    → in_places places (decimal (n / 10 ^ places)) (last_digits places n) ≡ n
in_places-text places n small =
    let q = n / 10 ^ places in
    let none : places - length (last_digits places n) ≡ 0 =
    rw (length-last places n) (omega arith) in
    let number : number_after 0 (decimal q ++ last_digits places n) ≡ n =
    after_append 0 (decimal q) (last_digits places n)
    ∙ ap (λ (x : ℕ). number_after x (last_digits places n)) (number-decimal q small)
    ∙ number-last q places n ∙ div-add-mod' n (10 ^ places) in
    rw (none, number) (omega arith)

pub counted-text : (places n : ℕ) → n < 2 ^ 63 → n / 10 ^ places < 2 ^ 64
    → counted places (decimal (n / 10 ^ places)) (Some (last_digits places n)) ≡ Ok n
counted-text places n small less =
    let few : nat_lt places (length (last_digits places n)) ≡ false =
    rw (length-last places n) (grind (arith, nat_tests)) in
    let fits : nat_lt n (2 ^ 63) ≡ true = grind (arith, nat_tests) in
    rw (few, in_places-text places n less, fits) refl

pub magnitude-text : (places n : ℕ) → n < 2 ^ 63 → n / 10 ^ places < 2 ^ 64
    → magnitude places (decimal (n / 10 ^ places) ++ fraction_text places n) ≡ Ok n
unfolding magnitude
magnitude-text places n small less =
    let whole = decimal (n / 10 ^ places) in
    let rest = fraction_text places n in
    let len : prefix_len is_ascii_digit (whole ++ rest) ≡ length whole =
    prefix-digits whole rest (all_digits-decimal (n / 10 ^ places) less)
    (prefix-fraction places n) in
    let some : (length whole == 0) ≡ false =
    grind (arith, nat_tests, decimal_nonempty (n / 10 ^ places) less) in
    rw (len, take-append_seam whole rest, drop-append_seam whole rest, some, fraction-text places n)
    (counted-text places n small less)

pub decimal_of-decimal_text : (places : ℕ) (number : ℤ) → unsigned_abs number < 2 ^ 63
    → decimal_of places (decimal_text places number) ≡ Ok number
decimal_of-decimal_text places (pos n) small =
    let less : n / 10 ^ places < 2 ^ 64 = omega (arith, div-le_self n (10 ^ places)) in
    let whole = decimal (n / 10 ^ places) in
    let rest = fraction_text places n in
    let not_below : int_lt (pos n) (pos 0) ≡ false = grind (arith, ints) in
    let plain : sign_text (pos n) ≡ [] = rw not_below refl in
    let parts = sign-digits whole rest (decimal_nonempty (n / 10 ^ places) less)
    (all_digits-decimal (n / 10 ^ places) less) in
    rw (plain, parts, magnitude-text places n small less) refl
decimal_of-decimal_text places (negsuc n) small =
    let less : suc n / 10 ^ places < 2 ^ 64 = omega (arith, div-le_self (suc n) (10 ^ places)) in
    rw (magnitude-text places (suc n) small less) refl
