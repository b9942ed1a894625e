-- Texts that are exactly how a whole number is written.
use Rattle.std.proofs.Common.{◌≡◌, ◌<◌, ◌^◌, ℕ, ℤ, pos, negsuc, neg_ℤ, List, [], ◌∷◌, zero, suc}
use Rattle.std.proofs.Common.{length, get_or, refl, sym, ap, subst, ◌∙◌, arith}
use Rattle.std.proofs.Common.{Bool, true, false, ◌==◌, ◌&&◌, Some, None, decimal, FitsSigned}
use mir.Syntax.{w128}
use Rattle.std.specs.Fmt.{signed_decimal}
use Rattle.std.specs.Int.{is_in_range, IsInRange}
use Rattle.std.specs.Str.{bytes_eq}
use Rattle.std.specs.Str.Parse.{AllDigits, IsNumeral, digits_value, signed_digits_value}
use Rattle.std.specs.Str.Parse.{without_leading_sign}
use Rattle.std.proofs.lemmas.Bool.{and_parts}
use Rattle.std.proofs.lemmas.Bool.Decides.{nat_tests}
use Rattle.std.proofs.lemmas.Fmt.{decimal_is_IsNumeral, decimal_digit, first_decimal}
use Rattle.std.proofs.lemmas.Fmt.{decimal-digits_value}
use Rattle.std.proofs.lemmas.Int.{ints}
use Rattle.std.proofs.lemmas.Slice.Eq.{bytes_eq-Decides}
use Rattle.std.proofs.lemmas.Str.Parse.{IsNumeralModel, numerals_by_value, tells_digits, digit_at}
use Rattle.peslumok_texts.specs.fields.Wholes.{has_64_bits, whole_of, begins_bare}

own : IsNumeralModel (AllDigits 10) (digits_value 10)
own = numerals_by_value (AllDigits 10) tells_digits

-- the number that a sign and digits are
abbrev value_of : List ℕ → ℤ
value_of text = signed_digits_value 10 text

-- a text whose first byte is a digit has no sign
no_sign : (c : ℕ) (cs : List ℕ) → IsInRange 48 57 c → without_leading_sign (c ∷ cs) ≡ c ∷ cs
no_sign c cs digit =
    let minus : (c == 45) ≡ false = grind (arith, nat_tests, digit) in
    let plus : (c == 43) ≡ false = grind (arith, nat_tests, digit) in
    rw (minus, plus) refl

no_sign_value : (c : ℕ) (cs : List ℕ) → IsInRange 48 57 c
    → value_of (c ∷ cs) ≡ pos (digits_value 10 (c ∷ cs))
no_sign_value c cs digit =
    let minus : (c == 45) ≡ false = grind (arith, nat_tests, digit) in
    let plus : (c == 43) ≡ false = grind (arith, nat_tests, digit) in
    rw (minus, plus) refl

pos_64 : (n : ℕ) → has_64_bits (pos n) ≡ true → n < 2 ^ 64
pos_64 n h = grind (arith, ints, h)

neg_64 : (n : ℕ) → has_64_bits (negsuc n) ≡ true → n < 2 ^ 63
neg_64 n h = grind (arith, ints, h)

minus_64 : (n : ℕ) → has_64_bits (neg_ℤ (pos n)) ≡ true → n < 2 ^ 64
minus_64 zero h = omega arith
minus_64 (suc n) h = let less = neg_64 n h in omega (arith, less)

fits_wide : (n : ℤ) → has_64_bits n ≡ true → FitsSigned w128 n
fits_wide n h = grind (arith, ints, h)

-- a number below zero is written with a minus
below_zero : (n : ℕ) → 0 < n → signed_decimal (neg_ℤ (pos n)) ≡ 45 ∷ decimal n
below_zero zero some = absurd (omega (arith, some))
below_zero (suc n) some = refl

above_zero : (n d : ℕ) (ds : List ℕ) → IsInRange 49 57 d → decimal n ≡ d ∷ ds → 0 < n
above_zero zero d ds digit e =
    let is : 48 ∷ [] ≡ d ∷ ds = sym (decimal_digit 0 (omega arith)) ∙ e in
    let same : 48 ≡ d = cc in
    absurd (omega (arith, digit, same))
above_zero (suc n) d ds digit e = omega arith

-- digits with no zero before another are what is written of their number
unsigned_written : (c : ℕ) (cs : List ℕ) → IsInRange 48 57 c → (c ≡ 48 → length (c ∷ cs) ≡ 1)
    → IsNumeral 10 (without_leading_sign (c ∷ cs))
    → has_64_bits (value_of (c ∷ cs)) ≡ true → signed_decimal (value_of (c ∷ cs)) ≡ c ∷ cs
unsigned_written c cs digit bare numeral small =
    let plain : IsNumeral 10 (c ∷ cs) = subst (IsNumeral 10) (no_sign c cs digit) numeral in
    let value = no_sign_value c cs digit in
    let less : digits_value 10 (c ∷ cs) < 2 ^ 64 =
    pos_64 (digits_value 10 (c ∷ cs)) (subst (λ (n : ℤ). has_64_bits n ≡ true) value small) in
    ap signed_decimal value ∙ decimal-digits_value own (c ∷ cs) plain.1 plain.0 bare less

-- the same after a minus, for a first digit above zero
signed_written : (d : ℕ) (ds : List ℕ) → IsInRange 49 57 d → IsNumeral 10 (d ∷ ds)
    → has_64_bits (neg_ℤ (pos (digits_value 10 (d ∷ ds)))) ≡ true
    → signed_decimal (neg_ℤ (pos (digits_value 10 (d ∷ ds)))) ≡ 45 ∷ d ∷ ds
signed_written d ds digit numeral small =
    let v = digits_value 10 (d ∷ ds) in
    let bare : get_or (d ∷ ds) 0 0 ≡ 48 → length (d ∷ ds) ≡ 1 =
    λ e. absurd (omega (arith, digit, e)) in
    let text = decimal-digits_value own (d ∷ ds) numeral.1 numeral.0 bare (minus_64 v small) in
    below_zero v (above_zero v d ds digit text) ∙ ap (λ (x : List ℕ). 45 ∷ x) text

-- a text that is how its own number is written
abbrev IsOwn : List ℕ → Type 0
IsOwn text = signed_decimal (value_of text) ≡ text

-- digits with or without a sign, which begin bare, and whose number has 64 bits, are such a text
abbrev BecomesOwn : List ℕ → Type 0
BecomesOwn text =
    begins_bare text ≡ true → IsNumeral 10 (without_leading_sign text)
    → has_64_bits (value_of text) ≡ true → IsOwn text

minus_written : (d : ℕ) (ds : List ℕ) → BecomesOwn (45 ∷ d ∷ ds)
minus_written d ds bare numeral small =
    let digit : IsInRange 49 57 d = grind (arith, nat_tests, bare) in
    signed_written d ds digit numeral small

-- digits that begin bare are what is written of their number
pub written : (text : List ℕ) → BecomesOwn text
written [] bare numeral small = absurd cc
written (c ∷ []) bare numeral small =
    let digit : IsInRange 48 57 c = grind (arith, nat_tests, bare) in
    unsigned_written c [] digit (λ e. refl) numeral small
written (c ∷ d ∷ rest) bare numeral small = by_sign (c == 45) refl
  where
    by_sign : (b : Bool) → (c == 45) ≡ b → IsOwn (c ∷ d ∷ rest)
    by_sign true e =
        let is : c ≡ 45 = grind (arith, nat_tests, e) in
        subst (λ (x : ℕ). BecomesOwn (x ∷ d ∷ rest)) (sym is) (minus_written d rest)
        bare numeral small
    by_sign false e =
        let digit : IsInRange 49 57 c = grind (arith, nat_tests, bare, e) in
        unsigned_written c (d ∷ rest) (omega (arith, digit), omega (arith, digit))
        (λ e. absurd (omega (arith, digit, e))) numeral small

-- what is written of a number begins bare, and is digits after a sign
digits_of_number : (n : ℕ) (ds : List ℕ) → n < 2 ^ 64 → decimal n ≡ ds → IsNumeral 10 ds
digits_of_number n ds small e = subst (IsNumeral 10) e (decimal_is_IsNumeral n small).0

first_digit : (n c : ℕ) (cs : List ℕ) → n < 2 ^ 64 → decimal n ≡ c ∷ cs → IsInRange 48 57 c
first_digit n c cs small e =
    digit_at (c ∷ cs) 0 (digits_of_number n (c ∷ cs) small e).1 (omega arith)

first_above_zero : (n c : ℕ) (cs : List ℕ) → n < 2 ^ 64 → 0 < n → decimal n ≡ c ∷ cs
    → is_in_range 49 57 c ≡ true
first_above_zero n c cs small some e =
    let digit = first_digit n c cs small e in
    let above : 48 < c = subst (λ (x : List ℕ). 48 < get_or x 0 0) e (first_decimal n some small) in
    grind (arith, nat_tests, digit, above)

bare_digits : (n : ℕ) (ds : List ℕ) → n < 2 ^ 64 → decimal n ≡ ds → begins_bare ds ≡ true
bare_digits n [] small e = absurd (omega (arith, (digits_of_number n [] small e).0))
bare_digits n (c ∷ []) small e =
    let digit = first_digit n c [] small e in
    grind (arith, nat_tests, digit)
bare_digits zero (c ∷ d ∷ rest) small e =
    let is : 48 ∷ [] ≡ c ∷ d ∷ rest = sym (decimal_digit 0 (omega arith)) ∙ e in
    absurd cc
bare_digits (suc n) (c ∷ d ∷ rest) small e =
    rw (first_above_zero (suc n) c (d ∷ rest) small (omega arith) e) refl

bare_minus : (n : ℕ) (ds : List ℕ) → suc n < 2 ^ 64 → decimal (suc n) ≡ ds
    → begins_bare (45 ∷ ds) ≡ true
bare_minus n [] small e = absurd (omega (arith, (digits_of_number (suc n) [] small e).0))
bare_minus n (d ∷ rest) small e = rw (first_above_zero (suc n) d rest small (omega arith) e) refl

numeral_digits : (n : ℕ) (ds : List ℕ) → n < 2 ^ 64 → decimal n ≡ ds
    → IsNumeral 10 (without_leading_sign ds)
numeral_digits n [] small e = absurd (omega (arith, (digits_of_number n [] small e).0))
numeral_digits n (c ∷ cs) small e =
    subst (IsNumeral 10) (sym (no_sign c cs (first_digit n c cs small e)))
    (digits_of_number n (c ∷ cs) small e)

number_of_digits : (n : ℕ) (ds : List ℕ) → n < 2 ^ 64 → decimal n ≡ ds
    → value_of ds ≡ pos n
number_of_digits n [] small e = absurd (omega (arith, (digits_of_number n [] small e).0))
number_of_digits n (c ∷ cs) small e =
    no_sign_value c cs (first_digit n c cs small e)
    ∙ ap (λ (x : List ℕ). pos (digits_value 10 x)) (sym e) ∙ ap pos (decimal_is_IsNumeral n small).1

pub written_bare : (n : ℤ) (text : List ℕ) → has_64_bits n ≡ true → text ≡ signed_decimal n
    → begins_bare text ≡ true
written_bare (pos n) text small e = bare_digits n text (pos_64 n small) (sym e)
written_bare (negsuc n) text small e =
    let less = neg_64 n small in
    subst (λ (x : List ℕ). begins_bare x ≡ true) (sym e)
    (bare_minus n (decimal (suc n)) (omega (arith, less)) refl)

pub written_numeral : (n : ℤ) (text : List ℕ) → has_64_bits n ≡ true → text ≡ signed_decimal n
    → IsNumeral 10 (without_leading_sign text)
written_numeral (pos n) text small e = numeral_digits n text (pos_64 n small) (sym e)
written_numeral (negsuc n) text small e =
    let less = neg_64 n small in
    subst (λ (x : List ℕ). IsNumeral 10 (without_leading_sign x)) (sym e)
    (digits_of_number (suc n) (decimal (suc n)) (omega (arith, less)) refl)

-- the test of such a text, and of 64 bits
abbrev is_own : List ℕ → Bool
is_own text = bytes_eq text (signed_decimal (value_of text)) && has_64_bits (value_of text)

own_parts : (text : List ℕ) → is_own text ≡ true
    → (text ≡ signed_decimal (value_of text)) × (has_64_bits (value_of text) ≡ true)
own_parts text h =
    let same = bytes_eq text (signed_decimal (value_of text)) in
    let parts = and_parts same (has_64_bits (value_of text)) h in
    ((bytes_eq-Decides text (signed_decimal (value_of text))).0 parts.0, parts.1)

pub none_unless_bare : (text : List ℕ) → begins_bare text ≡ false → whole_of text ≡ None
none_unless_bare text bare = by_test (is_own text) refl
  where
    by_test : (b : Bool) → is_own text ≡ b → whole_of text ≡ None
    by_test true e =
        let parts = own_parts text e in
        let is = written_bare (value_of text) text parts.1 parts.0 in
        absurd cc
    by_test false e = rw e refl

pub none_unless_digits : (text : List ℕ)
    → ¬ (IsNumeral 10 (without_leading_sign text) × FitsSigned w128 (value_of text))
    → whole_of text ≡ None
none_unless_digits text unread = by_test (is_own text) refl
  where
    by_test : (b : Bool) → is_own text ≡ b → whole_of text ≡ None
    by_test true e =
        let parts = own_parts text e in
        let numeral = written_numeral (value_of text) text parts.1 parts.0 in
        absurd (unread (numeral, fits_wide (value_of text) parts.1))
    by_test false e = rw e refl

pub some_where_bare : (text : List ℕ) → begins_bare text ≡ true
    → IsNumeral 10 (without_leading_sign text) → has_64_bits (value_of text) ≡ true
    → whole_of text ≡ Some (value_of text)
some_where_bare text bare numeral small =
    let is = written text bare numeral small in
    let same = (bytes_eq-Decides text (signed_decimal (value_of text))).1 (sym is) in
    rw (same, small) refl

-- the number of what is written of a number
own_number : (n : ℤ) → has_64_bits n ≡ true → value_of (signed_decimal n) ≡ n
own_number (pos n) small = number_of_digits n (decimal n) (pos_64 n small) refl
own_number (negsuc n) small =
    let less = neg_64 n small in
    ap (λ (v : ℕ). neg_ℤ (pos v)) (decimal_is_IsNumeral (suc n) (omega (arith, less))).1

pub whole_of-signed_decimal : (n : ℤ) → has_64_bits n ≡ true → whole_of (signed_decimal n) ≡ Some n
whole_of-signed_decimal n small =
    let is = own_number n small in
    let text = signed_decimal n in
    let same : bytes_eq text (signed_decimal (value_of text)) ≡ true =
    (bytes_eq-Decides text (signed_decimal (value_of text))).1 (ap signed_decimal (sym is)) in
    let fits : has_64_bits (value_of text) ≡ true = ap has_64_bits is ∙ small in
    let some : whole_of text ≡ Some (value_of text) = rw (same, fits) refl in
    some ∙ ap Some is

pub whole_is : (text : List ℕ) (n : ℤ) → whole_of text ≡ Some n
    → (text ≡ signed_decimal n) × (has_64_bits n ≡ true)
whole_is text n e = by_test (is_own text) refl
  where
    by_test : (b : Bool) → is_own text ≡ b → (text ≡ signed_decimal n) × (has_64_bits n ≡ true)
    by_test true is =
        let parts = own_parts text is in
        let some : whole_of text ≡ Some (value_of text) = rw is refl in
        let same : value_of text ≡ n = cc in
        (parts.0 ∙ ap signed_decimal same, ap has_64_bits (sym same) ∙ parts.1)
    by_test false is =
        let none : whole_of text ≡ None = rw is refl in
        absurd cc
