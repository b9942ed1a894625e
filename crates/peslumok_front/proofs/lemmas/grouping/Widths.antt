-- Texts of widths.
use Rattle.std.proofs.Common.{◌≡◌, refl, ℕ, ℤ, List, Bool, true, false}
use Rattle.std.proofs.Common.{Err, FitsSigned, w64, length, arith, nat_lt}
use Rattle.std.specs.Str.{all_ascii_digits}
use Rattle.std.specs.Str.Parse.{IsNumeral, digits_value, signed_digits_value, without_leading_sign}
use Rattle.std.proofs.lemmas.Bool.{and_parts}
use Rattle.std.proofs.lemmas.Bool.Decides.{nat_tests}
use Rattle.std.proofs.lemmas.Int.{ints}
use Rattle.std.proofs.lemmas.Str.Parse.{IsNumeralModel, numerals_by_value, tells_all_ascii_digits}
use Rattle.peslumok_front.specs.grouping.Divisions.{has_64_bits, is_numeral, number_division}
use Rattle.peslumok_front.specs.grouping.Divisions.{width_division}
use Rattle.peslumok_front.specs.declared.grouping.by_fault.IntervalFault.TheVariants as fault

own : IsNumeralModel (λ ds. all_ascii_digits ds ≡ true) (digits_value 10)
own = numerals_by_value (λ ds. all_ascii_digits ds ≡ true) tells_all_ascii_digits

numeral_test : (text : List ℕ) → IsNumeral 10 (without_leading_sign text) → is_numeral text ≡ true
numeral_test text numeral =
    let digits : all_ascii_digits (without_leading_sign text) ≡ true =
    own.from (without_leading_sign text) numeral.1 in
    let some = numeral.0 in
    grind (arith, nat_tests, digits, some)

numeral_fact : (text : List ℕ) → is_numeral text ≡ true → IsNumeral 10 (without_leading_sign text)
numeral_fact text h =
    let digits = without_leading_sign text in
    let tests = and_parts (nat_lt 0 (length digits)) (all_ascii_digits digits) h in
    let some = tests.0 in
    (grind (arith, nat_tests, some), own.to digits tests.1)

bits_test : (n : ℤ) → FitsSigned w64 n → has_64_bits n ≡ true
bits_test n fits = grind (arith, ints, fits)

bits_fact : (n : ℤ) → has_64_bits n ≡ true → FitsSigned w64 n
bits_fact n h = grind (arith, ints, h)

-- a number that was read is a width, if it is above zero
pub read_number : (text : List ℕ) (n : ℤ) → IsNumeral 10 (without_leading_sign text)
    → FitsSigned w64 (signed_digits_value 10 text) → n ≡ signed_digits_value 10 text
    → width_division fault.OfNumbers n ≡ number_division text
read_number text n numeral fits is =
    rw (is, numeral_test text numeral, bits_test (signed_digits_value 10 text) fits) refl

-- where none was read there is none
pub no_number : (text : List ℕ)
    → ¬ (IsNumeral 10 (without_leading_sign text) × FitsSigned w64 (signed_digits_value 10 text))
    → Err fault.OfNumbers ≡ number_division text
no_number text unread = by_test (is_numeral text) (has_64_bits n) refl refl
  where
    n : ℤ
    n = signed_digits_value 10 text

    by_test : (b c : Bool) → is_numeral text ≡ b → has_64_bits n ≡ c
        → Err fault.OfNumbers ≡ number_division text
    by_test true true e f = absurd (unread (numeral_fact text e, bits_fact n f))
    by_test true false e f = rw (e, f) refl
    by_test false c e f = rw e refl
