-- What is read of a text is digits and a unit.
use Rattle.std.proofs.Common.{◌≡◌, ◌≢◌, ◌↔◌, ℕ, suc, ◌+◌, ◌*◌, ◌<◌, ◌^◌, true, false, inl, inr}
use Rattle.std.proofs.Common.{List, [], ◌∷◌, ◌++◌, length, Option, Some, None, Result, Ok, Err}
use Rattle.std.proofs.Common.{ℤ, pos, refl, sym, ap, ◌∙◌, arith, ne_eqb, lt-ltb, ltb-true, nat_lt}
use Rattle.std.specs.List.{prefix_len}
use Rattle.std.specs.Char.{is_ascii_digit, digit_value}
use Rattle.std.specs.Str.Parse.{AllDigits, digits_value}
use Rattle.std.proofs.lemmas.Bool.{cases_Bool, cases_order}
use Rattle.std.proofs.lemmas.List.{take-append-drop}
use Rattle.std.proofs.lemmas.Str.Parse.{digit_from_value}
use Rattle.agg_values.specs.declared.request_error.DateHistogramParseError as parsing
use parsing.{DateHistogramParseError}
use Rattle.agg_calendar.specs.IntervalText.{digits_of, unit_of, unit_ms, counted}
use Rattle.agg_calendar.specs.IntervalText.{read_interval, IsIntervalText}
use Rattle.agg_calendar.proofs.IntervalTexts.{digits_are, digit_low, no_number, no_unit, too_long}
use Rattle.agg_calendar.proofs.IntervalTexts.{in_unit}

pub is_digit : (c : ℕ) → digit_value c < 10 → is_ascii_digit c ≡ true
is_digit c h = let low = digit_from_value c h in grind arith

-- no unit begins with a digit
no_digit : (u : ℕ) (us : List ℕ) (factor : ℕ)
    → unit_ms (u ∷ us) ≡ Some factor
    → is_ascii_digit u ≡ false
unfolding unit_ms
no_digit u us factor e = elim (cases_Bool (is_ascii_digit u)) [
  | inr n ↦ n
  | inl y ↦
      let low = digit_low u y in
      let no_m = ne_eqb u 109 (omega arith) in
      let no_s = ne_eqb u 115 (omega arith) in
      let no_h = ne_eqb u 104 (omega arith) in
      let no_d = ne_eqb u 100 (omega arith) in
      absurd (let none = rw (no_m, no_s, no_h, no_d) at e in
      (let h : None ≡ Some factor = none in cc))
]

-- digits and a unit are cut between them
cut : (digits unit : List ℕ) (factor : ℕ)
    → AllDigits 10 digits
    → unit_ms unit ≡ Some factor
    → (digits_of (digits ++ unit) ≡ digits) × (unit_of (digits ++ unit) ≡ unit)
cut [] [] factor all e = (refl, refl)
cut [] (u ∷ us) factor all e = let no = no_digit u us factor e in rw no (refl, refl)
cut (c ∷ cs) unit factor all e =
    let yes = is_digit c all.0 in
    let later = cut cs unit factor all.1 e in
    let len = prefix_len is_ascii_digit (cs ++ unit) in
    let next : 1 + len ≡ suc len = omega arith in
    (rw (yes, next) (ap (λ ds. c ∷ ds) later.0), rw (yes, next) later.1)

err_is_not_ok : {A B : Type 0} (e : B) (x : A) → ◌≡◌ {A = Result A B} (Err e) (Ok x) → ⊥
err_is_not_ok e x h = cc

pub apart : {A B : Type 0} (r : Result A B) (e : B) (x : A) → r ≡ Err e → r ≡ Ok x → ⊥
apart r e x h k = err_is_not_ok e x (sym h ∙ k)

-- what is counted is a number of the unit
counted_is : (text : List ℕ) (count : ℕ) (unit : Option ℕ) (ms : ℤ)
    → counted text count unit ≡ Ok ms
    → (factor : ℕ)
    × (unit ≡ Some factor)
    × (count * factor * 1_000_000 < 2 ^ 63)
    × (ms ≡ pos (count * factor))
counted_is text count None ms e = absurd (err_is_not_ok _ ms e)
counted_is text count (Some factor) ms e =
    elim (cases_Bool (nat_lt (count * factor * 1_000_000) (2 ^ 63))) [
      | inl y ↦ (factor, refl, ltb-true _ _ y, same_value _ _ (rw y at e))
      | inr n ↦ absurd (err_is_not_ok _ ms (rw n at e))
    ]
  where
    same_value : (m ms : ℤ)
        → ◌≡◌ {A = Result ℤ DateHistogramParseError} (Ok m) (Ok ms)
        → ms ≡ m
    same_value m ms e = cc

-- a unit is not empty
unit_is_there : (unit : List ℕ) (factor : ℕ) → unit_ms unit ≡ Some factor → length unit ≢ 0
unfolding unit_ms
unit_is_there [] factor e = λ _. some_is_not_none factor e
  where
    some_is_not_none : (factor : ℕ) → None ≡ Some factor → ⊥
    some_is_not_none factor e = cc
unit_is_there (u ∷ us) factor e = λ none. omega (arith, none)

to_text : (text : List ℕ) (ms : ℤ) → read_interval text ≡ Ok ms → IsIntervalText text ms
to_text text ms e =
    elim (cases_order (length (digits_of text)) 0) [
      | inl none ↦ absurd (apart _ _ ms (no_number text none) e)
      | inr (inl lt) ↦ absurd (omega arith)
      | inr (inr some) ↦ elim (cases_order (length (unit_of text)) 0) [
        | inl none ↦ absurd (apart _ _ ms (no_unit text (omega arith) none) e)
        | inr (inl lt) ↦ absurd (omega arith)
        | inr (inr has_unit) ↦ elim (cases_order (digits_value 10 (digits_of text)) (2 ^ 63)) [
          | inl long ↦ absurd
              (apart _ _ ms (too_long text (omega arith) (omega arith) (omega (arith, long))) e)
          | inr (inl fits) ↦ within some has_unit fits
          | inr (inr long) ↦ absurd
              (apart _ _ ms (too_long text (omega arith) (omega arith) (omega (arith, long))) e)
        ]
      ]
    ]
  where
    within : 0 < length (digits_of text)
        → 0 < length (unit_of text)
        → digits_value 10 (digits_of text) < 2 ^ 63
        → IsIntervalText text ms
    within some has_unit fits =
        let count = digits_value 10 (digits_of text) in
        let unit = unit_ms (unit_of text) in
        let read = sym (in_unit text (omega arith) (omega arith) fits) ∙ e in
        let found = counted_is text count unit ms read in
        let joined = sym (take-append-drop (prefix_len is_ascii_digit text) text) in (
          digits_of text,
          unit_of text,
          found.0,
          joined,
          (some, digits_are text),
          found.1,
          fits,
          found.2,
          found.3,
        )

from_text : (text : List ℕ) (ms : ℤ) → IsIntervalText text ms → read_interval text ≡ Ok ms
from_text text ms (digits, unit, factor, is, numeral, named, fits, small, value) =
    let whole = digits ++ unit in
    let parts = cut digits unit factor numeral.1 named in
    let some : length (digits_of whole) ≢ 0 = rw parts.0 (λ e. omega (arith, numeral.0, e)) in
    let has_unit : length (unit_of whole) ≢ 0 = rw parts.1 (unit_is_there unit factor named) in
    let short : digits_value 10 (digits_of whole) < 2 ^ 63 = rw parts.0 fits in
    let read = in_unit whole some has_unit short in
    rw (is, read, parts.0, parts.1, named, lt-ltb _ _ small, value) refl

pub read_is : (text : List ℕ) (ms : ℤ) → (read_interval text ≡ Ok ms) ↔ IsIntervalText text ms
read_is text ms = (to_text text ms, from_text text ms)
