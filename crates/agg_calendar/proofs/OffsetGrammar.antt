-- What is read of an offset text is an interval text after a sign or none.
use Rattle.std.proofs.Common.{◌≡◌, ◌≢◌, ◌↔◌, ◌⊎◌, ℕ, ◌<◌, Bool, true, false, inl, inr}
use Rattle.std.proofs.Common.{List, [], ◌∷◌, ◌++◌, length, Result, Ok, Err, ℤ, neg_ℤ}
use Rattle.std.proofs.Common.{refl, sym, ◌∙◌, arith, ne_eqb, if◌then◌else◌}
use Rattle.std.specs.Int.{IsInRange}
use Rattle.std.specs.Str.Parse.{starts_with_minus, without_leading_sign}
use Rattle.std.proofs.lemmas.Bool.{cases_order}
use Rattle.agg_values.specs.declared.request_error.DateHistogramParseError as parsing
use parsing.{DateHistogramParseError}
use parsing.TheVariants.{InvalidOffset}
use Rattle.agg_calendar.specs.IntervalText.{read_interval, read_offset, signed}
use Rattle.agg_calendar.specs.IntervalText.{IsIntervalText, IsOffsetText}
use Rattle.agg_calendar.proofs.IntervalTexts.{after_sign, digit_low}
use Rattle.agg_calendar.proofs.IntervalGrammar.{apart, is_digit, read_is}

-- what is read with a sign was read without it
signed_is : (is_minus : Bool) (read : Result ℤ DateHistogramParseError) (ms : ℤ)
    → signed is_minus read ≡ Ok ms
    → (part : ℤ) × (read ≡ Ok part) × (ms ≡ (if is_minus then neg_ℤ part else part))
signed_is is_minus (Ok part) ms e = (part, refl, same_value _ _ e)
  where
    same_value : (m ms : ℤ)
        → ◌≡◌ {A = Result ℤ DateHistogramParseError} (Ok m) (Ok ms)
        → ms ≡ m
    same_value m ms e = cc
signed_is is_minus (Err error) ms e = absurd (apart (Err error) error ms refl e)

-- a text that begins with neither sign is its own rest
no_sign : (c : ℕ) (cs : List ℕ)
    → c ≢ 45
    → c ≢ 43
    → (starts_with_minus (c ∷ cs) ≡ false) × (without_leading_sign (c ∷ cs) ≡ c ∷ cs)
no_sign c cs no_minus no_plus =
    let minus = ne_eqb c 45 no_minus in
    let plus = ne_eqb c 43 no_plus in
    (minus, rw (minus, plus) refl)

not_empty : (c : ℕ) (cs : List ℕ) → length (c ∷ cs) ≢ 0
not_empty c cs e = omega (arith, e)

to_minus : (cs : List ℕ) (ms : ℤ) → read_offset (45 ∷ cs) ≡ Ok ms → IsOffsetText (45 ∷ cs) ms
to_minus cs ms e =
    let read = sym (after_sign (45 ∷ cs) (not_empty 45 cs)) ∙ e in
    let found = signed_is true (read_interval cs) ms read in
    (cs, found.0, (read_is cs found.0).0 found.1, inr (inr (refl, found.2)))

to_plus : (cs : List ℕ) (ms : ℤ) → read_offset (43 ∷ cs) ≡ Ok ms → IsOffsetText (43 ∷ cs) ms
to_plus cs ms e =
    let read = sym (after_sign (43 ∷ cs) (not_empty 43 cs)) ∙ e in
    let found = signed_is false (read_interval cs) ms read in
    (cs, found.0, (read_is cs found.0).0 found.1, inr (inl (refl, found.2)))

to_plain : (c : ℕ) (cs : List ℕ) (ms : ℤ)
    → c ≢ 45
    → c ≢ 43
    → read_offset (c ∷ cs) ≡ Ok ms
    → IsOffsetText (c ∷ cs) ms
to_plain c cs ms no_minus no_plus e =
    let text = c ∷ cs in
    let none = no_sign c cs no_minus no_plus in
    let read = sym (after_sign text (not_empty c cs)) ∙ e in
    let plain : signed false (read_interval text) ≡ Ok ms = rw (none.1, none.0) at read in
    let found = signed_is false (read_interval text) ms plain in
    (text, found.0, (read_is text found.0).0 found.1, inl (refl, found.2))

to_offset : (text : List ℕ) (ms : ℤ) → read_offset text ≡ Ok ms → IsOffsetText text ms
unfolding read_offset
to_offset [] ms e = absurd (apart (read_offset []) (InvalidOffset []) ms refl e)
to_offset (c ∷ cs) ms e = elim (cases_order c 45) [
  | inl minus ↦ rw minus (to_minus cs ms (rw minus at e))
  | inr other ↦ elim (cases_order c 43) [
    | inl plus ↦ rw plus (to_plus cs ms (rw plus at e))
    | inr unlike ↦ to_plain c cs ms (apart_by c 45 other) (apart_by c 43 unlike) e
  ]
]
  where
    apart_by : (a b : ℕ) → (a < b) ⊎ (b < a) → a ≢ b
    apart_by a b (inl lt) e = omega (arith, lt, e)
    apart_by a b (inr gt) e = omega (arith, gt, e)

-- an interval text begins with a digit, and so with no sign
from_plain : (text : List ℕ) (ms : ℤ) → IsIntervalText text ms → read_offset text ≡ Ok ms
from_plain text ms ([], unit, factor, joined, numeral, rest, fits, small, value) =
    absurd (omega (arith, numeral.0))
from_plain text ms (d ∷ ds, unit, factor, joined, numeral, named, fits, small, value) =
    let low : IsInRange 48 57 d = digit_low d (is_digit d numeral.1.0) in
    let cs = ds ++ unit in
    let none = no_sign d cs (λ e. omega (arith, low, e)) (λ e. omega (arith, low, e)) in
    let is : IsIntervalText (d ∷ cs) ms =
    (d ∷ ds, unit, factor, refl, numeral, named, fits, small, value) in
    let read : read_interval (d ∷ cs) ≡ Ok ms = (read_is (d ∷ cs) ms).1 is in
    rw (joined, after_sign (d ∷ cs) (not_empty d cs), none.1, none.0, read) refl

from_offset : (text : List ℕ) (ms : ℤ) → IsOffsetText text ms → read_offset text ≡ Ok ms
from_offset text ms (rest, part, is, inl (e, value)) = rw (e, value) (from_plain rest part is)
from_offset text ms (rest, part, is, inr (inl (e, value))) =
    let read = (read_is rest part).1 is in
    rw (e, value, after_sign (43 ∷ rest) (not_empty 43 rest), read) refl
from_offset text ms (rest, part, is, inr (inr (e, value))) =
    let read = (read_is rest part).1 is in
    rw (e, value, after_sign (45 ∷ rest) (not_empty 45 rest), read) refl

pub offset_is : (text : List ℕ) (ms : ℤ) → (read_offset text ≡ Ok ms) ↔ IsOffsetText text ms
offset_is text ms = (to_offset text ms, from_offset text ms)
