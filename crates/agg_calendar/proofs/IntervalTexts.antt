-- Where the digits of an interval text end, and what is read of it.
use Rattle.std.proofs.Common.{◌≡◌, ◌≢◌, ℕ, zero, suc, ◌+◌, ◌<◌, ◌≤◌, ◌^◌, true, false, inl, inr}
use Rattle.std.proofs.Common.{List, [], ◌∷◌, ◌++◌, encode_utf8, length, get_or, ne_eqb, le-ltb}
use Rattle.std.proofs.Common.{lt-ltb, Err, refl, sym, ap, ◌∙◌, arith}
use Rattle.std.specs.Int.{IsInRange}
use Rattle.std.specs.List.{prefix_len}
use Rattle.std.specs.Char.{is_ascii_digit, digit_value}
use Rattle.std.specs.Str.{IsUtf8, IsCharBoundary}
use Rattle.std.specs.Str.Parse.{AllDigits, digits_value, starts_with_minus, without_leading_sign}
use Rattle.std.proofs.lemmas.Bool.{cases_Bool}
use Rattle.std.proofs.lemmas.Str.{IsCharBoundary-after_ascii, IsCharBoundary-start, encode_ascii}
use Rattle.std.proofs.lemmas.List.Sums.{prefix_len_passes, prefix_len-le-length, take_while-cons}
use Rattle.agg_values.specs.declared.request_error.DateHistogramParseError as parsing
use parsing.TheVariants.{NumberMissing, UnitMissing}
use Rattle.agg_calendar.specs.IntervalText.{digits_of, unit_of, unit_ms, counted, signed}
use Rattle.agg_calendar.specs.IntervalText.{read_interval, read_offset}

pub digit_low : (c : ℕ) → is_ascii_digit c ≡ true → IsInRange 48 57 c
digit_low c h = grind arith

-- a text may be cut after its digits
pub digits_boundary : (text : List ℕ)
    → IsUtf8 text
    → IsCharBoundary text (prefix_len is_ascii_digit text)
digits_boundary text utf8 = by (prefix_len is_ascii_digit text) refl
  where
    by : (n : ℕ) → prefix_len is_ascii_digit text ≡ n → IsCharBoundary text n
    by zero e = IsCharBoundary-start text utf8
    by (suc n) e =
        let within = prefix_len-le-length is_ascii_digit text in
        let digit : IsInRange 48 57 (get_or text n 0) =
        digit_low _ (prefix_len_passes is_ascii_digit text n 0 (omega arith)) in
        let next : n + 1 ≡ suc n = omega arith in
        rw next at (IsCharBoundary-after_ascii text n utf8 (omega arith) (omega arith))

-- the digits at the front are digits
pub digits_are : (text : List ℕ) → AllDigits 10 (digits_of text)
digits_are [] = tt
digits_are (c ∷ cs) = elim (cases_Bool (is_ascii_digit c)) [
  | inl y ↦
      rw (take_while-cons is_ascii_digit c cs, y) (digit_value_of c (digit_low c y), digits_are cs)
  | inr n ↦ rw (take_while-cons is_ascii_digit c cs, n) tt
]
  where
    digit_value_of : (c : ℕ) → IsInRange 48 57 c → digit_value c < 10
    digit_value_of c h = grind arith

-- a text without digits at the front
pub no_number : (text : List ℕ)
    → length (digits_of text) ≡ 0
    → read_interval text ≡ Err (NumberMissing text)
unfolding read_interval
no_number text h = rw h refl

-- a text of digits alone
pub no_unit : (text : List ℕ)
    → length (digits_of text) ≢ 0
    → length (unit_of text) ≡ 0
    → read_interval text ≡ Err (UnitMissing text)
unfolding read_interval
no_unit text h k = rw (ne_eqb (length (digits_of text)) 0 h, k) refl

-- a text whose digits fit no 64 bits
pub too_long : (text : List ℕ)
    → length (digits_of text) ≢ 0
    → length (unit_of text) ≢ 0
    → 2 ^ 63 ≤ digits_value 10 (digits_of text)
    → read_interval text ≡ Err (NumberMissing text)
unfolding read_interval
too_long text h k l =
    let some = ne_eqb (length (digits_of text)) 0 h in
    let has_unit = ne_eqb (length (unit_of text)) 0 k in
    rw (some, has_unit, le-ltb (digits_value 10 (digits_of text)) (2 ^ 63) l) refl

-- any other text is read by its unit
pub in_unit : (text : List ℕ)
    → length (digits_of text) ≢ 0
    → length (unit_of text) ≢ 0
    → digits_value 10 (digits_of text) < 2 ^ 63
    → read_interval text
    ≡ counted text (digits_value 10 (digits_of text)) (unit_ms (unit_of text))
unfolding read_interval
in_unit text h k l =
    let some = ne_eqb (length (digits_of text)) 0 h in
    let has_unit = ne_eqb (length (unit_of text)) 0 k in
    rw (some, has_unit, lt-ltb (digits_value 10 (digits_of text)) (2 ^ 63) l) refl

-- a text that no sign begins
pub unsigned : (text : List ℕ)
    → ((rest : List ℕ) → text ≢ encode_utf8 45 ++ rest)
    → ((rest : List ℕ) → text ≢ encode_utf8 43 ++ rest)
    → (starts_with_minus text ≡ false) × (without_leading_sign text ≡ text)
unsigned [] h k = (refl, refl)
unsigned (c ∷ cs) h k =
    let minus = ne_eqb c 45 (λ e. h cs (begins c 45 cs (omega arith) e)) in
    let plus = ne_eqb c 43 (λ e. k cs (begins c 43 cs (omega arith) e)) in
    (minus, rw (minus, plus) refl)
  where
    begins : (c sign : ℕ) (cs : List ℕ)
        → sign < 128
        → c ≡ sign
        → c ∷ cs ≡ encode_utf8 sign ++ cs
    begins c sign cs low e =
        ap (λ b. b ∷ cs) e ∙ sym (ap (λ bs. bs ++ cs) (encode_ascii sign low))

-- a text that is not empty is read after its sign
pub after_sign : (text : List ℕ)
    → length text ≢ 0
    → read_offset text
    ≡ signed (starts_with_minus text) (read_interval (without_leading_sign text))
unfolding read_offset
after_sign text h = rw (ne_eqb (length text) 0 h) refl

-- what is read of a text, case by case
pub ruleset reading = (no_number, no_unit, too_long, in_unit, digits_are)
