-- What is written of a date is read back.
use Rattle.std.proofs.Common.{◌∙◌, ap, FitsSigned, w64, ◌≡◌, Bool, true, ℤ, pos, ◌≤ℤ◌, ◌<ℤ◌, ◌-ℤ◌}
use Rattle.std.proofs.Common.{◌++◌, ◌∷◌, [], List, ℕ, Result, Ok, Err, Some, None, OnOk, refl}
use Rattle.std.proofs.Common.{arith, false, ◌||◌, ◌&&◌, ◌==◌, int_lt, neg_ℤ, ◌^◌, ◌-◌, ◌+◌, ◌/◌}
use Rattle.std.proofs.Common.{◌%◌, nat_lt, length, append-nil}
use Rattle.jiff_core.specs.declared.civil.date.Date.{Date}
use Rattle.jiff_core.specs.declared.civil.time.Time.{Time}
use Rattle.jiff_core.specs.declared.civil.datetime.DateTime.{DateTime}
use Rattle.jiff_core.specs.DateTime.{civil_nanos}
use Rattle.jiff_core.specs.Time.{time_nanos}
use Rattle.jiff_core.specs.Timestamp.{nanos_of_seconds}
use Rattle.jiff_core.proofs.SignedLemmas.{signed_arith}
use Rattle.jiff_fmt.specs.Text.{date_text, datetime_text, time_text, fraction_part, zulu_text}
use Rattle.jiff_fmt.specs.Temporal as temporal
use Rattle.jiff_fmt.specs.Temporal.{temporal_datetime, parse_pieces, zulu, date_parts, time_parts}
use Rattle.jiff_fmt.specs.Temporal.{PiecesParts}
use Rattle.std.proofs.lemmas.Int.{ints}
use Rattle.std.proofs.lemmas.Bool.Decides.{nat_tests}
use Rattle.peslumok_texts.specs.dates.Dates.{date_of, clock_text, IsDateText, in_range}
use Rattle.peslumok_texts.specs.dates.Dates.{writes_sixty, writes_sixty_after}
use Rattle.jiff_fmt.proofs.RoundTrip.{Stops, date_spec-text, datetime-text, time_spec-text}
use Rattle.jiff_fmt.proofs.RoundTrip.{offset-zulu, annotations-empty}

-- a fact of what was appended, where it was
pub appended : {A B : Type 0} (Fact : List ℕ → Type 0) (r : Result A B) (old new text : List ℕ)
    → OnOk r (new ≡ old ++ text) → Fact text
    → OnOk r ((x : List ℕ) × (new ≡ old ++ x) × Fact x)
appended Fact (Ok done) old new text is fact = (text, is, fact)
appended Fact (Err e) old new text is fact = tt

-- the parts of a date alone
abbrev pub parts_of_date : Date → PiecesParts
parts_of_date d = record { date = date_parts d; time = None; offset = None; zone = None }

-- the parts of a datetime, in UTC
abbrev pub parts_in_utc : DateTime → PiecesParts
parts_in_utc dt = record {
  date = date_parts dt.date;
  time = Some (time_parts dt.time);
  offset = Some zulu;
  zone = None;
}

pub pieces-date : (d : Date) → parse_pieces (date_text d) ≡ Ok (parts_of_date d)
unfolding temporal_datetime
pieces-date d =
    let read = date_spec-text d [] in
    let same : temporal.date_spec (date_text d) ≡ Ok (date_parts d, []) =
    rw (← append-nil (date_text d)) read in
    rw (same, annotations-empty)

pub pieces-datetime : (dt : DateTime)
    → parse_pieces (datetime_text false 84 None dt ++ 90 ∷ []) ≡ Ok (parts_in_utc dt)
unfolding temporal_datetime
pieces-datetime dt =
    let stop : Stops (90 ∷ []) = refl in
    let read = datetime-text dt (90 ∷ []) stop in
    let clock = time_spec-text dt.time (90 ∷ []) stop in
    rw (read, clock, offset-zulu, annotations-empty)

neither : (b c : Bool) → (b && ((c && false) || false)) ≡ false
neither true true = refl
neither true false = refl
neither false c = refl

-- between colons, what is below 60 begins with no 6
pub below-sixty : (a b c d e f : ℕ) (rest : List ℕ) → (54 == e) ≡ false
    → writes_sixty (a ∷ b ∷ 58 ∷ c ∷ d ∷ 58 ∷ e ∷ f ∷ rest) ≡ false
below-sixty a b c d e f rest less =
    rw less (neither (nat_lt 5 (length (a ∷ b ∷ 58 ∷ c ∷ d ∷ 58 ∷ e ∷ f ∷ rest))) (54 == d))

-- a clock's seconds are below 60
pub no-sixty : (t : Time) (rest : List ℕ) → writes_sixty (time_text None t ++ rest) ≡ false
no-sixty t rest =
    let less : (54 == (48 + t.second / 10)) ≡ false = grind (arith, nat_tests, t.second_in) in
    below-sixty (48 + t.hour / 10) (48 + t.hour % 10) (48 + t.minute / 10) (48 + t.minute % 10)
    (48 + t.second / 10) (48 + t.second % 10) (fraction_part None t.subsec_nanosecond ++ rest)
    less

and-false : (b : Bool) → (b && false) ≡ false
and-false true = refl
and-false false = refl

pub no-sixty_after : (dt : DateTime)
    → writes_sixty_after (temporal.date_spec (datetime_text false 84 None dt ++ 90 ∷ [])) ≡ false
no-sixty_after dt =
    let stop : Stops (90 ∷ []) = refl in
    rw (datetime-text dt (90 ∷ []) stop) (no-sixty dt.time (90 ∷ []))

pub within : (n : ℤ) → neg_ℤ (pos (2 ^ 63)) ≤ℤ n → n <ℤ pos (2 ^ 63) → in_range n ≡ Ok n
within n low high =
    let inside : (int_lt n (neg_ℤ (pos (2 ^ 63))) || int_lt (pos (2 ^ 63 - 1)) n) ≡ false =
    grind (arith, ints, low, high) in
    rw inside

pub reads-day : (dt : DateTime) (n : ℤ) → civil_nanos dt ≡ n → time_nanos dt.time ≡ 0
    → neg_ℤ (pos (2 ^ 63)) ≤ℤ n → n <ℤ pos (2 ^ 63) → date_of (date_text dt.date) ≡ Ok n
unfolding civil_nanos
reads-day dt n is midnight low high =
    let parts = temporal.parts_nanos (date_parts dt.date) temporal.midnight in
    let nanos : parts -ℤ nanos_of_seconds (pos 0) ≡ n =
    omega (arith, signed_arith, is, midnight) in
    rw (pieces-date dt.date, nanos) (within n low high)

pub reads-instant : (dt : DateTime) (n : ℤ) → civil_nanos dt ≡ n
    → neg_ℤ (pos (2 ^ 63)) ≤ℤ n → n <ℤ pos (2 ^ 63)
    → date_of (datetime_text false 84 None dt ++ zulu_text false) ≡ Ok n
unfolding civil_nanos
reads-instant dt n is low high =
    let parts = temporal.parts_nanos (date_parts dt.date) (time_parts dt.time) in
    let nanos : parts -ℤ nanos_of_seconds (pos 0) ≡ n = omega (arith, signed_arith, is) in
    let text = datetime_text false 84 None dt ++ 90 ∷ [] in
    let sixty : (dt.time.second == 59) && writes_sixty_after (temporal.date_spec text) ≡ false =
    rw (no-sixty_after dt) (and-false (dt.time.second == 59)) in
    rw (pieces-datetime dt, sixty, nanos) (within n low high)

pub reads-clock : (dt : DateTime) (n : ℤ) → civil_nanos dt ≡ n
    → neg_ℤ (pos (2 ^ 63)) ≤ℤ n → n <ℤ pos (2 ^ 63) → date_of (clock_text dt) ≡ Ok n
reads-clock dt n is low high = by_time (time_nanos dt.time == 0) refl
  where
    by_time : (b : Bool) → (time_nanos dt.time == 0) ≡ b → date_of (clock_text dt) ≡ Ok n
    by_time true e =
        let midnight : time_nanos dt.time ≡ 0 = grind (arith, nat_tests, e) in
        rw e (reads-day dt n is midnight low high)
    by_time false e = rw e (reads-instant dt n is low high)

pub reads-date : (nanos : ℤ) (text : List ℕ) → FitsSigned w64 nanos → IsDateText nanos text
    → date_of text ≡ Ok nanos
reads-date nanos text fits written =
    let low : neg_ℤ (pos (2 ^ 63)) ≤ℤ nanos = omega (arith, signed_arith, fits) in
    let high : nanos <ℤ pos (2 ^ 63) = omega (arith, signed_arith, fits) in
    ap date_of written.2 ∙ reads-clock written.0 nanos written.1 low high
