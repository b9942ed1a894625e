-- Lines, cut off a text one by one.
use Rattle.std.proofs.Common.{◌≡◌, ◌≢◌, ℕ, ◌+◌, ◌-◌, ◌^◌, ◌<◌, List, [], ◌∷◌, ◌++◌, length}
use Rattle.std.proofs.Common.{get_or, take, Bor, Option, Some, None, Result, Ok, Err, MatchOption}
use Rattle.std.proofs.Common.{unwrap_or, eqb, eq-eqb, refl, sym, ap, ◌∙◌, arith, rules, true}
use Rattle.std.proofs.Common.{false, suc, drop, add-one}
use Rattle.std.specs.Result.{OkIff, result_ok}
use Rattle.std.specs.Str.{all_ascii_digits}
use Rattle.std.specs.Str.Parse.{digits_value}
use Rattle.std.specs.Str.Lines.{strip_carriage_return}
use Rattle.std.proofs.lemmas.List.{take_more, take_all, length-append, length-take, get_or-take}
use Rattle.std.proofs.lemmas.Bool.{eqb-true}
use Rattle.std.proofs.lemmas.Bool.Decides.{nat_tests}
use Rattle.std.proofs.lemmas.List.Elements.{All-from_get_or}
use Rattle.std.proofs.lemmas.List.Splits.{slice_split_at, slice_split_none}
use Rattle.std.specs.List.{All}
use Rattle.std.proofs.Math.Seq.{get_or-append_seam, split_at, take-append_seam}
use Rattle.memchr.specs.Find.{NoneBefore, Nowhere, Passes, is_byte}
use Rattle.agg_pages.specs.input_text.SnapshotLines.{page_size_of}
use Rattle.agg_pages.specs.input_text.Lines.{all_lines_of}

-- ---- the carriage return

last_return : (l : List ℕ) → get_or l (length l - 1) 0 ≡ 13 → 0 < length l
last_return [] h = absurd (omega (arith, h))
last_return (c ∷ cs) h = omega arith

returned : (l : List ℕ) → get_or l (length l - 1) 0 ≡ 13 → l ≡ take (length l - 1) l ++ 13 ∷ []
returned l h =
    let some : 0 < length l = last_return l h in
    let e : length l - 1 + 1 ≡ length l = omega arith in
    sym (take_all (length l) l (omega arith)) ∙ ap (λ n. take n l) (sym e)
    ∙ take_more l (length l - 1) 0 (omega arith) ∙ ap (λ c. take (length l - 1) l ++ c ∷ []) h

strip_yes : (l : List ℕ) → get_or l (length l - 1) 0 ≡ 13
    → strip_carriage_return l ≡ take (length l - 1) l
strip_yes l h = rw (eq-eqb _ _ h)

strip_no : (l : List ℕ) → (get_or l (length l - 1) 0 ≡ 13 → ⊥) → strip_carriage_return l ≡ l
strip_no l h = grind (arith, nat_tests)

strip_end : (x : List ℕ) → strip_carriage_return (x ++ 13 ∷ []) ≡ x
strip_end x =
    let n : length (x ++ 13 ∷ []) - 1 ≡ length x = omega (arith, length-append x (13 ∷ [])) in
    strip_yes (x ++ 13 ∷ []) (rw n (get_or-append_seam x 13 [] 0))
    ∙ rw n (take-append_seam x (13 ∷ []))

-- what `strip_suffix` leaves is the line without its carriage return
pub stripped : (line : Bor (List ℕ)) (r : Option (Bor (List ℕ)))
    → MatchOption r ((prefix : List ℕ) → line.now ≢ prefix ++ 13 ∷ [])
    (λ x. line.now ≡ x.now ++ 13 ∷ []) → (unwrap_or r line).now ≡ strip_carriage_return line.now
stripped line None h =
    sym (strip_no line.now (λ e. h (take (length line.now - 1) line.now) (returned line.now e)))
stripped line (Some x) h = sym (ap strip_carriage_return h ∙ strip_end x.now)

-- ---- the line feed

no_feed : (b : ℕ) → b ≢ 10 → eqb b 10 ≡ false
no_feed b h = grind (arith, nat_tests)

feeds_none : (bs : List ℕ) → ((i : ℕ) → i < length bs → get_or bs i 0 ≢ 10)
    → All (λ b. eqb b 10 ≡ false) bs
feeds_none bs h =
    All-from_get_or (λ b. eqb b 10 ≡ false) bs 0 (λ i lt. no_feed (get_or bs i 0) (h i lt))

-- the first line ends at the first line feed
pub cut_at : (text line left : List ℕ) → text ≡ line ++ 10 ∷ left
    → ((i : ℕ) → i < length line → get_or line i 0 ≢ 10)
    → all_lines_of text ≡ strip_carriage_return line ∷ all_lines_of left
cut_at text line left e h =
    rw (e, slice_split_at (λ b. eqb b 10) line 10 left (feeds_none line h) refl)

-- a text without a line feed is one line
pub cut_none : (text : List ℕ) → ((i : ℕ) → i < length text → get_or text i 0 ≢ 10)
    → all_lines_of text ≡ strip_carriage_return text ∷ []
cut_none text h = rw (slice_split_none (λ b. eqb b 10) text (feeds_none text h))

-- ---- the place of the line feed

-- the first line feed of a text is at this place
abbrev pub FeedsAt : List ℕ → ℕ → Type 0
FeedsAt text feed =
    NoneBefore (Passes (is_byte 10) text) 0 (length text) feed × Passes (is_byte 10) text feed

-- at the place of the first line feed stands one
pub feed_there : (text : List ℕ) (feed : ℕ) → FeedsAt text feed → get_or text feed 0 ≡ 10
feed_there text feed found = eqb-true (get_or text feed 0) 10 found.1

-- the text on both sides of a line feed
around : (text : List ℕ) (feed : ℕ) → feed < length text → get_or text feed 0 ≡ 10
    → text ≡ take feed text ++ 10 ∷ drop (feed + 1) text
around text feed within here =
    split_at text feed 0 within
    ∙ ap (λ b. take feed text ++ b ∷ drop (suc feed) text) here
    ∙ ap (λ n. take feed text ++ 10 ∷ drop n text) (sym (add-one feed))

-- the first line ends there
pub cut_at_place : (text : List ℕ) (feed : ℕ) → FeedsAt text feed
    → all_lines_of text
    ≡ strip_carriage_return (take feed text) ∷ all_lines_of (drop (feed + 1) text)
cut_at_place text feed found =
    cut_at text (take feed text) (drop (feed + 1) text)
    (around text feed found.0.high (feed_there text feed found))
    (λ i within e.
    let before : i < feed = omega (arith, within, length-take feed text) in
    found.0.before i (omega arith) before
    (eq-eqb (get_or text i 0) 10 (sym (get_or-take feed text i 0 before) ∙ e)))

-- a text has no line feed
abbrev pub NoFeed : List ℕ → Type 0
NoFeed text = Nowhere (Passes (is_byte 10) text) 0 (length text)

-- a text without a line feed is one line
pub cut_nowhere : (text : List ℕ) → NoFeed text
    → all_lines_of text ≡ strip_carriage_return text ∷ []
cut_nowhere text none =
    cut_none text (λ i within e. none i (omega arith) within (eq-eqb (get_or text i 0) 10 e))

-- ---- the page size

-- what `parse` says of a text without a sign
pub page_size_is : {E : Type 0} (ds : List ℕ) (r : Result ℕ E)
    → OkIff r ((all_ascii_digits ds ≡ true) × (0 < length ds) × (digits_value 10 ds < 2 ^ 32))
    (digits_value 10 ds) → result_ok r ≡ page_size_of ds
page_size_is ds (Ok n) h = search (rules, nat_tests)
page_size_is ds (Err e) h = search (rules, nat_tests)
