-- The texts of addresses, in the words of std.
use Rattle.std.proofs.Common.{◌≡◌, ℕ, suc, ◌+◌, ◌/◌, ◌%◌, ◌^◌, ◌<◌, ◌≤◌, false, cond, ltb, List, []}
use Rattle.std.proofs.Common.{◌∷◌, ◌++◌, length, take, drop, refl, sym, ◌∙◌, arith, inl, inr}
use Rattle.std.proofs.Common.{le-leb, lt-ltb, le-ltb}
use Rattle.std.proofs.DigitsParse.{digits_onto-nil, digits_onto_last, digits_onto_step}
use Rattle.std.proofs.lemmas.Bool.{cases_lt, lt-leb}
use Rattle.std.proofs.lemmas.List.{append-nil}
use Rattle.std.proofs.NetLemmas.Texts.{AllSegments, AllSegments-take, AllSegments-drop}
use Rattle.std.specs.Fmt.{radix_digits, digits, digit_glyph}
use Rattle.std.specs.Net.Text as Text
use Rattle.agg_values.specs.Address.{first_run, longest_run, hex_groups}
use Rattle.agg_values.proofs.ZeroRuns.{first_run-same, longest_run-same}

-- a group's digits are those that std writes
hex_one : (n : ℕ) → n < 16 → digits 16 false n ≡ digit_glyph false (n % 16) ∷ []
hex_one n small = sym (digits_onto-nil 16 false n) ∙ digits_onto_last 16 false n [] 64 (omega arith)
    (omega arith)

hex_two : (n : ℕ) → 16 ≤ n → n < 256 → digits 16 false n ≡ digit_glyph false (n / 16 % 16)
    ∷ digit_glyph false (n % 16) ∷ []
hex_two n large small =
    sym (digits_onto-nil 16 false n) ∙ digits_onto_step 16 false n [] 64 (omega arith) (omega arith)
    ∙ digits_onto_last 16 false (n / 16) (digit_glyph false (n % 16) ∷ []) 63 (omega arith)
    (omega arith)

hex_three : (n : ℕ) → 256 ≤ n → n < 4096 → digits 16 false n ≡ digit_glyph false (n / 16 / 16 % 16)
    ∷ digit_glyph false (n / 16 % 16) ∷ digit_glyph false (n % 16) ∷ []
hex_three n large small =
    sym (digits_onto-nil 16 false n) ∙ digits_onto_step 16 false n [] 64 (omega arith) (omega arith)
    ∙ digits_onto_step 16 false (n / 16) (digit_glyph false (n % 16) ∷ []) 63 (omega arith)
    (omega arith)
    ∙ digits_onto_last 16 false (n / 16 / 16) (digit_glyph false (n / 16 % 16)
    ∷ digit_glyph false (n % 16) ∷ []) 62 (omega arith) (omega arith)

hex_four : (n : ℕ) → 4096 ≤ n → n < 65536
    → digits 16 false n ≡ digit_glyph false (n / 16 / 16 / 16 % 16)
    ∷ digit_glyph false (n / 16 / 16 % 16) ∷ digit_glyph false (n / 16 % 16)
    ∷ digit_glyph false (n % 16) ∷ []
hex_four n large small =
    sym (digits_onto-nil 16 false n) ∙ digits_onto_step 16 false n [] 64 (omega arith) (omega arith)
    ∙ digits_onto_step 16 false (n / 16) (digit_glyph false (n % 16) ∷ []) 63 (omega arith)
    (omega arith)
    ∙ digits_onto_step 16 false (n / 16 / 16) (digit_glyph false (n / 16 % 16)
    ∷ digit_glyph false (n % 16) ∷ []) 62 (omega arith) (omega arith)
    ∙ digits_onto_last 16 false (n / 16 / 16 / 16) (digit_glyph false (n / 16 / 16 % 16)
    ∷ digit_glyph false (n / 16 % 16) ∷ digit_glyph false (n % 16) ∷ []) 61 (omega arith)
    (omega arith)

hex-same : (n : ℕ) → n < 2 ^ 16 → Text.hex n ≡ radix_digits 16 false n
unfolding Text.hex
hex-same n fits =
    let third : n / 16 / 16 % 16 ≡ n / 256 % 16 = omega arith in
    let fourth : n / 16 / 16 / 16 % 16 ≡ n / 4096 = omega arith in
    elim (cases_lt n 0x1000) [
      | inr four ↦ rw (le-leb _ n four) (rw (hex_four n four fits, third, fourth))
      | inl h₃ ↦ elim (cases_lt n 0x100) [
        | inr three ↦ rw (lt-leb _ n h₃, le-leb _ n three) (rw (hex_three n three h₃, third))
        | inl h₂ ↦ elim (cases_lt n 0x10) [
          | inr two ↦ rw (lt-leb _ n h₃, lt-leb _ n h₂, le-leb _ n two) (rw (hex_two n two h₂))
          | inl h₁ ↦ rw (lt-leb _ n h₃, lt-leb _ n h₂, lt-leb _ n h₁) (rw (hex_one n h₁))
        ]
      ]
    ]

-- groups with colons between them
groups_text-cons : (x : ℕ) (xs : List ℕ) → x < 2 ^ 16 → AllSegments xs
    → Text.groups_text (x ∷ xs) ≡ hex_groups (x ∷ xs)
groups_text-cons x [] first rest = append-nil (Text.hex x) ∙ hex-same x first
groups_text-cons x (y ∷ ys) first rest =
    let others = groups_text-cons y ys (rest 0) (λ k. rest (suc k)) in
    λ i. hex-same x first i ++ (58 ∷ others i)

groups_text-same : (xs : List ℕ) → AllSegments xs → Text.groups_text xs ≡ hex_groups xs
groups_text-same [] fits = refl
groups_text-same (x ∷ xs) fits = groups_text-cons x xs (fits 0) (λ k. fits (suc k))

-- a text of groups, with its longest run of zeros at a place
abbrev with_run : List ℕ → ℕ → ℕ → List ℕ
with_run groups at run = cond (ltb run 2) (hex_groups groups) (hex_groups (take at groups) ++ (58
    ∷ 58 ∷ []) ++ hex_groups (drop (at + run) groups))

shown_same : (xs : List ℕ) (at run : ℕ) → AllSegments xs → Text.compressed_text xs (at, run)
    ≡ with_run xs at run
shown_same xs at run fits =
    elim (cases_lt 1 run) [
      | inl long ↦ rw (lt-ltb 1 run long, le-ltb run 2 (omega arith)) (λ i.
          groups_text-same (take at xs) (AllSegments-take at xs fits) i ++ (58 ∷ 58 ∷ []) ++
          groups_text-same (drop (at + run) xs) (AllSegments-drop (at + run) xs fits) i)
      | inr short ↦ rw (le-ltb 1 run short, lt-ltb run 2 (omega arith)) (groups_text-same xs fits)
    ]

pub hex_groups_text-same : (xs : List ℕ) → length xs ≡ 8 → AllSegments xs
    → Text.hex_groups_text xs ≡ with_run xs (first_run xs) (longest_run xs)
unfolding Text.hex_groups_text
hex_groups_text-same xs eight fits =
    shown_same xs (Text.longest_zero_run xs).0 (Text.longest_zero_run xs).1 fits
    ∙ (λ i. with_run xs (sym (first_run-same xs eight) i) (sym (longest_run-same xs eight) i))
