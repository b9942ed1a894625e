-- Whether a quote may be open in the last cell of a text, by the cell and the text's end.
use Rattle.std.proofs.Common.{◌≡◌, ◌+◌, ◌-◌, ◌∙◌, ◌∷◌, ◌++◌, Bor, MatchOption, [], append_assoc}
use Rattle.std.proofs.Common.{drop, eqb, false, inl, inr, length, List, refl, sym, take, true, ℕ}
use Rattle.std.specs.Cmp.Lexicographic.{pointwise}
use Rattle.std.specs.List.{ends_with, list_any}
use Rattle.std.specs.Prelude.{◌==◌, Option, Some, None}
use Rattle.std.proofs.lemmas.Bool.Decides.{Decides-eqb}
use Rattle.std.proofs.lemmas.List.{append_cancel_right}
use Rattle.std.proofs.lemmas.Slice.Eq.{ends_is, strip_suffix_is}
use mathlib.Core.Bool.{true≢false}
use Rattle.peslumok_records.specs.cells.Quotes.{MayBeOpenIn}

-- what `strip_suffix` says of a text and a cell
abbrev pub Strips : List ℕ → List ℕ → Option (Bor (List ℕ)) → Type 0
Strips text cell left =
    MatchOption left (pointwise eqb (drop (length text - length cell) text) cell ≡ false)
    (λ front. (pointwise eqb (drop (length text - length cell) text) cell ≡ true)
    × (front.now ≡ take (length text - length cell) text)
    × (length front.now + length cell ≡ length text))

pub no_suffix : (text cell : List ℕ) → list_any (λ b. b == 34) cell ≡ false
    → Strips text cell None → ¬ (MayBeOpenIn text cell)
no_suffix text cell none strips (inl has) = true≢false (sym has ∙ none)
no_suffix text cell none strips (inr (front, is)) =
    strip_suffix_is Decides-eqb text cell None strips (front ++ 34 ∷ [])
    (is ∙ sym (append_assoc front (34 ∷ []) cell))

pub no_quote_before : (text cell : List ℕ) (before : Bor (List ℕ))
    → list_any (λ b. b == 34) cell ≡ false → Strips text cell (Some before)
    → ends_with eqb before.now (34 ∷ []) ≡ false → ¬ (MayBeOpenIn text cell)
no_quote_before text cell before none strips no_quote (inl has) = true≢false (sym has ∙ none)
no_quote_before text cell before none strips no_quote (inr (front, is)) =
    let same : before.now ≡ front ++ 34 ∷ [] =
    append_cancel_right before.now (front ++ 34 ∷ []) cell
    (sym (strip_suffix_is Decides-eqb text cell (Some before) strips) ∙ is
    ∙ sym (append_assoc front (34 ∷ []) cell)) in
    let quote = (ends_is Decides-eqb before.now (34 ∷ [])
    (ends_with eqb before.now (34 ∷ [])) refl).1 front same in
    true≢false (sym quote ∙ no_quote)
