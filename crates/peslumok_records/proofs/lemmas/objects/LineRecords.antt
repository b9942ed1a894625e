-- Lines that were cut off a text, one more at the end.
use Rattle.std.proofs.Common.{◌≡◌, ℕ, Bool, true, false, List, [], ◌∷◌, ◌++◌, Bor, cond, map}
use Rattle.std.proofs.Common.{◌<◌, ◌+◌, ◌∙◌, ap, arith, drop, get_or, length, min, suc, sym, take}
use Rattle.std.specs.Prelude.{filter, not}
use Rattle.std.proofs.Math.Seq.{split_at}
use Rattle.std.proofs.lemmas.List.{length-append, length-map, map-append}
use Rattle.std.proofs.lemmas.List.Elements.{filter-append}
use Rattle.peslumok_records.specs.objects.Lines.{is_blank, without_blank}

-- lines that were cut off a text
abbrev pub texts_of : List (Bor (List ℕ)) → List (List ℕ)
texts_of lines = map (λ line. line.now) lines

one_left : {X : Type 0} (p : X → Bool) (x : X) → p x ≡ true → filter p (x ∷ []) ≡ x ∷ []
one_left p x is = ap (λ b. cond b (x ∷ []) []) is

with_last : (lines : List (Bor (List ℕ))) (line : Bor (List ℕ))
    → without_blank (texts_of (lines ++ line ∷ []))
    ≡ without_blank (texts_of lines) ++ without_blank (line.now ∷ [])
with_last lines line =
    ap without_blank (map-append (λ l. l.now) lines (line ∷ []))
    ∙ filter-append (λ line. not (is_blank line)) (texts_of lines) (line.now ∷ [])

-- a line more that isn't blank
pub filled_line : (lines : List (Bor (List ℕ))) (line : Bor (List ℕ))
    → is_blank line.now ≡ false
    → without_blank (texts_of (lines ++ line ∷ []))
    ≡ without_blank (texts_of lines) ++ line.now ∷ []
filled_line lines line filled =
    with_last lines line
    ∙ ap (λ ls. without_blank (texts_of lines) ++ ls)
    (one_left (λ line. not (is_blank line)) line.now (ap not filled))

-- one line more is counted
counts_on : (number lines more most : ℕ) → number ≡ min lines most → more ≡ lines + 1
    → min (number + 1) most ≡ min more most
counts_on number lines more most counted one = omega (arith, counted, one)

pub counted_more : (lines : List (Bor (List ℕ))) (line : Bor (List ℕ)) (number most : ℕ)
    → number ≡ min (length lines) most
    → min (number + 1) most ≡ min (length (lines ++ line ∷ [])) most
counted_more lines line number most counted =
    counts_on number (length lines) (length (lines ++ line ∷ [])) most counted
    (omega (arith, length-append lines (line ∷ [])))

pub counted_after : (lines : List (Bor (List ℕ))) (number most : ℕ)
    → number ≡ min (length lines) most
    → min (number + 1) most ≡ min (length (texts_of lines) + 1) most
counted_after lines number most counted =
    counts_on number (length lines) (length (texts_of lines) + 1) most counted
    (omega (arith, length-map lines (λ line. line.now)))

-- all lines, around the one that comes next
pub around_next : (all : List (List ℕ)) (lines : List (Bor (List ℕ))) (line : List ℕ)
    → length lines < length all → line ≡ get_or all (length lines) line
    → texts_of lines ≡ take (length lines) all
    → all ≡ texts_of lines ++ line ∷ drop (suc (length lines)) all
around_next all lines line within is so_far =
    split_at all (length lines) line within
    ∙ ap (λ l. take (length lines) all ++ l ∷ drop (suc (length lines)) all) (sym is)
    ∙ ap (λ ls. ls ++ line ∷ drop (suc (length lines)) all) (sym so_far)
