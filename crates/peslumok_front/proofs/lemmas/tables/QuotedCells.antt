-- Cells of CSV between quotes, character by character.
use Rattle.std.proofs.Common.{◌≡◌, ◌<◌, ◌++◌, ℕ, List, [], ◌∷◌, ap, arith, get_or, length, lit<}
use Rattle.std.proofs.Common.{◌∙◌, append_assoc, ne_eqb, refl, sym}
use Rattle.std.proofs.lemmas.Grind.{get_or_default_zero}
use Rattle.std.proofs.lemmas.List.{append-nil}
use Rattle.std.proofs.lemmas.List.Folds.{list_any_none}
use Rattle.std.proofs.lemmas.Str.{encode_ascii, inside_one}
use Rattle.std.specs.Prelude.{◌==◌, encode_utf8}
use Rattle.csv.specs.Writing.{default_writer, escaped, quoted}
use Rattle.csv.proofs.WriteFacts.{escaped-append, escaped-none}
use Rattle.peslumok_front.proofs.lemmas.tables.Parts.{none-left, part-appended}

-- no byte of another character is a quote
not-quote : (c k d : ℕ) → (c ≡ 34 → ⊥) → k < length (encode_utf8 c)
    → get_or (encode_utf8 c) k d ≡ 34 → ⊥
not-quote c k d other less is =
    let at : get_or (encode_utf8 c) k 0 ≡ 34 =
    sym (get_or_default_zero (encode_utf8 c) k d less) ∙ is in
    let small : get_or (encode_utf8 c) k 0 < 128 = omega arith in
    other (inside_one c [] (encode_utf8 c) k (sym (append-nil (encode_utf8 c))) less small ∙ at)

-- a character that is no quote stays as it is
pub escaped-other : (c : ℕ) → (c ≡ 34 → ⊥)
    → escaped default_writer (encode_utf8 c) ≡ encode_utf8 c
escaped-other c other =
    escaped-none default_writer (encode_utf8 c) (list_any_none (λ b. b == 34) (encode_utf8 c)
    (λ k d less. ne_eqb (get_or (encode_utf8 c) k d) 34 (not-quote c k d other less)))

-- a quote is doubled
pub escaped-quote : (c : ℕ) → c ≡ 34 → escaped default_writer (encode_utf8 c) ≡ 34 ∷ 34 ∷ []
unfolding escaped
escaped-quote c is =
    ap (λ x. escaped default_writer (encode_utf8 x)) is
    ∙ ap (escaped default_writer) (encode_ascii 34 (lit< tt))

-- one more character of a cell
pub character-appended : (before after char rest text whole : List ℕ)
    → after ≡ before ++ escaped default_writer char
    → text ≡ char ++ rest
    → before ++ escaped default_writer text ≡ whole
    → after ++ escaped default_writer rest ≡ whole
character-appended before after char rest text whole a t w =
    part-appended before after (escaped default_writer char) (escaped default_writer rest)
    (escaped default_writer text) whole a
    (ap (escaped default_writer) t ∙ escaped-append default_writer char rest) w

nothing-escaped : (rest : List ℕ) → length rest ≡ 0 → escaped default_writer rest ≡ []
unfolding escaped
nothing-escaped [] e = refl
nothing-escaped (b ∷ rest) e = absurd (omega arith)

-- a cell between its quotes
pub quoted-appended : (start opened before closed cell rest : List ℕ)
    → opened ≡ start ++ 34 ∷ []
    → before ++ escaped default_writer rest ≡ opened ++ escaped default_writer cell
    → length rest ≡ 0
    → closed ≡ before ++ 34 ∷ []
    → closed ≡ start ++ quoted default_writer cell
quoted-appended start opened before closed cell rest o w none c =
    let all = none-left before (escaped default_writer rest) _ (nothing-escaped rest none) w in
    rw (c, all, o) (simp append_assoc)
