-- Texts that are appended part by part.
use Rattle.std.proofs.Common.{◌≡◌, ◌++◌, ℕ, List, [], ◌∷◌, ap, append_assoc, sym}
use Rattle.std.proofs.Common.{◌∙◌}
use Rattle.std.proofs.lemmas.List.{append-nil}

-- the whole stays the same while one more part is appended
pub part-appended : (before after part rest all whole : List ℕ)
    → after ≡ before ++ part
    → all ≡ part ++ rest
    → before ++ all ≡ whole
    → after ++ rest ≡ whole
part-appended before after part rest all whole a p w =
    rw a (append_assoc before part rest ∙ ap (λ t. before ++ t) (sym p) ∙ w)

-- nothing is left
pub none-left : (before rest whole : List ℕ) → rest ≡ [] → before ++ rest ≡ whole → before ≡ whole
none-left before rest whole none w =
    sym (append-nil before) ∙ ap (λ t. before ++ t) (sym none) ∙ w

-- a byte is appended
pub byte-appended : (new old char : List ℕ) (byte : ℕ) → new ≡ old ++ char → char ≡ byte ∷ []
    → new ≡ old ++ byte ∷ []
byte-appended new old char byte n c = n ∙ ap (λ t. old ++ t) c
