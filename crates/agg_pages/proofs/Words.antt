-- Lists of one word and of two.
use Rattle.std.proofs.Common.{◌≡◌, ◌≤◌, ◌<◌, List, [], ◌∷◌, get_or, length, sym, ap, arith}

pub one_word : {A : Type 0} (words : List A) (word : A) → 1 ≤ length words → length words < 2
    → word ≡ get_or words 0 word → words ≡ word ∷ []
one_word [] word some few is = absurd (omega arith)
one_word (w ∷ []) word some few is = ap (λ x. x ∷ []) (sym is)
one_word (w ∷ v ∷ words) word some few is = absurd (omega arith)

pub two_words : {A : Type 0} (words : List A) (first second : A) → 2 ≤ length words
    → length words < 3 → first ≡ get_or words 0 first → second ≡ get_or words 1 second
    → words ≡ first ∷ second ∷ []
two_words [] first second some few is next = absurd (omega arith)
two_words (w ∷ []) first second some few is next = absurd (omega arith)
two_words (w ∷ v ∷ []) first second some few is next = λ i. sym is i ∷ sym next i ∷ []
two_words (w ∷ v ∷ x ∷ words) first second some few is next = absurd (omega arith)
