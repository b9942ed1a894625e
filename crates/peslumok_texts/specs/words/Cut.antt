-- Texts that are cut at the first of a byte or of a word.
use Rattle.std.specs.Prelude.{◌≡◌, ℕ, List, [], ◌∷◌, drop, length, ◌==◌, nat_eq, nat_lt, false, ⊤}
use Rattle.std.specs.Prelude.{if◌then◌else◌, Option, Some, None}
use Rattle.std.specs.List.{before_first, after_first, position_or_len, starts_with}

-- a text up to a byte
abbrev pub before : ℕ → List ℕ → List ℕ
before c text = before_first (λ b. b == c) text

-- and what stands after it
abbrev pub after : ℕ → List ℕ → List ℕ
after c text = after_first (λ b. b == c) text

-- how far a text goes up to a byte, or all of it
abbrev pub place_of : ℕ → List ℕ → ℕ
place_of c text = position_or_len (λ b. b == c) text

-- a text up to the first of a byte, and what stands after that where it is there
abbrev pub cut : ℕ → List ℕ → List ℕ × Option (List ℕ)
cut c text =
    if nat_lt (place_of c text) (length text) then (before c text, Some (after c text))
    else (text, None)

-- a text up to the first of a word, and what stands after that where it is there
abbrev pub cut_at : List ℕ → List ℕ → List ℕ × Option (List ℕ)
cut_at word [] = ([], None)
cut_at word (b ∷ bs) =
    if starts_with nat_eq (b ∷ bs) word then ([], Some (drop (length word) (b ∷ bs)))
    else (b ∷ (cut_at word bs).0, (cut_at word bs).1)

-- a byte does not stand in a text
abbrev pub Lacks : ℕ → List ℕ → Type 0
Lacks c [] = ⊤
Lacks c (b ∷ bs) = ((b == c) ≡ false) × Lacks c bs

-- a byte does not stand in a part that may be left out
abbrev pub LacksIfAny : ℕ → Option (List ℕ) → Type 0
LacksIfAny c None = ⊤
LacksIfAny c (Some text) = Lacks c text
