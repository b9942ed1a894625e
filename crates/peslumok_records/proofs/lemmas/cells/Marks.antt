-- A byte order mark at the start of a text.
use Rattle.std.proofs.Common.{◌≡◌, ℕ, Bool, true, false, List, [], ◌∷◌, Bor, cond, drop, eqb, take}
use Rattle.std.proofs.Common.{rules, Option, Some, None, MatchOption, unwrap_or, refl, sym, ap, ◌∙◌}
use Rattle.std.specs.Prelude.{◌&&◌, ◌+◌, length}
use Rattle.std.specs.Cmp.Lexicographic.{pointwise}
use Rattle.csv.specs.Reading.{is_bom, strip_bom}

-- the bytes of the mark
abbrev pub mark : List ℕ
mark = 0xEF ∷ 0xBB ∷ 0xBF ∷ []

same_tests : (x y z : Bool) → (x && (y && (z && true))) ≡ (x && y && z)
same_tests true true true = refl
same_tests true true false = refl
same_tests true false z = refl
same_tests false y z = refl

test_is : (a b c : ℕ) (rest : List ℕ)
    → pointwise eqb (take 3 (a ∷ b ∷ c ∷ rest)) mark ≡ is_bom a b c
test_is a b c rest = same_tests (eqb a 0xEF) (eqb b 0xBB) (eqb c 0xBF)

pub marked : (bytes : List ℕ) → pointwise eqb (take 3 bytes) mark ≡ true
    → drop 3 bytes ≡ strip_bom bytes
unfolding strip_bom
marked [] is = search rules
marked (a ∷ []) is = search rules
marked (a ∷ b ∷ []) is = search rules
marked (a ∷ b ∷ c ∷ rest) is =
    sym (ap (λ t. cond t rest (a ∷ b ∷ c ∷ rest)) (sym (test_is a b c rest) ∙ is))

pub unmarked : (bytes : List ℕ) → pointwise eqb (take 3 bytes) mark ≡ false
    → bytes ≡ strip_bom bytes
unfolding strip_bom
unmarked [] is = refl
unmarked (a ∷ []) is = refl
unmarked (a ∷ b ∷ []) is = refl
unmarked (a ∷ b ∷ c ∷ rest) is =
    sym (ap (λ t. cond t rest (a ∷ b ∷ c ∷ rest)) (sym (test_is a b c rest) ∙ is))

-- what `strip_prefix` leaves
pub stripped : (bytes : Bor (List ℕ)) (left : Option (Bor (List ℕ)))
    → MatchOption left (pointwise eqb (take 3 bytes.now) mark ≡ false)
    (λ rest. (pointwise eqb (take 3 bytes.now) mark ≡ true) × (rest.now ≡ drop 3 bytes.now)
    × (length rest.now + 3 ≡ length bytes.now))
    → (unwrap_or left bytes).now ≡ strip_bom bytes.now
stripped bytes None is = unmarked bytes.now is
stripped bytes (Some rest) is = is.1 ∙ marked bytes.now is.0
