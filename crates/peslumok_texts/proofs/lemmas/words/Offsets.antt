-- Where an interval ends and its offset begins.
use Rattle.std.proofs.Common.{◌≡◌, ◌<◌, ◌++◌, ℕ, List, [], ◌∷◌, Some, None, true, false}
use Rattle.std.proofs.Common.{arith, get_or, length, length-append, nat_lt, refl}
use Rattle.std.specs.List.{position, position_or_len}
use Rattle.std.specs.Str.{IsCharBoundary}
use Rattle.std.proofs.lemmas.Bool.Decides.{nat_tests}
use Rattle.std.proofs.lemmas.List.Quantifiers.{position-Some}
use Rattle.std.proofs.lemmas.Str.{IsCharBoundary-before_ascii}
use Rattle.peslumok_texts.specs.words.By.{LacksSigns, is_sign}

-- a sign is ASCII
is_sign-ascii : (b : ℕ) → is_sign b ≡ true → b < 128
is_sign-ascii b h = grind (arith, nat_tests, h)

-- a character begins at a sign
pub boundary_at_sign : (text : List ℕ) (i : ℕ) → position is_sign text ≡ Some i
    → IsCharBoundary text i
boundary_at_sign text i h =
    let at = position-Some is_sign text i 0 h in
    IsCharBoundary-before_ascii text i at.0 (is_sign-ascii (get_or text i 0) at.1)

no_place : (text : List ℕ) → LacksSigns text → position_or_len is_sign text ≡ length text
no_place [] lacks = refl
no_place (b ∷ bs) lacks =
    let more = no_place bs (lacks.0.1, lacks.1.1) in
    rw (lacks.0.0, lacks.1.0, more) (omega arith)

sign_place : (text : List ℕ) (b : ℕ) (bs : List ℕ) → LacksSigns text → is_sign b ≡ true
    → position_or_len is_sign (text ++ b ∷ bs) ≡ length text
sign_place [] b bs lacks sign = rw sign refl
sign_place (c ∷ cs) b bs lacks sign =
    let more = sign_place cs b bs (lacks.0.1, lacks.1.1) sign in
    rw (lacks.0.0, lacks.1.0, more) (omega arith)

-- no offset begins where there is no sign
pub no_sign : (text : List ℕ) → LacksSigns text → position is_sign text ≡ None
no_sign text lacks =
    let all = no_place text lacks in
    let test : nat_lt (length text) (length text) ≡ false = grind (arith, nat_tests) in
    rw (all, test) refl

-- an offset begins at its sign
pub first_sign : (text : List ℕ) (b : ℕ) (bs : List ℕ) → LacksSigns text → is_sign b ≡ true
    → position is_sign (text ++ b ∷ bs) ≡ Some (length text)
first_sign text b bs lacks sign =
    let place = sign_place text b bs lacks sign in
    let len = length-append text (b ∷ bs) in
    let test : nat_lt (length text) (length (text ++ b ∷ bs)) ≡ true =
    grind (arith, nat_tests, len) in
    rw (place, test) refl
