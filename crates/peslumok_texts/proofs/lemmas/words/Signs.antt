-- Where a text may be cut at a sign.
use Rattle.std.proofs.Common.{◌≡◌, ◌≢◌, ◌<◌, ◌==◌, ◌∙◌, ◌∷◌, ℕ, List, Option, Some, None, true}
use Rattle.std.proofs.Common.{false, arith, get_or, length, take, drop, drop-cons, option_map, suc}
use Rattle.std.proofs.Common.{refl, ap, subst, sym, slice_index, IsSomeAnd}
use Rattle.std.proofs.lemmas.Option.{none-some, same_Some}
use Rattle.std.proofs.lemmas.Bool.Decides.{nat_tests}
use Rattle.std.proofs.lemmas.Str.{IsCharBoundary-before_ascii}
use Rattle.std.proofs.lemmas.List.Quantifiers.{position-Some}
use Rattle.std.specs.List.{position}
use Rattle.std.specs.Str.{IsCharBoundary}
use Rattle.peslumok_texts.specs.words.Condition.{Demand, LacksTest, after_prefix, at_sign}
use Rattle.peslumok_texts.specs.words.Condition.{demand_or, is_sign, test_of}

-- a sign is ASCII
is_sign-ascii : (b : ℕ) → is_sign b ≡ true → b < 128
is_sign-ascii b h = grind (arith, nat_tests, h)

-- a character begins at a sign
pub boundary_at_sign : (text : List ℕ) (i : ℕ) → position is_sign text ≡ Some i
    → IsCharBoundary text i
boundary_at_sign text i h =
    let at = position-Some is_sign text i 0 h in
    IsCharBoundary-before_ascii text i at.0 (is_sign-ascii (get_or text i 0) at.1)

-- a sign begins what stands after the field
rest_begins : (text field rest : List ℕ) (at : Option ℕ) → position is_sign text ≡ at
    → option_map {U = List ℕ × List ℕ} (λ i. (take i text, drop i text)) at ≡ Some (field, rest)
    → (b : ℕ) × (bs : List ℕ) × (rest ≡ b ∷ bs) × (is_sign b ≡ true)
rest_begins text field rest None at is = absurd (none-some _ is)
rest_begins text field rest (Some i) at is =
    let found = position-Some is_sign text i 0 at in
    let rest_is : drop i text ≡ rest = ap (λ (x : List ℕ × List ℕ). x.1) (same_Some _ _ is) in
    (get_or text i 0, drop (suc i) text, sym rest_is ∙ drop-cons text i 0 found.0, found.1)

-- a demand stands for a test, whatever is tried before it
demand_or-Some : (o : Option (List ℕ)) (other : List ℕ → Demand) (demand : Demand)
    → demand_or o other (Some demand) ≢ None
demand_or-Some None other demand h = cc
demand_or-Some (Some value) other demand h = cc

-- a sign that is no `!` and begins no test is `?`
is_question : (b : ℕ) (bs : List ℕ) → is_sign b ≡ true → test_of (b ∷ bs) ≡ None
    → (b == 33) ≡ false → b ≡ 63
unfolding after_prefix
is_question b bs sign none other =
    let at : (x : ℕ) → b ≡ x → test_of (x ∷ bs) ≡ None =
    λ x is. subst (λ (x : ℕ). test_of (x ∷ bs) ≡ None) is none in
    let no_is : b ≢ 61 = λ e. let h = at 61 e in cc in
    let no_below : b ≢ 60 = λ e. demand_or-Some _ _ _ (at 60 e) in
    let no_above : b ≢ 62 = λ e. demand_or-Some _ _ _ (at 62 e) in
    grind (arith, nat_tests, sign, other)

-- where a `?` is followed by more
pub more_after_question : (text field rest : List ℕ) → Some (field, rest) ≡ at_sign text
    → (length field == 0) ≡ false → None ≡ test_of rest → (slice_index rest 0 == 33) ≡ false
    → IsSomeAnd (at_sign text) (LacksTest 63)
more_after_question text field rest is filled none other =
    let (b, bs, shape, sign) = rest_begins text field rest _ refl (sym is) in
    let question = is_question b bs sign (subst (λ (r : List ℕ). test_of r ≡ None) shape (sym none))
    (subst (λ (r : List ℕ). (slice_index r 0 == 33) ≡ false) shape other) in
    let lacks : LacksTest 63 (field, rest) = record {
      some_field = grind (arith, nat_tests, filled);
      sign_after = rw (shape, question) refl;
      no_test = sym none;
    } in
    subst (λ (o : Option (List ℕ × List ℕ)). IsSomeAnd o (LacksTest 63)) is lacks
