-- Tests, and two of them together.
use Rattle.std.proofs.Common.{◌≡◌, ◌||◌, ◌&&◌, ◌⊎◌, Bool, true, false, refl, inl, inr}

-- a test answers true or false
pub by_answer : (t : Bool) → (t ≡ true) ⊎ (t ≡ false)
by_answer true = inl refl
by_answer false = inr refl

-- what isn't true is false
pub not_true : (t : Bool) → (t ≡ true → ⊥) → t ≡ false
not_true true never = absurd (never refl)
not_true false never = refl

pub absorbed : (s t : Bool) → (s ≡ true → t ≡ true) → t ≡ (s || t)
absorbed true t implied = implied refl
absorbed false t implied = refl

pub second : (s t : Bool) → (s || t) ≡ true → s ≡ false → t ≡ true
second true t either not = absurd (cc)
second false t either not = either

pub weaker : (s t u : Bool) → (s || t) ≡ true → (t ≡ true → u ≡ true) → (s || u) ≡ true
weaker true t u either implied = refl
weaker false t u either implied = implied either

pub neither : (s t : Bool) → (s || t) ≡ false → (s ≡ false) × (t ≡ false)
neither true t none = absurd (cc)
neither false t none = (refl, none)

pub known : (s t : Bool) → s ≡ true → (s || t) ≡ true
known true t is = refl
known false t is = absurd (cc)

pub added : (s t : Bool) → t ≡ true → (s || t) ≡ true
added true t is = refl
added false t is = is

-- both of two tests pass
pub both : (s t : Bool) → (s && t) ≡ true → (s ≡ true) × (t ≡ true)
both true t pass = (refl, pass)
both false t pass = absurd (cc)

pub clash : (t : Bool) → t ≡ true → t ≡ false → ⊥
clash true is none = cc
clash false is none = cc
