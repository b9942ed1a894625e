-- Names that are kept by their numbers.
use Rattle.std.proofs.Common.{◌≡◌, ◌<◌, ℕ, List, [], ◌∷◌, ◌++◌, Some, None, length, get_or}
use Rattle.std.proofs.Common.{cond, true, false, refl, sym, ap, ◌∙◌, inl, inr, arith}
use Rattle.std.proofs.Common.{length-append}
use Rattle.std.specs.Prelude.{Bool}
use Rattle.std.specs.Str.{bytes_eq}
use Rattle.std.proofs.lemmas.Bool.{cases_lt}
use Rattle.std.proofs.lemmas.List.{get_or_append_left, get_or_push}
use Rattle.agg_segment.specs.storage.Cells.{number_of}
use Rattle.agg_segment.specs.storage.FirstNames.{AreFirst}
use Rattle.agg_segment.proofs.lemmas.storage.Places.{same_texts}

-- the first names stay so when another name is given a number
pub still_first : (first : List (List ℕ)) (old new : List (List ℕ × ℕ)) (name : List ℕ)
    (number : ℕ) → AreFirst first old → number_of old name ≡ None
    → ((other : List ℕ) → number_of new other
    ≡ cond (bytes_eq name other) (Some number) (number_of old other))
    → AreFirst first new
still_first first old new name number are none more k d l =
    more (get_or first k d) ∙ by_test (bytes_eq name (get_or first k d)) refl
  where
    by_test : (b : Bool) → bytes_eq name (get_or first k d) ≡ b
        → cond b (Some number) (number_of old (get_or first k d)) ≡ Some k
    by_test true is =
        let both : None ≡ Some k = sym none
        ∙ ap (number_of old) (same_texts name (get_or first k d) is) ∙ are k d l in
        cc
    by_test false is = are k d l

-- one more name with its place as its number
pub one_more_first : (first : List (List ℕ)) (names : List (List ℕ × ℕ)) (name : List ℕ)
    → AreFirst first names → number_of names name ≡ Some (length first)
    → AreFirst (first ++ name ∷ []) names
one_more_first first names name are is k d l = elim (cases_lt k (length first)) [
  | inl before ↦ ap (number_of names) (get_or_append_left first (name ∷ []) d k before)
      ∙ are k d before
  | inr past ↦
      let last : length first ≡ k = omega (arith, past, l, length-append first (name ∷ [])) in
      ap (number_of names) (get_or_push first name d k last) ∙ is ∙ ap (λ n. Some n) last
]

-- a name that equals a first name has its number
pub guessed : (first : List (List ℕ)) (names : List (List ℕ × ℕ)) (name guess : List ℕ) (k : ℕ)
    → AreFirst first names → k < length first → guess ≡ get_or first k guess
    → bytes_eq guess name ≡ true → number_of names name ≡ Some k
guessed first names name guess k are l at is =
    ap (number_of names) (sym (same_texts guess name is) ∙ at) ∙ are k guess l

-- the first names after a name is kept, if there is memory for it
pub first_after : (first : List (List ℕ)) (names : List (List ℕ × ℕ)) (name text : List ℕ)
    (kept : Bool) (now : List (List ℕ)) → AreFirst first names
    → number_of names name ≡ Some (length first) → text ≡ name
    → now ≡ cond kept (first ++ text ∷ []) first → AreFirst now names
first_after first names name text true now are has same is = rw is (one_more_first first names text
    are (ap (number_of names) same ∙ has))
first_after first names name text false now are has same is = rw is are
