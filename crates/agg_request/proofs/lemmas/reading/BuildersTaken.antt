-- Builders that were passed by.
use Rattle.std.proofs.Common.{◌≡◌, ◌<◌, ◌≤◌, ◌+◌, ℕ, suc, List, ◌∷◌, ◌++◌, length, take, drop}
use Rattle.std.proofs.Common.{true, Option, None, Some, option_map, refl, sym, ap, ◌∙◌, arith}
use Rattle.std.proofs.Common.{bytes_eq, get_or, remove}
use Rattle.std.proofs.lemmas.List.{get_or_default, drop_more, drop_all}
use Rattle.agg_request.specs.reading.Builders.{taken}

-- what was passed by, before what is left
abbrev pub before : {B : Type 0} → List B → Option (B × List B) → Option (B × List B)
before passed found = option_map (λ t. (t.0, passed ++ t.1)) found

-- what is left where one is taken out
remove_is : {B : Type 0} (xs : List B) (i : ℕ) → i < length xs
    → remove xs i ≡ take i xs ++ drop (i + 1) xs
remove_is xs i h =
    let next : suc i ≡ i + 1 = omega arith in ap (λ n. take i xs ++ drop n xs) next

module _ {B : Type 0} (name_of : B → List ℕ) (name : List ℕ) (xs : List B) (i : ℕ) where
  -- the one of the name is taken out
  pub taken_at : (b x : B) → i < length xs → b ≡ get_or xs i b → x ≡ get_or xs i x
      → bytes_eq (name_of x) name ≡ true
      → taken name_of name xs ≡ before (take i xs) (taken name_of name (drop i xs))
      → Some (b, remove xs i) ≡ taken name_of name xs
  taken_at b x l is at named h =
      let same : x ≡ b = at ∙ get_or_default xs i x b l ∙ sym is in
      let here : drop i xs ≡ b ∷ drop (i + 1) xs =
      drop_more xs i b l ∙ ap (λ y. y ∷ drop (i + 1) xs) (sym is) in
      let mine : bytes_eq (name_of b) name ≡ true =
      ap (λ y. bytes_eq (name_of y) name) (sym same) ∙ named in
      sym (h ∙ rw (here, mine) (ap (λ ys. Some (b, ys)) (sym (remove_is xs i l))))

  -- none has the name
  pub taken_nowhere : length xs ≤ i
      → taken name_of name xs ≡ before (take i xs) (taken name_of name (drop i xs))
      → None ≡ taken name_of name xs
  taken_nowhere l h = sym (h ∙ rw (drop_all i xs l) refl)
