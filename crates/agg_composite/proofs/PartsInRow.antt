-- Functions of lists that give their parts in a row.
use Rattle.std.proofs.Common.{◌≡◌, ℕ, ◌+◌, ◌<◌, ◌≤◌, List, [], ◌∷◌, ◌++◌, length, get_or}
use Rattle.std.proofs.Common.{take, drop, sym, ap, ◌∙◌, length-append, arith}
use Rattle.std.proofs.lemmas.List.{take_more, take-append-drop}

-- what a list gives in two parts
abbrev pub Appends : {X Y : Type 0} → (List X → List Y) → Type 0
Appends {X} f = (xs ys : List X) → f (xs ++ ys) ≡ f xs ++ f ys

module _ {X Y : Type 0} (f : List X → List Y) (h : Appends f) (xs : List X) (i : ℕ) (d : X)
    (l : i < length xs) where
  -- what a front gives, one element on
  pub gives-more : f (take (i + 1) xs) ≡ f (take i xs) ++ f (get_or xs i d ∷ [])
  gives-more = ap f (take_more xs i d l) ∙ h (take i xs) (get_or xs i d ∷ [])

  pub length-more : length (f (take (i + 1) xs))
      ≡ length (f (take i xs)) + length (f (get_or xs i d ∷ []))
  length-more = ap length gives-more ∙ length-append (f (take i xs)) (f (get_or xs i d ∷ []))

  -- a front, the next element's part and those after it are what all give
  pub gives-all : f xs ≡ (f (take i xs) ++ f (get_or xs i d ∷ [])) ++ f (drop (i + 1) xs)
  gives-all =
      ap f (sym (take-append-drop (i + 1) xs))
      ∙ h (take (i + 1) xs) (drop (i + 1) xs)
      ∙ ap (λ ys. ys ++ f (drop (i + 1) xs)) gives-more

  -- a front and the next element's part give no more than all
  pub length-front : length (f (take i xs)) + length (f (get_or xs i d ∷ [])) ≤ length (f xs)
  length-front =
      let all = ap length gives-all
      ∙ length-append (f (take i xs) ++ f (get_or xs i d ∷ [])) (f (drop (i + 1) xs)) in
      let front = length-append (f (take i xs)) (f (get_or xs i d ∷ [])) in
      omega (arith, all, front)
