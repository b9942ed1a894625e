-- What the elements of a list give, one after another.
use Rattle.std.proofs.Common.{◌≡◌, ◌∙◌, sym, ap, ℕ, ◌+◌, ◌<◌, List, [], ◌∷◌, ◌++◌, length, take}
use Rattle.std.proofs.Common.{drop, get_or, append-nil}
use Rattle.std.specs.List.{flat_map}
use Rattle.std.proofs.lemmas.List.{take-append-drop, take_more}
use Rattle.std.proofs.lemmas.List.Concat.{flat_map-append}

module _ {X Y : Type 0} (f : X → List Y) (xs : List X) (i : ℕ) where
  -- what one element more gives
  pub next-part : (x : X) → i < length xs → x ≡ get_or xs i x
      → flat_map f (take i xs) ++ f x ≡ flat_map f (take (i + 1) xs)
  next-part x within is =
      sym (ap (flat_map f) (take_more xs i x within ∙ ap (λ y. take i xs ++ y ∷ []) (sym is))
      ∙ flat_map-append f (take i xs) (x ∷ [])
      ∙ ap (λ ys. flat_map f (take i xs) ++ ys) (append-nil (f x)))

  -- what they give, and what the rest gives
  pub both-parts : flat_map f (take i xs) ++ flat_map f (drop i xs) ≡ flat_map f xs
  both-parts =
      sym (flat_map-append f (take i xs) (drop i xs)) ∙ ap (flat_map f) (take-append-drop i xs)
