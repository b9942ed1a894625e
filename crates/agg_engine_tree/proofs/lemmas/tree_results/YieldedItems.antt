-- A list that is gone over: what was yielded, and what is left.
use Rattle.std.proofs.Common.{◌≡◌, List, [], ◌∷◌, ◌++◌, sym, ap, ◌∙◌, append-nil, append_assoc}

module _ {X : Type 0} (whole yielded left : List X) (split : whole ≡ yielded ++ left) where
  module _ (next : X) (rest : List X) (goes : left ≡ next ∷ rest) where
    -- the next element comes after what was yielded
    pub next-split : whole ≡ yielded ++ next ∷ rest
    next-split = split ∙ ap (λ xs. yielded ++ xs) goes

    -- the next element is yielded after what was yielded
    pub next-yielded : whole ≡ (yielded ++ next ∷ []) ++ rest
    next-yielded = next-split ∙ sym (append_assoc yielded (next ∷ []) rest)

  -- in the end all was yielded
  pub all-yielded : left ≡ [] → yielded ≡ whole
  all-yielded none =
      sym (split ∙ ap (λ xs. yielded ++ xs) none ∙ append-nil yielded)
