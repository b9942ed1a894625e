-- What nothing is.

-- nothing is such
abbrev pub NoneIs : {A : Type 0} → (A → Type 0) → Type 0
NoneIs {A = A} Is = (x : A) → ¬ (Is x)
