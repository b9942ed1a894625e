-- A loop that looks for an element of a list of which something holds.
use Rattle.std.proofs.Common.{◌≡◌, zero, suc, List, [], ◌∷◌, refl, sym}
use Rattle.std.proofs.Common.{subst, ◌⊎◌, inl, inr, arith}
use Rattle.std.specs.List.{Any}

module _ {A : Type 0} (P : A → Type 0) where
  -- what holds of some element holds of the first, or of a later one
  pub Any-cases : (x : A) (later : List A) → Any P (x ∷ later) → P x ⊎ Any P later
  Any-cases x later (zero, y, within, at, holds) = inl (subst P (sym at) holds)
  Any-cases x later (suc k, y, within, at, holds) = inr (k, y, omega arith, at, holds)

  pub Any-later : (x : A) (later : List A) → Any P later → Any P (x ∷ later)
  Any-later x later (k, y, within, at, holds) = (suc k, y, omega arith, at, holds)

  -- it holds of none before what is left
  pub record IsLeft (all left : List A) : Type 0 where
    pub whole : Any P left → Any P all
    pub rest : Any P all → Any P left

  -- at first all is left
  pub IsLeft-all : (all left : List A) → left ≡ all → IsLeft all left
  IsLeft-all all left e = record { whole = subst (Any P) e; rest = subst (Any P) (sym e) }

  -- it doesn't hold of the first that is left
  pub IsLeft-more : (all left : List A) (x : A) (later : List A) → IsLeft all left
      → left ≡ x ∷ later → ¬ (P x) → IsLeft all later
  IsLeft-more all left x later h e none =
      let here : IsLeft all (x ∷ later) = subst (IsLeft all) e h in
      record {
        whole = λ any. here.whole (Any-later x later any);
        rest = λ any. elim (Any-cases x later (here.rest any)) [
          | inl holds ↦ absurd (none holds)
          | inr rest ↦ rest
        ];
      }

  -- it holds of the first that is left
  pub IsLeft-found : (all left : List A) (x : A) (later : List A) → IsLeft all left
      → left ≡ x ∷ later → P x → Any P all
  IsLeft-found all left x later h e holds =
      h.whole (subst (Any P) (sym e) (0, x, omega arith, refl, holds))

  -- nothing is left
  pub IsLeft-none : (all left : List A) → IsLeft all left → left ≡ [] → ¬ (Any P all)
  IsLeft-none all left h e any =
      let none : Any P [] = subst (Any P) e (h.rest any) in
      absurd (omega (arith, none.2))
