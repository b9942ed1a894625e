-- A key above ascending keys.
use Rattle.std.proofs.Common.{◌≡◌, List, [], ◌∷◌, ◌++◌, Ordering, Less, sym, subst}
use Rattle.std.specs.List.{All, AllByRecursion}
use Rattle.std.specs.List.Sorted.{IsStrictlySortedBy}
use Rattle.std.specs.Map.{keys_of}
use Rattle.std.proofs.lemmas.List.{map-append}
use Rattle.std.proofs.lemmas.List.Elements.{recursion_from_All}

-- what holds of each and of one more holds of all
all-more : {X : Type 0} (P : X → Type 0) (xs : List X) (x : X)
    → AllByRecursion P xs → P x → AllByRecursion P (xs ++ x ∷ [])
all-more P [] x all one = (one, tt)
all-more P (y ∷ ys) x all one = (all.0, all-more P ys x all.1 one)

module _ {K : Type 0} (R : K → K → Ordering) where
  ascending-more : (ks : List K) (k : K) → IsStrictlySortedBy R ks
      → AllByRecursion (λ l. R l k ≡ Less) ks → IsStrictlySortedBy R (ks ++ k ∷ [])
  unfolding IsStrictlySortedBy
  ascending-more [] k up below = (tt, tt)
  ascending-more (l ∷ ls) k up below =
      (all-more (λ y. R l y ≡ Less) ls k up.0 below.0, ascending-more ls k up.1 below.1)

  -- an entry above all others may stand after them
  pub sorted-last : {X : Type 0} (es : List (K × X)) (k : K) (x : X)
      → IsStrictlySortedBy R (keys_of es) → All (λ l. R l k ≡ Less) (keys_of es)
      → IsStrictlySortedBy R (keys_of (es ++ (k, x) ∷ []))
  sorted-last es k x up below =
      subst (IsStrictlySortedBy R) (sym (map-append (λ e. e.0) es ((k, x) ∷ [])))
      (ascending-more (keys_of es) k up
      (recursion_from_All (λ l. R l k ≡ Less) (keys_of es) below))
