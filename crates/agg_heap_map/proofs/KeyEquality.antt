-- Keys that are equal are those that compare as equal.
use Rattle.std.proofs.Common.{◌≡◌, Bool, List, subst, Ordering}
use Rattle.std.specs.List.{IsDistinct}
use Rattle.std.specs.Ordering.{eq_by_cmp}

module _ {K : Type 0} (R : K → K → Ordering) (eq : K → K → Bool)
    (ties : (k l : K) → eq k l ≡ eq_by_cmp R k l) where
  by_cmp : eq ≡ eq_by_cmp R
  by_cmp i k l = ties k l i

  pub once_by_cmp : (ks : List K) → IsDistinct eq ks → IsDistinct (eq_by_cmp R) ks
  once_by_cmp ks once = subst (λ e. IsDistinct e ks) by_cmp once
