-- Sums and products of numbers that are cut at each step.
use Rattle.std.proofs.Common.{◌≡◌, ℕ, zero, suc, ◌+◌, ◌-◌, ◌*◌, ◌^◌, ◌<◌, ◌≤◌, List, [], ◌∷◌, inl}
use Rattle.std.proofs.Common.{inr, min, map, fold, sym, ap, ◌∙◌, arith}
use Rattle.std.specs.Prelude.{sum}
use Rattle.std.specs.Io.Iter.{u64_saturate}
use Rattle.std.proofs.Math.Nat.{mul_comm, mul-zero, le-mul_of_pos_right, min-eq_left, min-eq_right}
use Rattle.std.proofs.lemmas.Bool.{cases_lt}
use Rattle.std.proofs.lemmas.List.Sums.{sum_by-cons}

-- a product that is cut at each step is the product, cut
cut-product : (a b most : ℕ) → min (min a most * b) most ≡ min (a * b) most
cut-product a zero most = ap (λ n. min n most) (mul-zero (min a most) ∙ sym (mul-zero a))
cut-product a (suc b) most = elim (cases_lt a most) [
  | inl below ↦ let l : a ≤ most = omega arith in ap (λ n. min (n * suc b) most) (min-eq_left l)
  | inr above ↦
      let cut : min a most ≡ most = min-eq_right above in
      let positive : 0 < suc b = omega arith in
      let kept : most ≤ most * suc b = le-mul_of_pos_right most positive in
      let greater : most ≤ a * suc b = let more = le-mul_of_pos_right a positive in
      omega (arith, more, above) in
      ap (λ n. min (n * suc b) most) cut ∙ min-eq_right kept ∙ sym (min-eq_right greater)
]

-- the product of two cut factors, cut, is their product, cut
pub cut-factors : (a b most : ℕ) → min (min a most * min b most) most ≡ min (a * b) most
cut-factors a b most =
    cut-product a (min b most) most
    ∙ ap (λ n. min n most) (mul_comm a (min b most))
    ∙ cut-product b a most
    ∙ ap (λ n. min n most) (mul_comm b a)

-- a sum of cut numbers is the sum, cut
pub cut-sum : (a b most : ℕ) → min (min a most + min b most) most ≡ min (a + b) most
cut-sum a b most = omega arith

-- a sum of many cut numbers is their sum, cut
pub cut-total : (a : ℕ) (ns : List ℕ)
    → fold (λ s n. u64_saturate (s + n)) (u64_saturate a) (map u64_saturate ns)
    ≡ u64_saturate (a + sum ns)
cut-total a [] = ap u64_saturate (omega arith)
cut-total a (n ∷ ns) =
    ap (λ s. fold (λ t m. u64_saturate (t + m)) s (map u64_saturate ns)) (cut-sum a n (2 ^ 64 - 1))
    ∙ cut-total (a + n) ns
    ∙ ap u64_saturate (let e = sum_by-cons (λ x. x) n ns in omega (arith, e))
