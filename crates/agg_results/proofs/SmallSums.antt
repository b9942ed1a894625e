-- Sums of numbers of 64 bits: only where there are many is one outside i128.
use Rattle.std.proofs.Common.{ℕ, ◌*◌, ◌<◌, ◌≤◌, ◌^◌, List, [], ◌∷◌, length, arith}
use Rattle.std.proofs.Common.{ℤ, pos, negsuc, neg_ℤ, nat_abs, ◌≤ℤ◌, FitsSigned, inl, inr}
use mir.Syntax.{w128}
use Rattle.std.specs.List.{AllByRecursion}
use Rattle.std.proofs.lemmas.Bool.{cases_lt}
use Rattle.std.proofs.lemmas.Int.{fits_signed_from_abs, ints}
use Rattle.agg_request_tree.specs.Metrics.{sum_of}

-- a number of 64 bits, with or without a sign
abbrev pub IsSmall : ℤ → Type 0
IsSmall n = nat_abs n < 2 ^ 64

-- a number between a limit below zero and one above
abbrev pub IsWithin : ℕ → ℤ → Type 0
IsWithin limit n = (n ≤ℤ pos limit) × (neg_ℤ (pos limit) ≤ℤ n)

small-within : (n : ℤ) → IsSmall n → IsWithin (2 ^ 64) n
small-within (pos n) small = (omega (arith, ints), omega (arith, ints))
small-within (negsuc n) small = (omega (arith, ints), omega (arith, ints))

-- a sum is within as many times the limit
sum-within : (ns : List ℤ) → AllByRecursion IsSmall ns
    → IsWithin (length ns * 2 ^ 64) (sum_of ns)
sum-within [] small = (omega (arith, ints), omega (arith, ints))
sum-within (n ∷ ns) small =
    let one = small-within n small.0 in
    let others = sum-within ns small.1 in
    let above = one.0 in
    let below = one.1 in
    let others_above = others.0 in
    let others_below = others.1 in
    (omega (arith, ints), omega (arith, ints))

within-fits : (limit : ℕ) (n : ℤ) → limit < 2 ^ 126 → IsWithin limit n → FitsSigned w128 n
within-fits limit (pos n) low within =
    let above = within.0 in fits_signed_from_abs w128 (pos n) (omega (arith, ints))
within-fits limit (negsuc n) low within =
    let below = within.1 in fits_signed_from_abs w128 (negsuc n) (omega (arith, ints))

-- a sum outside i128 is one of 2^62 numbers or more
pub many-summed : (ns : List ℤ) → AllByRecursion IsSmall ns → ¬ (FitsSigned w128 (sum_of ns))
    → 2 ^ 62 ≤ length ns
many-summed ns small passes =
    elim (cases_lt (length ns) (2 ^ 62)) [
      | inl few ↦
          absurd (passes (within-fits (length ns * 2 ^ 64) (sum_of ns) (omega arith)
          (sum-within ns small)))
      | inr many ↦ many
    ]
