-- Lists within others.
use Rattle.std.proofs.Common.{◌≤◌, ℕ, Bool, true, false, cond, List, ◌++◌, length, arith}
use Rattle.std.specs.List.{filter, flat_map, sum_by}
use Rattle.std.specs.List.Sorted.{IsPermutation}
use Rattle.std.proofs.lemmas.List.Sums.{sum_by-append}
use Rattle.std.proofs.lemmas.List.Sorted.{sum_by-IsPermutation}
use Rattle.agg_request_tree.specs.charges.Within.{Within}
use Rattle.agg_request_tree.proofs.lemmas.charges.Sums.{sum_by-at_most, sum_by-constant}
use Rattle.agg_request_tree.proofs.lemmas.charges.Sums.{sum_by-filter, sum_by-flat_map}

module _ {X : Type 0} (xs ys : List X) where
  -- a list is within itself with more after
  pub Within-more : Within xs (xs ++ ys)
  Within-more = record { lighter = λ f. omega (arith, sum_by-append f xs ys) }

  -- a list is within itself in another order
  pub Within-permutation : IsPermutation xs ys → Within xs ys
  Within-permutation moved =
      record { lighter = λ f. omega (arith, sum_by-IsPermutation f xs ys moved) }

  module _ (inside : Within xs ys) where
    -- a list is no longer than one that it is within
    pub Within-length : length xs ≤ length ys
    Within-length =
        omega (arith, sum_by-constant 1 xs, sum_by-constant 1 ys, inside.lighter (λ x. 1))

    -- what elements give is within what those of the other list give
    pub Within-flat_map : {Y : Type 0} (part : X → List Y)
        → Within (flat_map part xs) (flat_map part ys)
    Within-flat_map part = record {
      lighter = λ f. omega (
        arith,
        sum_by-flat_map f part xs,
        sum_by-flat_map f part ys,
        inside.lighter (λ x. sum_by f (part x)),
      );
    }

    -- what passes a test is within what passes of the other list
    pub Within-filter : (passes : X → Bool) → Within (filter passes xs) (filter passes ys)
    Within-filter passes = record {
      lighter = λ f. omega (
        arith,
        sum_by-filter f passes xs,
        sum_by-filter f passes ys,
        inside.lighter (λ x. cond (passes x) (f x) 0),
      );
    }

-- what passes a test is within its list
pub Within-passing : {X : Type 0} (passes : X → Bool) (xs : List X)
    → Within (filter passes xs) xs
Within-passing passes xs = record {
  lighter = λ f. omega (
    arith,
    sum_by-filter f passes xs,
    sum_by-at_most (λ x. cond (passes x) (f x) 0) f xs (λ x. at_most (passes x) (f x)),
  );
}
  where
    at_most : (t : Bool) (n : ℕ) → cond t n 0 ≤ n
    at_most true n = omega arith
    at_most false n = omega arith
