-- Lists within others.
use Rattle.std.specs.Prelude.{◌≤◌, ℕ, List}
use Rattle.std.specs.List.{sum_by}

-- no element stands more often in the first list than in the second: whatever elements weigh, the
-- first list weighs at most as much
pub record Within {X : Type 0} (xs ys : List X) : Type 0 where
  pub lighter : (weight : X → ℕ) → sum_by weight xs ≤ sum_by weight ys
