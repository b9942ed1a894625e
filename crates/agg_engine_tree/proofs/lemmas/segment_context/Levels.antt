-- Induction over requests: what holds of an aggregation where it holds of those below it.
use Rattle.std.proofs.Common.{◌≤◌, ℕ, zero, suc, [], ◌∷◌, arith}
use Rattle.std.specs.List.{AllByRecursion}
use Rattle.agg_request_tree.specs.Request.{Request, below_of}
use Rattle.agg_request_tree.specs.declared.aggregation.Aggregation.{Aggregation}
use Rattle.agg_request_tree.proofs.RequestTrees.{height, height-out, levels}

module _ {B : Type 0} (P : Aggregation B → Type 0) where
  -- it holds of each aggregation of a request
  abbrev pub OfEach : Request B → Type 0
  OfEach = AllByRecursion (λ e. P e.1)

  each_by : (n : ℕ) → ((a : Aggregation B) → height a ≤ n → P a) → (request : Request B)
      → levels request ≤ n → OfEach request
  each_by n one [] low = tt
  each_by n one (e ∷ request) low = (one e.1 (omega arith), each_by n one request (omega arith))

  one_by : ((a : Aggregation B) → OfEach (below_of a) → P a) → (n : ℕ) (a : Aggregation B)
      → height a ≤ n → P a
  one_by step zero a low = absurd (omega (arith, height-out a))
  one_by step (suc n) a low =
      step a (each_by n (one_by step n) (below_of a) (omega (arith, height-out a)))

  -- it holds of every aggregation
  pub by_levels : ((a : Aggregation B) → OfEach (below_of a) → P a) → (a : Aggregation B) → P a
  by_levels step a = one_by step (height a) a (omega arith)
