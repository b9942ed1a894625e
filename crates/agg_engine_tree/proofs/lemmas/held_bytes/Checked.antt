-- Numbers that u64 may have no room for.
use Rattle.std.proofs.Common.{◌≡◌, ◌≤◌, ◌<◌, ◌^◌, ℕ, Option, None, Some, subst, sym, arith}
use Rattle.std.specs.Option.{SomeIff}
use Rattle.agg_engine_tree.specs.held_bytes.Checked.{IsChecked}

-- what a checked operation answers for a number
pub is-checked : (number : ℕ) (answer : Option ℕ) → SomeIff answer (number < 2 ^ 64) number
    → IsChecked number answer
is-checked number None above = omega (arith, above)
is-checked number (Some n) is = is.1

-- none is answered for a number that is too great
pub none-checked : (number : ℕ) (answer : Option ℕ) → answer ≡ None → 2 ^ 64 ≤ number
    → IsChecked number answer
none-checked number answer none above = subst (IsChecked number) (sym none) above
