-- What a merge did that goes on where a sum is too large: whether one was, is told by a flag.
use Rattle.std.specs.Prelude.{◌≡◌, ◌⊎◌, Bool, true, false}

-- nothing differed, and the flag was raised where a sum was too large, and only there
pub record Merges (was now : Bool) (Differ Pass : Type 0) : Type 0 where
  pub alike : ¬ Differ
  pub few : now ≡ false → ¬ Pass
  pub kept : was ≡ true → now ≡ true
  pub passed : now ≡ true → (was ≡ true) ⊎ Pass
