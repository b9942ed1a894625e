-- Numbers that u64 may have no room for.
use Rattle.std.specs.Prelude.{◌≡◌, ◌≤◌, ◌^◌, ℕ, MatchOption, Option}

-- the answer is the number, or none where u64 has no room for it
abbrev pub IsChecked : ℕ → Option ℕ → Type 0
IsChecked number answer = MatchOption answer (2 ^ 64 ≤ number) (λ n. n ≡ number)
