-- Counts of faults, and their causes.
use Rattle.std.specs.Prelude.{◌+◌, ◌-◌, ◌^◌, ◌≤◌, ℕ, Bool, Result, OnErr, min, if◌then◌else◌}

-- a count after one more, which stops at its end
abbrev pub one_more : ℕ → ℕ
one_more count = min (count + 1) (2 ^ 64 - 1)

-- a count of faults after a call, which failed or not
abbrev pub faults_after : Bool → ℕ → ℕ
faults_after failed faults = if failed then one_more faults else faults

-- a count of faults rose, or stands at its end
abbrev pub Rose : ℕ → ℕ → Type 0
Rose before now = one_more before ≤ now

-- a count of faults never falls, and a failed call has raised it
pub record HasCause {T E : Type 0} (before now : ℕ) (result : Result T E) : Type 0 where
  pub later : before ≤ now
  pub failed : OnErr result (Rose before now)

-- a reader or a writer, and how many of its calls failed
pub record Counted (T : Type 0) : Type 0 where
  pub inner : T
  pub faults : ℕ
