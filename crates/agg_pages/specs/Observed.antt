-- A source or a sink over a call.
use Rattle.std.specs.Prelude.{◌≡◌, ℕ, List, Option}
use Rattle.agg_streams.specs.Causes.{Rose}

-- a source or a sink as a call found and left it: the bytes that it tells, and its count of faults
pub record Observed (T : Type 0) : Type 0 where
  pub bytes : T → Option (List ℕ)
  pub faults : T → ℕ
  pub old : T
  pub new : T

-- a source or a sink over a call, by what it tells
abbrev pub over : {T : Type 0} → (T → Option (List ℕ)) → (T → ℕ) → T → T → Observed T
over bytes faults old new = record { bytes = bytes; faults = faults; old = old; new = new }

-- the bytes that it told before the call
abbrev pub bytes_before : {T : Type 0} → Observed T → Option (List ℕ)
bytes_before it = it.bytes it.old

-- the bytes that it tells after the call
abbrev pub bytes_after : {T : Type 0} → Observed T → Option (List ℕ)
bytes_after it = it.bytes it.new

-- a fault was counted
abbrev pub HadFault : {T : Type 0} → Observed T → Type 0
HadFault it = Rose (it.faults it.old) (it.faults it.new)

-- the call left it as it found it
abbrev pub IsUntouched : {T : Type 0} → Observed T → Type 0
IsUntouched it = it.new ≡ it.old
