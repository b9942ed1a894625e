-- The memory forms of a source and a sink: their bytes, and their calls, of which listed ones fail.
use Rattle.std.specs.Prelude.{◌+◌, ◌-◌, ◌^◌, ◌==◌, ◌&&◌, ℕ, List, Bool, nat_lt}
use Rattle.std.specs.List.{list_any}
use Rattle.agg_streams.specs.Causes.{faults_after, one_more}

-- the calls of a memory form: their number, which stops at its end, those that are to fail, and how
-- many did
pub record Calls : Type 0 where
  pub number : ℕ
  pub failing : List ℕ
  pub faults : ℕ

-- no call yet, where these are listed
abbrev pub no_calls : List ℕ → Calls
no_calls failing = record { number = 0; failing = failing; faults = 0 }

-- whether the next call is a listed one
abbrev pub is_next_listed : Calls → Bool
is_next_listed calls =
    nat_lt calls.number (2 ^ 64 - 1) && list_any (λ n. n == calls.number + 1) calls.failing

-- the calls after one more, which failed or not
abbrev pub after_call : Bool → Calls → Calls
after_call failed calls =
    record calls { number = one_more calls.number; faults = faults_after failed calls.faults }

-- a memory form: the bytes that a source has left or a sink holds, and its calls
pub record Memory : Type 0 where
  pub bytes : List ℕ
  pub calls : Calls

-- how many bytes a memory sink has room for
abbrev pub memory_room : ℕ
memory_room = 1048576
