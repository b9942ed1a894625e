-- The failures of a run, and its exit codes.
use Rattle.std.specs.Prelude.{ℕ}
use Rattle.agg_engine.specs.declared.walk.error.WalkError.{WalkError}
use Rattle.agg_engine.specs.declared.walk.error.WalkError.TheVariants as walk
use Rattle.peslumok_front.specs.declared.grouping.error.GroupingError.{GroupingError}
use Rattle.peslumok_front.specs.declared.grouping.error.GroupingError.TheVariants as grouping
use Rattle.peslumok_front.specs.declared.front.failure.Failure.{Failure}
use Rattle.peslumok_front.specs.declared.front.failure.Failure.TheVariants as failure

-- the exit code of a run that fails so
abbrev pub code_of : Failure → ℕ
code_of (failure.Refused why) = 1
code_of (failure.Usage why) = 2
code_of (failure.SameColumn name) = 2
code_of (failure.Record name why) = 3
code_of (failure.Unreadable name) = 4
code_of failure.Unwritten = 5
code_of failure.OutOfMemory = 6

-- the failure that a refused walk is
abbrev pub failure_of_walk : WalkError → Failure
failure_of_walk walk.OutOfMemory = failure.OutOfMemory
failure_of_walk why = failure.Refused why

-- the failure that a grouping is which can't be asked
abbrev pub failure_of_grouping : GroupingError → Failure
failure_of_grouping grouping.OutOfMemory = failure.OutOfMemory
failure_of_grouping why = failure.Usage why
