use Rattle.std.proofs.Common.{◌≡◌}
use Rattle.std.specs.Map.{keys_of}
use Rattle.agg_request.specs.reading.Kinds.{are_free}
use Rattle.agg_request.proofs.writer.writable.are_free.Given as goal

abbrev pub invariant-loop-name : goal.invariant-loop-name
invariant-loop-name g l = are_free (keys_of l.below) ≡ are_free l.name-iterator
