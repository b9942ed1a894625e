use Rattle.std.proofs.Common.{◌≡◌, map}
use Rattle.peslumok_records.proofs.held.asked.path_of.Given as goal

abbrev pub invariant-loop-part : goal.invariant-loop-part
invariant-loop-part l = l.path.items ≡ map (λ part. part.now) l.yielded
