use Rattle.std.proofs.Common.{◌≡◌, take}
use Rattle.agg_values.proofs.tuple.Tuple.try_clone.Given as goal

-- the copy has the keys so far
abbrev pub invariant-loop-key : goal.invariant-loop-key
invariant-loop-key l = l.tuple ≡ take l.key-index l.key-items
