use Rattle.std.proofs.Common.{◌≡◌, take}
use Rattle.agg_composite.proofs.stored_tuple.StoredTupleClone.clone.Given as goal

abbrev pub invariant-loop-key : goal.invariant-loop-key
invariant-loop-key g l = l.keys.items ≡ take l.key-index l.key-items
