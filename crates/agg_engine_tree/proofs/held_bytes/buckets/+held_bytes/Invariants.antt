use Rattle.std.proofs.Common.{◌≡◌, take}
use Rattle.agg_engine_tree.proofs.lemmas.held_bytes.HeldSums.{group_bytes}
use Rattle.agg_engine_tree.proofs.held_bytes.buckets.+held_bytes.Given as goal

-- the bytes of the trees so far
abbrev pub invariant-loop-child : goal.invariant-loop-child
invariant-loop-child l = l.bytes ≡ group_bytes l.ctx (take l.child-index l.child-items)
