use Rattle.std.proofs.Common.{◌≡◌, take}
use Rattle.agg_composite.specs.accessor.Decoded.{decoded_keys}
use Rattle.agg_composite.proofs.accessor.decoding.decode_keys.Given as goal

-- the keys so far
abbrev pub invariant-loop-i : goal.invariant-loop-i
invariant-loop-i l = l.tuple ≡ decoded_keys l.sources l.accessors (take l.i l.encoded)
