use Rattle.std.proofs.Common.{◌≡◌, drop}
use Rattle.agg_request_tree.specs.BySource.{after_map}
use Rattle.agg_request_tree.proofs.by_source.after_keys.Given as goal

-- the keys of the sources from here on
abbrev pub invariant-loop-i : goal.invariant-loop-i
invariant-loop-i l = l.keys ≡ after_map (drop l.i l.sources) (drop l.i l.tuple)
