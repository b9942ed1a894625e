use Rattle.std.proofs.Common.{◌≡◌, drop}
use Rattle.agg_values.specs.Shown.{shown_key}
use Rattle.agg_request_tree.specs.BySource.{by_source}
use Rattle.agg_request_tree.proofs.by_source.shown_keys.Given as goal

-- the keys of the sources from here on
abbrev pub invariant-loop-i : goal.invariant-loop-i
invariant-loop-i l = l.keys ≡ by_source shown_key (drop l.i l.sources) (drop l.i l.tuple)
