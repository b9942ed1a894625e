use Rattle.std.proofs.Common.{◌≡◌, ◌++◌}
use Rattle.agg_values.proofs.after_key.copied_after_key.Given as goal

-- the entries so far are copied
abbrev pub invariant-loop-source : goal.invariant-loop-source
invariant-loop-source l =
    l.after ≡ l.copy ++ l.source-iterator
