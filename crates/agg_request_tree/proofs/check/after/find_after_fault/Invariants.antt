use Rattle.std.proofs.Common.{take}
use Rattle.std.specs.List.{All}
use Rattle.agg_request_tree.specs.Faults.{HasInterval, IsSoundSource}
use Rattle.agg_request_tree.specs.Source.{after_of}
use Rattle.agg_request_tree.proofs.check.after.find_after_fault.Given as goal

-- each source so far is sound, if its interval is
abbrev pub invariant-loop-source : goal.invariant-loop-source
invariant-loop-source l =
    All (λ source. HasInterval source → IsSoundSource source (after_of l.after source))
    (take l.source-index l.sources)
