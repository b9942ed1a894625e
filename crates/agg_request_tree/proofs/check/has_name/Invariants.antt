use Rattle.std.proofs.Common.{◌≢◌, take}
use Rattle.std.specs.List.{All}
use Rattle.agg_request_tree.specs.Source.{name_of}
use Rattle.agg_request_tree.proofs.check.has_name.Given as goal

-- no source so far has the name
abbrev pub invariant-loop-source : goal.invariant-loop-source
invariant-loop-source l = All (λ source. name_of source ≢ l.name) (take l.source-index l.sources)
