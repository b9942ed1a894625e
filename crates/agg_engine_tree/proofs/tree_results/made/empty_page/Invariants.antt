use Rattle.std.proofs.Common.{◌≡◌, [], take}
use Rattle.agg_request_tree.specs.Source.{rules_of}
use Rattle.agg_results.specs.intermediate_results.Intermediate.{composite_of}
use Rattle.agg_engine_tree.proofs.tree_results.made.empty_page.Given as goal

-- the orders of the sources so far
abbrev pub invariant-loop-source : goal.invariant-loop-source
invariant-loop-source l =
    l.buckets ≡ composite_of (rules_of (take l.source-index l.source-items)) l.req.size []
