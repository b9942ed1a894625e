use Rattle.std.proofs.Common.{◌≡◌, take}
use Rattle.agg_request_tree.specs.Source.{rules_of}
use Rattle.agg_results.proofs.intermediate_results.final_results.other_shapes.are_orders_of.Given
    as goal

-- the orders so far are those of the sources so far
abbrev pub invariant-loop-i : goal.invariant-loop-i
invariant-loop-i l = take l.i l.orders ≡ rules_of (take l.i l.sources)
