use Rattle.std.proofs.Common.{◌≡◌, None, take}
use Rattle.std.specs.List.{find}
use Rattle.agg_engine_tree.specs.segment_context.Views.{is_named}
use Rattle.agg_engine_tree.proofs.segment_context.node.AggRefNode.get_sub_agg.Given as goal

-- no child so far has the name
abbrev pub invariant-loop-child : goal.invariant-loop-child
invariant-loop-child l =
    find (is_named l.pr l.name) (take l.child-index l.child-items) ≡ None
