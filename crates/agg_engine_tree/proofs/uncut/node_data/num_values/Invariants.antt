use Rattle.std.proofs.Common.{◌≡◌, ◌-◌, ◌^◌, length, min, take}
use Rattle.agg_segment.specs.storage.Columns.{all_keys}
use Rattle.agg_engine_tree.proofs.uncut.node_data.num_values.Given as goal

abbrev pub invariant-loop-column : goal.invariant-loop-column
invariant-loop-column l =
    l.count ≡ min (length (all_keys (take l.column-index l.columns) l.doc)) (2 ^ 64 - 1)
