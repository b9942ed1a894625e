use Rattle.std.proofs.Common.{◌≡◌, ◌-◌, ◌^◌, length, min, take}
use Rattle.std.specs.Prelude.{filter_map}
use Rattle.agg_segment.specs.storage.Columns.{all_keys}
use Rattle.agg_request_tree.specs.Metrics.{number_of}
use Rattle.agg_engine_tree.proofs.uncut.node_data.num_numbers.Given as goal

abbrev pub invariant-loop-column : goal.invariant-loop-column
invariant-loop-column l =
    l.count
    ≡ min (length (filter_map number_of (all_keys (take l.column-index l.columns) l.doc)))
    (2 ^ 64 - 1)
