use Rattle.std.proofs.Common.{◌≡◌, ◌-◌, ◌^◌, Option, filter, length, min, take}
use Rattle.agg_values.specs.TypedKey.{CompositeIntermediateKey}
use Rattle.agg_segment.specs.storage.Columns.{all_keys}
use Rattle.agg_request_tree.specs.Source.{is_from}
use Rattle.agg_composite.specs.accessor.Lanes.{columns_of}
use Rattle.agg_composite.specs.accessor.Least.{AreLeastIn}
use Rattle.agg_composite.proofs.accessor.occurrences.num_values.Given as goal

abbrev pub invariant-loop-index : goal.invariant-loop-index
invariant-loop-index l =
    (least : Option CompositeIntermediateKey)
    → AreLeastIn least l.accessors.accessors l.accessors.min
    → l.count
    ≡ min (length (filter (is_from least) (all_keys (take l.index (columns_of l.columns)) l.doc)))
    (2 ^ 64 - 1)
