use Rattle.std.proofs.Common.{take}
use Rattle.std.specs.List.{All}
use Rattle.agg_request_tree.specs.Source.{min_of}
use Rattle.agg_composite.specs.accessor.Least.{AreLeastIn}
use Rattle.agg_composite.specs.accessor.Ranges.{IsColumnWithin, divisor_at}
use Rattle.agg_composite.proofs.accessor.ranges.are_columns_in_range.Given as goal

-- those of the columns so far do
abbrev pub invariant-loop-index : goal.invariant-loop-index
invariant-loop-index l =
    AreLeastIn (min_of l.source) l.accessors.accessors l.accessors.min
    → All (λ a. IsColumnWithin (min_of l.source) (divisor_at l.source a) a.column.now l.docs)
    (take l.index l.columns)
