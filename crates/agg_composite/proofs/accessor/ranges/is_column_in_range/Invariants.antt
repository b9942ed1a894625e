use Rattle.std.proofs.Common.{Option, take}
use Rattle.std.specs.List.{All}
use Rattle.agg_values.specs.TypedKey.{CompositeIntermediateKey}
use Rattle.agg_composite.specs.accessor.Least.{IsLeastIn}
use Rattle.agg_composite.specs.accessor.Ranges.{IsDocumentWithin}
use Rattle.agg_composite.proofs.accessor.ranges.is_column_in_range.Given as goal

-- those of the documents so far do
abbrev pub invariant-loop-doc : goal.invariant-loop-doc
invariant-loop-doc l =
    (min : Option CompositeIntermediateKey) → IsLeastIn l.column.column.now.keys min l.least
    → All (IsDocumentWithin min l.column.divisor l.column.column.now) (take l.doc-index l.docs)
