use Rattle.std.proofs.Common.{◌≡◌, ◌-◌, ◌^◌, length, min, take}
use Rattle.agg_values.specs.Names.{Named}
use Rattle.agg_values.specs.declared.after_key.AfterKey.{AfterKey}
use Rattle.agg_segment.specs.Segment.{Stored, document_at}
use Rattle.agg_request_tree.specs.Occurrences.{occurrences}
use Rattle.agg_composite.specs.accessor.Accessors.{AllFit}
use Rattle.agg_composite.proofs.accessor.occurrences.num_occurrences.Given as goal

abbrev pub invariant-loop-index : goal.invariant-loop-index
invariant-loop-index l =
    (segment : Stored) (after : Named AfterKey) → AllFit segment after l.sources l.accessors
    → l.product
    ≡ min (length (occurrences (take l.index l.sources) (document_at segment l.doc))) (2 ^ 64 - 1)
