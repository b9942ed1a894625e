use Rattle.std.proofs.Common.{◌≡◌, ◌-◌, ◌^◌, length, min, take}
use Rattle.agg_values.specs.Names.{Named}
use Rattle.agg_values.specs.declared.after_key.AfterKey.{AfterKey}
use Rattle.agg_segment.specs.Segment.{Stored, documents_at}
use Rattle.agg_request_tree.specs.Occurrences.{occurrences_in}
use Rattle.agg_composite.specs.accessor.Accessors.{AllFit}
use Rattle.agg_composite.proofs.accessor.occurrences.count_occurrences.Given as goal

abbrev pub invariant-loop-doc : goal.invariant-loop-doc
invariant-loop-doc l =
    (segment : Stored) (after : Named AfterKey) → AllFit segment after l.sources l.accessors
    → l.count
    ≡ min (length (occurrences_in l.sources (documents_at segment (take l.doc-index l.docs))))
    (2 ^ 64 - 1)
