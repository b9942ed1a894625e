use Rattle.std.proofs.Common.{◌≡◌, false, take}
use Rattle.std.specs.List.{list_any}
use Rattle.agg_segment.specs.Segment.{documents_of}
use Rattle.peslumok_records.specs.record_index.Index.{is_seen}
use Rattle.peslumok_records.proofs.record_index.index.is_seen.Given as goal

-- the segments so far have no value of the field
abbrev pub invariant-loop-segment : goal.invariant-loop-segment
invariant-loop-segment l =
    list_any (λ s. is_seen (documents_of s) l.field) (take l.segment-index l.segments) ≡ false
