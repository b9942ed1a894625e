use Rattle.std.proofs.Common.{◌≡◌, flat_map, take}
use Rattle.agg_segment.specs.Segment.{documents_of}
use Rattle.peslumok_records.specs.record_index.Index.{unseen_names}
use Rattle.peslumok_records.proofs.record_index.index.unseen_of.Given as goal

-- the names so far are those of the fields so far
abbrev pub invariant-loop-field : goal.invariant-loop-field
invariant-loop-field l =
    l.unseen.items
    ≡ unseen_names (flat_map documents_of l.segments) (take l.field-index l.field-items)
