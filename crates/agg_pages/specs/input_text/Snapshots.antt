-- Snapshots in the making, and what a line makes of them.
use Rattle.std.specs.Prelude.{◌≡◌, ℕ, List, [], ◌∷◌, ◌++◌, Bool, true, false, map}
use Rattle.std.specs.List.{All}
use Rattle.agg_segment.specs.storage.Document.{Fields}
use Rattle.agg_segment.specs.Segment.{documents_of, gathered_documents}
use Rattle.agg_segment.specs.Snapshot.{snapshots_documents}
use Rattle.agg_segment.specs.SnapshotDocuments.{SnapshotDocuments}
use Rattle.agg_pages.specs.declared.input_text.snapshots.OpenSnapshot.{OpenSnapshot}
use Rattle.agg_pages.specs.declared.input_text.snapshots.SnapshotsBuilder.{SnapshotsBuilder}
use Rattle.agg_pages.specs.input_text.SnapshotLines.{FitSegment, Line, Says, SegmentsFit, begins}
use Rattle.agg_pages.specs.input_text.SnapshotLines.{holds, opens, unopened_segment}

-- ---- snapshots in the making

-- a snapshot in the making: its closed segments, and then the documents of the one that is not, and
-- whether a line opened that
pub record Open : Type 0 where
  pub page_size : ℕ
  pub segments : List (List Fields)
  pub documents : List Fields
  pub opened : Bool

-- the segment of the documents after the closed ones: one that no line opened has some
abbrev pub last_segment : Bool → List Fields → List (List Fields)
last_segment true documents = documents ∷ []
last_segment false documents = unopened_segment documents

-- all segments of a snapshot in the making
abbrev pub all_segments : Open → List (List Fields)
all_segments one = one.segments ++ last_segment one.opened one.documents

-- a snapshot in the making, where no line follows
abbrev pub whole_snapshot : Open → SnapshotDocuments
whole_snapshot one = record { segments = all_segments one; page_size = one.page_size }

-- the closed snapshots, and the one in the making
pub record Made : Type 0 where
  pub closed : List SnapshotDocuments
  pub current : Open

-- the snapshots, where no line follows
abbrev pub snapshots_made : Made → List SnapshotDocuments
snapshots_made made = made.closed ++ whole_snapshot made.current ∷ []

-- a snapshot of this page size, where no line follows yet
abbrev pub begun : ℕ → Open
begun size = record { page_size = size; segments = []; documents = []; opened = false }

-- a snapshot in the making, with another segment open
abbrev pub with_segment : Open → Open
with_segment one = record {
  page_size = one.page_size;
  segments = all_segments one;
  documents = [];
  opened = true;
}

-- a snapshot in the making, with one more document
abbrev pub with_document : Fields → Open → Open
with_document document one = record one { documents = one.documents ++ document ∷ [] }

-- what a line makes of the snapshots before it
abbrev pub with_line : Line → Made → Made
with_line (begins size) made = record { closed = snapshots_made made; current = begun size }
with_line opens made = record made { current = with_segment made.current }
with_line (holds document) made = record made { current = with_document document made.current }

-- each segment may hold its documents
pub record AreFit (made : Made) : Type 0 where
  pub closed : All SegmentsFit made.closed
  pub segments : All FitSegment made.current.segments
  pub documents : FitSegment made.current.documents

-- ---- the builder of snapshots

-- an open snapshot as what it stands for
abbrev pub open_of : OpenSnapshot → Open
open_of one = record {
  page_size = one.page_size;
  segments = map documents_of one.segments;
  documents = gathered_documents one.documents;
  opened = one.opened;
}

-- the snapshots so far
abbrev pub made_by : SnapshotsBuilder → Made
made_by builder = record {
  closed = snapshots_documents builder.closed;
  current = open_of builder.current;
}

-- the line was taken, and each segment may still hold its documents
pub record TakesLine (line : List ℕ) (old new : SnapshotsBuilder) : Type 0 where
  pub said : Line
  pub says : Says line said
  pub made : made_by new ≡ with_line said (made_by old)
  pub fit : AreFit (made_by new)

-- whatever the line says, some segment may not hold its documents
abbrev pub CannotFollow : List ℕ → SnapshotsBuilder → Type 0
CannotFollow line builder =
    (said : Line) → Says line said → ¬ AreFit (with_line said (made_by builder))
