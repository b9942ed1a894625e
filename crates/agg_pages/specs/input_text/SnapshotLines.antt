-- What the lines after the header say, and the snapshots that they stand for.
use Rattle.std.specs.Prelude.{◌≡◌, ◌≤◌, ◌^◌, ◌&&◌, ℕ, List, [], ◌∷◌, ◌++◌, Bool, false}
use Rattle.std.specs.Prelude.{Option, None, Some, if◌then◌else◌, length, drop, codes, nat_lt}
use Rattle.std.specs.Prelude.{nat_eq}
use Rattle.std.specs.List.{All, AllZip, starts_with}
use Rattle.std.specs.Str.{all_ascii_digits}
use Rattle.std.specs.Str.Parse.{digits_value}
use Rattle.agg_segment.specs.storage.Document.{Fields}
use Rattle.agg_segment.specs.SegmentLimits.{IsMixed, max_documents}
use Rattle.agg_segment.specs.SnapshotDocuments.{SnapshotDocuments}
use Rattle.agg_pages.specs.document_json.DocumentLine.{IsDocumentLine}

-- what a line after the header says: a snapshot of a page size begins, a segment begins in it, or
-- a document stands there
pub data Line : Type 0 where
  begins : ℕ → Line
  opens : Line
  holds : Fields → Line

-- one or more ASCII digits, with a value within u32
abbrev pub page_size_of : List ℕ → Option ℕ
page_size_of digits =
    if nat_lt 0 (length digits)
    && all_ascii_digits digits
    && nat_lt (digits_value 10 digits) (2 ^ 32)
    then Some (digits_value 10 digits)
    else None

-- whether a line is one of a snapshot
abbrev pub is_snapshot_line : List ℕ → Bool
is_snapshot_line line = starts_with nat_eq line (codes "snapshot ")

-- the page size of the snapshot that begins on a line
abbrev pub begun_size : List ℕ → Option ℕ
begun_size line = if is_snapshot_line line then page_size_of (drop 9 line) else None

-- the line at which a segment begins
abbrev pub segment_line : List ℕ
segment_line = codes "segment"

-- the line says this
abbrev pub Says : List ℕ → Line → Type 0
Says line (begins size) = begun_size line ≡ Some size
Says line opens = line ≡ segment_line
Says line (holds document) = (is_snapshot_line line ≡ false) × IsDocumentLine line document

-- the documents before the next line that begins something
abbrev pub leading_documents : List Line → List Fields
leading_documents [] = []
leading_documents (holds document ∷ lines) = document ∷ leading_documents lines
leading_documents (opens ∷ lines) = []
leading_documents (begins size ∷ lines) = []

-- documents that no line of a segment stands before are a segment
abbrev pub unopened_segment : List Fields → List (List Fields)
unopened_segment [] = []
unopened_segment (d ∷ ds) = (d ∷ ds) ∷ []

-- the segments that begin before the next snapshot, each with the documents after its line
abbrev pub opened_segments : List Line → List (List Fields)
opened_segments [] = []
opened_segments (holds document ∷ lines) = opened_segments lines
opened_segments (opens ∷ lines) = leading_documents lines ∷ opened_segments lines
opened_segments (begins size ∷ lines) = []

-- the segments before the next snapshot
abbrev pub leading_segments : List Line → List (List Fields)
leading_segments lines = unopened_segment (leading_documents lines) ++ opened_segments lines

-- the snapshots that begin in these lines, each with the segments after its line
abbrev pub begun_snapshots : List Line → List SnapshotDocuments
begun_snapshots [] = []
begun_snapshots (holds document ∷ lines) = begun_snapshots lines
begun_snapshots (opens ∷ lines) = begun_snapshots lines
begun_snapshots (begins size ∷ lines) =
    record { segments = leading_segments lines; page_size = size } ∷ begun_snapshots lines

-- a segment may hold these documents
pub record FitSegment (documents : List Fields) : Type 0 where
  pub few : length documents ≤ max_documents
  pub unmixed : ¬ IsMixed documents

-- each segment of a snapshot may hold its documents
abbrev pub SegmentsFit : SnapshotDocuments → Type 0
SegmentsFit snapshot = All FitSegment snapshot.segments

-- lines that stand for snapshots: no segment begins before the first, and each segment may hold its
-- documents
pub record StandForSnapshots (lines : List Line) : Type 0 where
  pub none : leading_segments lines ≡ []
  pub fit : All SegmentsFit (begun_snapshots lines)

-- the snapshots of the lines after the header
abbrev pub AreSnapshots : List (List ℕ) → List SnapshotDocuments → Type 0
AreSnapshots lines snapshots =
    (said : List Line)
    × AllZip Says lines said
    × StandForSnapshots said
    × (snapshots ≡ begun_snapshots said)
