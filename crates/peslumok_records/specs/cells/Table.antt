-- The documents of a text of cells.
use Rattle.std.specs.Prelude.{◌≡◌, ◌≢◌, ◌⊎◌, ◌∷◌, ℕ, List, [], Option, Some, None, map}
use Rattle.std.specs.List.{AllZip}
use Rattle.csv.specs.Records.{field_at}
use Rattle.agg_segment.specs.storage.Document.{Fields}
use Rattle.peslumok_records.specs.held.Documents.{AreRead}
use Rattle.peslumok_records.specs.declared.held.asked.AskedField.{AskedField}
use Rattle.peslumok_records.specs.cells.Cells.{row_document}
use Rattle.peslumok_records.specs.cells.Csv.{AreRowsOf}

-- the place of the one cell of a header that is this name, or that no cell is
abbrev pub IsPlaceOf : List (List ℕ) → List ℕ → Option ℕ → Type 0
IsPlaceOf header name None = (i : ℕ) → field_at header i ≢ Some name
IsPlaceOf header name (Some place) =
    (field_at header place ≡ Some name) × ((i : ℕ) → field_at header i ≡ Some name → i ≡ place)

-- the places of the asked fields under a header
abbrev pub ArePlaces : List (List ℕ) → List AskedField → List (Option ℕ) → Type 0
ArePlaces header asked places =
    AllZip (λ field place. IsPlaceOf header field.name place) asked places

-- these are the documents of the rows under the header of a text
pub record AreRowDocuments (delimiter : ℕ) (text : List ℕ) (asked : List AskedField)
    (documents : List Fields) : Type 0 where
  pub header : List (List ℕ)
  pub rows : List (List (List ℕ))
  pub all : AreRowsOf delimiter text (header ∷ rows)
  pub places : List (Option ℕ)
  pub placed : ArePlaces header asked places
  pub read : AreRead (map (row_document asked places) rows) documents

-- a text with no row has no documents
abbrev pub IsEmptyTable : ℕ → List ℕ → List Fields → Type 0
IsEmptyTable delimiter text documents = AreRowsOf delimiter text [] × (documents ≡ [])

-- these are the documents of a text of cells
abbrev pub AreTableDocuments : ℕ → List ℕ → List AskedField → List Fields → Type 0
AreTableDocuments delimiter text asked documents =
    AreRowDocuments delimiter text asked documents ⊎ IsEmptyTable delimiter text documents
