-- The document of a line, added to a segment in the making.
use Rattle.std.specs.Prelude.{◌≡◌, ◌⊎◌, ℕ, List, [], ◌∷◌, ◌++◌, length}
use Rattle.agg_segment.specs.storage.Document.{Fields}
use Rattle.agg_segment.specs.Segment.{Gathered, gathered_documents}
use Rattle.agg_segment.specs.SegmentLimits.{IsMixed, max_documents}
use Rattle.agg_pages.specs.document_json.DocumentLine.{IsDocumentLine}

-- a segment of these documents takes no such one
abbrev pub IsRefused : List Fields → Fields → Type 0
IsRefused documents document =
    (length documents ≡ max_documents) ⊎ IsMixed (documents ++ document ∷ [])

-- the document of the line stands after those that a segment in the making held
pub record HoldsLine (line : List ℕ) (old new : Gathered) : Type 0 where
  pub document : Fields
  pub stands : IsDocumentLine line document
  pub taken : ¬ IsRefused (gathered_documents old) document
  pub added : gathered_documents new ≡ gathered_documents old ++ document ∷ []

-- the line's document, if it has one, is refused
abbrev pub HasNoDocument : List ℕ → Gathered → Type 0
HasNoDocument line builder =
    (document : Fields)
    → IsDocumentLine line document → IsRefused (gathered_documents builder) document
