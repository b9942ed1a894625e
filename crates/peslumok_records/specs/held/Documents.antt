-- Documents that are read one by one.
use Rattle.std.specs.Prelude.{◌≡◌, ◌∷◌, [], List, Option, Some}
use Rattle.std.specs.List.{AllZip}
use Rattle.agg_segment.specs.storage.Document.{Fields}
use Rattle.agg_segment.specs.SegmentLimits.{IsMixed}

-- a segment can hold the document: no field has a number below zero and one above those of an i64
abbrev pub FitsSegment : Fields → Type 0
FitsSegment document = ¬ (IsMixed (document ∷ []))

-- this can be read, and this is its document, which a segment can hold
pub record IsRead (read : Option Fields) (document : Fields) : Type 0 where
  pub is : read ≡ Some document
  pub fits : FitsSegment document

-- all of these can be read, and these are their documents
abbrev pub AreRead : List (Option Fields) → List Fields → Type 0
AreRead read documents = AllZip IsRead read documents
