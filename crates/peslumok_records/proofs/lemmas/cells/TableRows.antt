-- Rows of a table, appended one after the other.
use Rattle.std.proofs.Common.{ℕ, List, [], ◌∷◌, ◌++◌, map, sym, subst, append_assoc, append-nil}
use Rattle.std.specs.Prelude.{Option}
use Rattle.peslumok_records.specs.held.Documents.{AreRead}
use Rattle.peslumok_records.specs.held.Held.{Adds, Holds}
use Rattle.peslumok_records.specs.declared.held.asked.AskedField.{AskedField}
use Rattle.peslumok_records.specs.declared.held.records.Records.{Records}
use Rattle.peslumok_records.proofs.lemmas.held.HeldDocuments.{adds_none, adds_one}
use Rattle.peslumok_records.specs.cells.Cells.{row_document}
use Rattle.peslumok_records.specs.cells.Rows.{HasRead}
use Rattle.peslumok_records.specs.declared.cells.rows.CellRows.{CellRows}

-- more rows were read, and their documents appended
abbrev pub GoesOn : List AskedField → List (Option ℕ) → CellRows → CellRows → Records → Records
    → Type 0
GoesOn asked places start at old new =
    (delimiter : ℕ) (text : List ℕ) (before : List (List (List ℕ)))
    → HasRead delimiter text before start
    → (more : List (List (List ℕ)))
    × HasRead delimiter text (before ++ more) at
    × Adds (AreRead (map (row_document asked places) more)) old new

pub goes_on-none : (asked : List AskedField) (places : List (Option ℕ)) (at : CellRows)
    (records : Records) → GoesOn asked places at at records records
goes_on-none asked places at records delimiter text before has = (
  [],
  subst (λ rows. HasRead delimiter text rows at) (sym (append-nil before)) has,
  adds_none records,
)

pub goes_on-more : (asked : List AskedField) (places : List (Option ℕ)) (start at next : CellRows)
    (row : List (List ℕ)) (old now new : Records)
    → GoesOn asked places start at old now
    → ((delimiter : ℕ) (text : List ℕ) (before : List (List (List ℕ)))
    → HasRead delimiter text before at → HasRead delimiter text (before ++ row ∷ []) next)
    → Holds (row_document asked places row) now new
    → GoesOn asked places start next old new
goes_on-more asked places start at next row old now new first read holds delimiter text before has =
    let (more, here, held) = first delimiter text before has in (
      more ++ row ∷ [],
      subst (λ rows. HasRead delimiter text rows next) (append_assoc before more (row ∷ []))
          (read delimiter text (before ++ more) here),
      adds_one (row_document asked places) more row old now new held holds,
    )
