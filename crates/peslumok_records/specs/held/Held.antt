-- The documents of records that were read.
use Rattle.std.specs.Prelude.{◌≡◌, ◌++◌, ◌∷◌, [], List, Option, flat_map}
use Rattle.agg_segment.specs.storage.Document.{Fields}
use Rattle.agg_segment.specs.Segment.{documents_of, gathered_documents}
use Rattle.peslumok_records.specs.held.Documents.{IsRead}
use Rattle.peslumok_records.specs.declared.held.records.Records.{Records}

-- the documents of the records: those of the built segments, and those of the open one
abbrev pub held_documents : Records → List Fields
held_documents records =
    flat_map documents_of records.built.items ++ gathered_documents records.builder

-- documents like these stand in order after those that the records held
abbrev pub Adds : (List Fields → Type 0) → Records → Records → Type 0
Adds Are old new =
    (documents : List Fields) × Are documents
    × (held_documents new ≡ held_documents old ++ documents)

-- a document stands after those that the records held
pub record Holds (document : Option Fields) (old new : Records) : Type 0 where
  pub read : Fields
  pub is : IsRead document read
  pub added : held_documents new ≡ held_documents old ++ read ∷ []
