-- The documents of files, and why files can't be read.
use Rattle.std.specs.Prelude.{◌≡◌, ◌++◌, ◌∷◌, [], ℕ, List, Any, ⊤}
use Rattle.agg_segment.specs.storage.Document.{Fields}
use Rattle.peslumok_records.specs.declared.held.asked.AskedField.{AskedField}
use Rattle.peslumok_records.specs.records.Formats.{AreDocumentsOf}
use Rattle.peslumok_front.specs.declared.front.asked.RecordFile.{RecordFile}
use Rattle.peslumok_front.specs.declared.front.failure.Failure.{Failure}
use Rattle.peslumok_front.specs.declared.front.failure.Failure.TheVariants as failure

-- the documents of a file, by the asked fields
abbrev pub AreDocumentsOfFile : List AskedField → RecordFile → List Fields → Type 0
AreDocumentsOfFile asked file documents =
    AreDocumentsOf file.format asked file.bytes.items documents

-- the documents of files, those of one after those of another
abbrev pub AreDocumentsOfFiles : List AskedField → List RecordFile → List Fields → Type 0
AreDocumentsOfFiles asked [] documents = documents ≡ []
AreDocumentsOfFiles asked (file ∷ files) documents =
    (own rest : List Fields)
    × AreDocumentsOfFile asked file own
    × AreDocumentsOfFiles asked files rest
    × (documents ≡ own ++ rest)

-- why a file of a name can't be read: a record of it can't; running out of memory needs no cause
abbrev pub IsUnreadable : List ℕ → Failure → Type 0
IsUnreadable name failure.OutOfMemory = ⊤
IsUnreadable name (failure.Record its_name why) = its_name ≡ name
IsUnreadable name _ = ⊥

-- why files can't be read: one of them can't
abbrev pub AreUnreadable : List RecordFile → Failure → Type 0
AreUnreadable files why = Any (λ file. IsUnreadable file.name.now why) files
