-- The documents of files, one file more.
use Rattle.std.proofs.Common.{◌≡◌, ◌++◌, ◌∷◌, ◌∙◌, [], List, ap, append_assoc, append-nil, refl}
use Rattle.std.proofs.Common.{sym}
use Rattle.agg_segment.specs.storage.Document.{Fields}
use Rattle.peslumok_records.specs.declared.held.asked.AskedField.{AskedField}
use Rattle.peslumok_front.specs.front.Files.{AreDocumentsOfFile, AreDocumentsOfFiles}
use Rattle.peslumok_front.specs.declared.front.asked.RecordFile.{RecordFile}

-- the documents of one file more stand after those of the files before
pub file-more : (asked : List AskedField) (files : List RecordFile) (file : RecordFile)
    (documents own all : List Fields)
    → AreDocumentsOfFiles asked files documents → AreDocumentsOfFile asked file own
    → all ≡ documents ++ own → AreDocumentsOfFiles asked (files ++ file ∷ []) all
file-more asked [] file documents own all none is joined =
    (own, [], is, refl, joined ∙ ap (λ d. d ++ own) none ∙ sym (append-nil own))
file-more asked (first ∷ files) file documents own all (first_own, rest, of_first, of_rest, are) is
    joined = (
      first_own,
      rest ++ own,
      of_first,
      file-more asked files file rest own (rest ++ own) of_rest is refl,
      joined ∙ ap (λ d. d ++ own) are ∙ append_assoc first_own rest own,
    )
