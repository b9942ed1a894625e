-- A text has at most one list of documents.
use Rattle.std.proofs.Common.{◌≡◌, ℕ, List}
use Rattle.csv.specs.Reading.{strip_bom}
use Rattle.agg_segment.specs.storage.Document.{Fields}
use Rattle.peslumok_records.specs.declared.held.asked.AskedField.{AskedField}
use Rattle.peslumok_records.proofs.lemmas.held.SoleDocuments.{read_once}
use Rattle.peslumok_records.proofs.lemmas.cells.SoleRows.{table_once}
use Rattle.peslumok_records.proofs.lemmas.objects.SoleItems.{items_once}
use Rattle.peslumok_records.specs.records.Formats.{AreDocumentsOf}
use Rattle.peslumok_texts.specs.declared.formats.RecordFormat.{RecordFormat}
use Rattle.peslumok_texts.specs.declared.formats.RecordFormat.TheVariants as format

pub documents_once : (f : RecordFormat) (asked : List AskedField) (bytes : List ℕ)
    (first second : List Fields) → AreDocumentsOf f asked bytes first
    → AreDocumentsOf f asked bytes second → first ≡ second
documents_once format.JsonLines asked bytes first second a b = read_once _ first second a.1 b.1
documents_once format.Json asked bytes first second a b =
    items_once asked (strip_bom bytes) first second a.1 b.1
documents_once format.Csv asked bytes first second a b = table_once 44 bytes asked first second a b
documents_once format.Tsv asked bytes first second a b = table_once 9 bytes asked first second a b
