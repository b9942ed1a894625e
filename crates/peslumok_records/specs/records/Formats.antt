-- The documents of a text in each format.
use Rattle.std.specs.Prelude.{ℕ, List}
use Rattle.std.specs.Str.{IsUtf8}
use Rattle.csv.specs.Reading.{strip_bom}
use Rattle.agg_segment.specs.storage.Document.{Fields}
use Rattle.peslumok_records.specs.declared.held.asked.AskedField.{AskedField}
use Rattle.peslumok_records.specs.cells.Table.{AreTableDocuments}
use Rattle.peslumok_records.specs.objects.JsonRecords.{AreItemDocuments}
use Rattle.peslumok_records.specs.objects.Lines.{AreLineDocuments, lines_of}
use Rattle.peslumok_texts.specs.declared.formats.RecordFormat.{RecordFormat}
use Rattle.peslumok_texts.specs.declared.formats.RecordFormat.TheVariants as format

-- these are the documents of a text in a format, by the asked fields
abbrev pub AreDocumentsOf : RecordFormat → List AskedField → List ℕ → List Fields → Type 0
AreDocumentsOf format.JsonLines asked bytes documents =
    IsUtf8 (strip_bom bytes) × AreLineDocuments asked (lines_of (strip_bom bytes)) documents
AreDocumentsOf format.Json asked bytes documents =
    IsUtf8 (strip_bom bytes) × AreItemDocuments asked (strip_bom bytes) documents
AreDocumentsOf format.Csv asked bytes documents = AreTableDocuments 44 bytes asked documents
AreDocumentsOf format.Tsv asked bytes documents = AreTableDocuments 9 bytes asked documents
