-- What is answered of the records of files.
use Rattle.std.specs.Prelude.{◌≡◌, ◌≢◌, [], ℕ, List, Option, None, Some, true}
use Rattle.std.specs.List.{flat_map}
use Rattle.std.specs.Io.KnownBytes.{Appends}
use Rattle.agg_values.specs.Names.{Named}
use Rattle.agg_values.specs.declared.after_key.AfterKey.{AfterKey}
use Rattle.agg_segment.specs.storage.Document.{Fields}
use Rattle.agg_segment.specs.declared.query.QueryTree.{QueryTree}
use Rattle.agg_results.specs.declared.final_results.types.AggregationResults.{AggregationResults}
use Rattle.agg_results.specs.declared.final_results.types.CompositeBucketEntry.{
  CompositeBucketEntry,
}
use Rattle.agg_results.specs.declared.final_results.types.FilterBucketResult.{FilterBucketResult}
use Rattle.peslumok_records.specs.declared.held.asked.AskedField.{AskedField}
use Rattle.peslumok_front.specs.grouping.Query.{IsQueryOf}
use Rattle.peslumok_front.specs.declared.grouping.grouping.Grouping.{Grouping}
use Rattle.peslumok_front.specs.declared.tables.columns.TableColumn.{TableColumn}
use Rattle.peslumok_texts.specs.declared.formats.OutputFormat.{OutputFormat}
use Rattle.peslumok_front.specs.after_text.After.{HaveOwnColumns, IsAfterText, NamesFirst}
use Rattle.peslumok_records.specs.record_index.Index.{unseen_names}
use Rattle.peslumok_front.specs.front.Asking.{AskAll}
use Rattle.peslumok_front.specs.front.Check.{BeginsAfter, after_asked}
use Rattle.peslumok_front.specs.front.Columns.{columns_asked}
use Rattle.peslumok_front.specs.front.Files.{AreDocumentsOfFiles}
use Rattle.peslumok_front.specs.front.Pages.{ArePages, last_after, room_of}
use Rattle.peslumok_front.specs.top_groups.Top.{AreTop}
use Rattle.peslumok_records.specs.declared.record_index.report.Report.{Report}
use Rattle.peslumok_front.specs.front.Written.{IsGroupsText, IsTextOf, groups_in, last_total}
use Rattle.peslumok_front.specs.declared.front.asked.Asked.{Asked}
use Rattle.peslumok_front.specs.declared.front.asked.Pages.{Pages}
use Rattle.peslumok_front.specs.declared.front.asked.RecordFile.{RecordFile}

-- files hold documents, in the fields that are asked for; in some of these no document has a value
pub record AreRead (grouping : Grouping) (query : QueryTree) (files : List RecordFile)
    (documents : List Fields) (unseen : List (List ℕ)) : Type 0 where
  pub fields : List AskedField
  pub ask : AskAll grouping query fields
  pub are_documents : AreDocumentsOfFiles fields files documents
  pub unseen_is : unseen ≡ unseen_names documents fields

-- the text that is told of a key, where it has one: it is read as the key, if that names the first
-- sources, and no two sources are called the same
abbrev pub TellsKey : Grouping → Option (List ℕ) → Named AfterKey → Type 0
TellsKey grouping None key = key ≡ []
TellsKey grouping (Some text) key =
    (key ≢ [])
    × (HaveOwnColumns grouping.by.items → NamesFirst grouping.by.items key
    → IsAfterText grouping text key)

-- the text of the key after which the next page begins, as the command line takes it; there is no
-- text where no page comes
abbrev pub TellsNext : Grouping → Option (List ℕ) → Named AfterKey → Type 0
TellsNext grouping None next = next ≡ []
TellsNext grouping (Some text) next = (next ≢ []) × IsAfterText grouping text next

module _ (grouping : Grouping) (query : QueryTree) (documents : List Fields) where
  -- the pages of documents after a key that are asked for, their text in columns, and the key that
  -- the last of them shows
  pub record AreWritten (asked : Pages) (format : OutputFormat) (columns : List TableColumn)
      (after next : Named AfterKey) (text : List ℕ) : Type 0 where
    pub pages : List AggregationResults
    pub are_pages : ArePages grouping query documents asked.is_all (room_of asked) after pages
    pub is_text : IsTextOf columns format true pages text
    pub shown : next ≡ last_after pages

  -- the groups with the most documents, so many of those of all pages of documents after a key, and
  -- the total of the last page
  pub record HasMost (room count : ℕ) (after : Named AfterKey) (top : List CompositeBucketEntry)
      (total : Option FilterBucketResult) : Type 0 where
    pub pages : List AggregationResults
    pub are_pages : ArePages grouping query documents true room after pages
    pub are_top : AreTop count (flat_map groups_in pages) top
    pub is_total : total ≡ last_total pages

  -- a text in columns has these groups and the total
  pub record IsTopWritten (room count : ℕ) (format : OutputFormat) (columns : List TableColumn)
      (after : Named AfterKey) (text : List ℕ) : Type 0 where
    pub top : List CompositeBucketEntry
    pub total : Option FilterBucketResult
    pub have_most : HasMost room count after top total
    pub is_text : IsGroupsText columns format true top total text

  -- the text of pages that are asked for, or of so many groups with the most documents, and that of
  -- the key after which the next page begins, which is told of pages alone
  abbrev pub IsAskedText : Option ℕ → Pages → OutputFormat → List TableColumn → Named AfterKey
      → Option (List ℕ) → List ℕ → Type 0
  IsAskedText None asked format columns after told text =
      (next : Named AfterKey)
      × AreWritten asked format columns after next text
      × TellsNext grouping told next
  IsAskedText (Some count) asked format columns after told text =
      (told ≡ None) × IsTopWritten (room_of asked) count format columns after text

-- the text of what is asked for of documents, pages or so many groups with the most of them, and
-- that of the key after which the next page begins
pub record IsWritten (top : Option ℕ) (asked : Asked) (query : QueryTree) (documents : List Fields)
    (told : Option (List ℕ)) (text : List ℕ) : Type 0 where
  pub first : Named AfterKey
  pub begins : BeginsAfter asked.grouping (after_asked asked) first
  pub written : IsAskedText asked.grouping query documents top asked.pages asked.output
      (columns_asked asked.grouping) first told text

-- a sink took the text of what is asked for of the documents of files, and a report tells in which
-- fields no document has a value
pub record IsAnswered (asked : Asked) (files : List RecordFile) (report : Report)
    (old new : Option (List ℕ)) : Type 0 where
  pub query : QueryTree
  pub is_query : IsQueryOf asked.grouping query
  pub documents : List Fields
  pub are_read : AreRead asked.grouping query files documents report.unseen.items
  pub text : List ℕ
  pub is_written : IsWritten asked.pages.top asked query documents report.next text
  pub taken : Appends old new text
