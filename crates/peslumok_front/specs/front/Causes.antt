-- Why what is asked isn't written to its end. Running out of memory needs no cause.
use Rattle.std.specs.Prelude.{◌⊎◌, ◌^◌, ◌-◌, ℕ, List, Option, None, Some, codes, ⊤}
use Rattle.agg_values.specs.Names.{Named}
use Rattle.agg_values.specs.declared.after_key.AfterKey.{AfterKey}
use Rattle.agg_cache.specs.Limits.{Limits}
use Rattle.agg_segment.specs.storage.Document.{Fields}
use Rattle.agg_segment.specs.SnapshotDocuments.{SnapshotDocuments}
use Rattle.agg_segment.specs.declared.query.QueryTree.{QueryTree}
use Rattle.agg_request_tree.specs.Request.{Request}
use Rattle.agg_engine.specs.Refusals.{WalkFailsAtMost}
use Rattle.agg_engine.specs.declared.walk.error.WalkError.{WalkError}
use Rattle.peslumok_front.specs.grouping.Query.{HasNoQuery, IsQueryOf}
use Rattle.peslumok_front.specs.grouping.Request.{HasNoRequest, IsRequestOf}
use Rattle.peslumok_front.specs.declared.grouping.error.GroupingError.{GroupingError}
use Rattle.peslumok_front.specs.declared.grouping.grouping.Grouping.{Grouping}
use Rattle.peslumok_front.specs.declared.grouping.request.AskedPage.{AskedPage}
use Rattle.peslumok_front.specs.after_text.After.{IsNoAfterText}
use Rattle.peslumok_records.specs.record_index.Index.{AreOneOf}
use Rattle.peslumok_front.specs.front.Answer.{AreRead}
use Rattle.peslumok_front.specs.front.Check.{after_asked}
use Rattle.peslumok_front.specs.front.Columns.{ShareHeader, columns_asked}
use Rattle.peslumok_front.specs.front.Files.{AreUnreadable}
use Rattle.peslumok_front.specs.front.Pages.{room_of}
use Rattle.peslumok_front.specs.declared.front.asked.Asked.{Asked}
use Rattle.peslumok_front.specs.declared.front.asked.RecordFile.{RecordFile}
use Rattle.peslumok_front.specs.declared.front.failure.Failure.{Failure}
use Rattle.peslumok_front.specs.declared.front.failure.Failure.TheVariants as failure

-- ---- what is asked

-- a text of the first key is given, and is that of none
abbrev pub RefusesFirst : Grouping → Option (List ℕ) → GroupingError → Type 0
RefusesFirst grouping None why = ⊥
RefusesFirst grouping (Some text) why = IsNoAfterText grouping text why

-- why there is no key after which the first page begins
abbrev pub HasNoFirst : Grouping → Option (List ℕ) → Failure → Type 0
HasNoFirst grouping given failure.OutOfMemory = ⊤
HasNoFirst grouping given (failure.Usage why) = RefusesFirst grouping given why
HasNoFirst grouping given _ = ⊥

-- why what is asked is refused before any record is read
abbrev pub IsRefusedAtOnce : Asked → Failure → Type 0
IsRefusedAtOnce asked failure.OutOfMemory = ⊤
IsRefusedAtOnce asked (failure.Usage why) =
    HasNoQuery asked.grouping why ⊎ RefusesFirst asked.grouping (after_asked asked) why
IsRefusedAtOnce asked (failure.SameColumn name) = ShareHeader name (columns_asked asked.grouping)
IsRefusedAtOnce asked _ = ⊥

-- ---- pages

-- people have no limits: a page may take as many bytes and buckets as their types can tell
abbrev pub limits_of_people : Limits
limits_of_people =
    record { in_use = 0; memory_limit = 2 ^ 64 - 1; bucket_limit = 2 ^ 32 - 1 }

module _ (grouping : Grouping) (query : QueryTree) (documents : List Fields) where
  -- a page is refused so: the walk of its request is, over the one snapshot of the documents, by
  -- these limits
  pub record IsPageRefused (page : AskedPage) (why : WalkError) : Type 0 where
    pub request : Request QueryTree
    pub asked : IsRequestOf grouping page request
    pub snapshots : List SnapshotDocuments
    pub one : AreOneOf documents page.size snapshots
    pub cause : WalkFailsAtMost Some limits_of_people (codes "groups") query request snapshots why

  -- why there is no page
  abbrev pub HasNoPage : AskedPage → Failure → Type 0
  HasNoPage page failure.OutOfMemory = ⊤
  HasNoPage page (failure.Usage why) = HasNoRequest grouping why
  HasNoPage page (failure.Refused why) = IsPageRefused page why
  HasNoPage page _ = ⊥

module _ (asked : Asked) (query : QueryTree) (documents : List Fields) where
  -- some page of what is asked is refused so
  abbrev pub IsSomePageRefused : WalkError → Type 0
  IsSomePageRefused why =
      (after : Named AfterKey)
      × IsPageRefused asked.grouping query documents
      (record { size = room_of asked.pages; after = after }) why

  -- why the text of what is asked isn't written, where the sink may fail for a cause
  abbrev pub HasNoText : Type 0 → Failure → Type 0
  HasNoText SinkFailed failure.OutOfMemory = ⊤
  HasNoText SinkFailed (failure.Usage why) =
      HasNoRequest asked.grouping why ⊎ RefusesFirst asked.grouping (after_asked asked) why
  HasNoText SinkFailed (failure.SameColumn name) = ShareHeader name (columns_asked asked.grouping)
  HasNoText SinkFailed (failure.Refused why) = IsSomePageRefused why
  HasNoText SinkFailed failure.Unwritten = SinkFailed
  HasNoText SinkFailed _ = ⊥

-- why a text isn't written, where the sink may fail for a cause
abbrev pub IsUnwritten : Type 0 → Failure → Type 0
IsUnwritten SinkFailed failure.OutOfMemory = ⊤
IsUnwritten SinkFailed failure.Unwritten = SinkFailed
IsUnwritten SinkFailed _ = ⊥

-- ---- the whole

-- why there are no records of files; running out of memory needs no cause
abbrev pub HaveNoRecords : List RecordFile → Failure → Type 0
HaveNoRecords files failure.OutOfMemory = ⊤
HaveNoRecords files why = AreUnreadable files why

-- files hold documents, of which some page is refused so
pub record IsRefusedOf (asked : Asked) (files : List RecordFile) (why : WalkError) : Type 0 where
  pub query : QueryTree
  pub is_query : IsQueryOf asked.grouping query
  pub documents : List Fields
  pub unseen : List (List ℕ)
  pub are_read : AreRead asked.grouping query files documents unseen
  pub refused : IsSomePageRefused asked query documents why

-- what is asked can't be: there is no query, no source for an interval, or no first key
abbrev pub IsUnaskable : Asked → GroupingError → Type 0
IsUnaskable asked why =
    HasNoQuery asked.grouping why
    ⊎ (HasNoRequest asked.grouping why ⊎ RefusesFirst asked.grouping (after_asked asked) why)

-- why what is asked of files fails, where the sink may fail for a cause
abbrev pub HasFailed : Asked → List RecordFile → Type 0 → Failure → Type 0
HasFailed asked files SinkFailed failure.OutOfMemory = ⊤
HasFailed asked files SinkFailed (failure.Usage why) = IsUnaskable asked why
HasFailed asked files SinkFailed (failure.SameColumn name) =
    ShareHeader name (columns_asked asked.grouping)
HasFailed asked files SinkFailed (failure.Record name why) =
    AreUnreadable files (failure.Record name why)
HasFailed asked files SinkFailed (failure.Refused why) = IsRefusedOf asked files why
HasFailed asked files SinkFailed failure.Unwritten = SinkFailed
HasFailed asked files SinkFailed (failure.Unreadable name) = ⊥
