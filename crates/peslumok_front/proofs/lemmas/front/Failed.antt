-- Why what is asked of files fails, by why a part of it does.
use Rattle.std.proofs.Common.{ℕ, List, inl, inr}
use Rattle.agg_segment.specs.storage.Document.{Fields}
use Rattle.agg_segment.specs.declared.query.QueryTree.{QueryTree}
use Rattle.peslumok_front.specs.grouping.Query.{HasNoQuery, IsQueryOf}
use Rattle.peslumok_front.specs.declared.grouping.error.GroupingError.{GroupingError}
use Rattle.peslumok_front.specs.front.Answer.{AreRead}
use Rattle.peslumok_front.specs.front.Causes.{HasFailed, HasNoText, HaveNoRecords}
use Rattle.peslumok_front.specs.front.Codes.{failure_of_grouping}
use Rattle.peslumok_front.specs.front.Files.{AreUnreadable}
use Rattle.peslumok_front.specs.declared.front.asked.Asked.{Asked}
use Rattle.peslumok_front.specs.declared.front.asked.RecordFile.{RecordFile}
use Rattle.peslumok_front.specs.declared.front.failure.Failure.{Failure}
use Rattle.peslumok_front.specs.declared.front.failure.Failure.TheVariants as failure
use Rattle.peslumok_front.proofs.lemmas.front.Failures.{of-grouping}

-- files that can't be read give no records
pub no-records : (files : List RecordFile) (why : Failure) → AreUnreadable files why
    → HaveNoRecords files why
no-records files failure.OutOfMemory cause = tt
no-records files (failure.Record name why) cause = cause
no-records files (failure.Usage why) cause = cause
no-records files (failure.SameColumn name) cause = cause
no-records files (failure.Refused why) cause = cause
no-records files (failure.Unreadable name) cause = cause
no-records files failure.Unwritten cause = cause

module _ (asked : Asked) (files : List RecordFile) (SinkFailed : Type 0) where
  -- there is no query
  pub query-failed : (why : GroupingError) → HasNoQuery asked.grouping why
      → HasFailed asked files SinkFailed (failure_of_grouping why)
  query-failed why cause =
      of-grouping (HasNoQuery asked.grouping) (HasFailed asked files SinkFailed) tt
      (λ error has. inl has) why cause

  -- some file can't be read
  pub files-failed : (why : Failure) → HaveNoRecords files why
      → HasFailed asked files SinkFailed why
  files-failed failure.OutOfMemory cause = tt
  files-failed (failure.Record name why) cause = cause
  files-failed (failure.Usage why) cause = absurd cause.4
  files-failed (failure.SameColumn name) cause = absurd cause.4
  files-failed (failure.Refused why) cause = absurd cause.4
  files-failed (failure.Unreadable name) cause = cause.4
  files-failed failure.Unwritten cause = absurd cause.4

  -- there is no text of what is asked of the documents of files
  pub text-failed : (query : QueryTree) (documents : List Fields) (unseen : List (List ℕ))
      → IsQueryOf asked.grouping query → AreRead asked.grouping query files documents unseen
      → (why : Failure) → HasNoText asked query documents SinkFailed why
      → HasFailed asked files SinkFailed why
  text-failed query documents unseen is_query read failure.OutOfMemory cause = tt
  text-failed query documents unseen is_query read (failure.Usage why) cause =
      inr cause
  text-failed query documents unseen is_query read (failure.SameColumn name) cause =
      cause
  text-failed query documents unseen is_query read (failure.Refused why) cause =
      record {
        query = query;
        is_query = is_query;
        documents = documents;
        unseen = unseen;
        are_read = read;
        refused = cause;
      }
  text-failed query documents unseen is_query read failure.Unwritten cause = cause
  text-failed query documents unseen is_query read (failure.Record name why) cause =
      absurd cause
  text-failed query documents unseen is_query read (failure.Unreadable name) cause =
      cause
