-- Why a snapshot has no results.
use Rattle.std.proofs.Common.{◌≡◌, List, Result, Ok, Err, IfErr, IsErrAnd, OnOk, refl, sym, subst}
use Rattle.std.proofs.lemmas.Result.{err_from_is_err_and}
use Rattle.agg_cache.specs.Limits.{Limits}
use Rattle.agg_segment.specs.storage.Document.{Fields}
use Rattle.agg_segment.specs.Query.{matches}
use Rattle.agg_segment.specs.Segment.{Stored}
use Rattle.agg_segment.specs.declared.query.QueryTree.{QueryTree}
use Rattle.agg_request_tree.specs.Ranges.{HasStartOutOfRange}
use Rattle.agg_request_tree.specs.Request.{Request}
use Rattle.agg_request_tree.specs.Uncut.{CountsTooMany}
use Rattle.agg_engine.specs.snapshot_results.Answers.{IsCountRefusal, IsMemoryRefusal, IsRefusal}
use Rattle.agg_engine.specs.snapshot_results.Answers.{IsStartRefusal}
use Rattle.agg_engine.specs.snapshot_results.Documents.{matching_in}
use Rattle.agg_engine.specs.snapshot_results.Asked.{IsAsked, MayBeAsked}
use Rattle.agg_engine.specs.declared.snapshot_results.context.PageRequest.{PageRequest}
use Rattle.agg_engine.specs.declared.snapshot_results.error.SnapshotError.{SnapshotError}
use Rattle.agg_engine.specs.declared.snapshot_results.error.SnapshotError.TheVariants as error

-- a page that may be asked asks a request
pub asked-some : {B : Type 0} (page : PageRequest B) → MayBeAsked page
    → (request : Request QueryTree) × IsAsked page request
asked-some page may =
    (_, record { made = may.trees.0; trees = may.trees.1; is = refl })

-- an error that is handed on has the cause of the error that is given
pub caused-by : {T E : Type 0} (P : E → Type 0) (result : Result T E) (given : E)
    → IsErrAnd result (λ e. e ≡ given) → P given → IfErr result P
caused-by P result given kept cause =
    let found = err_from_is_err_and result kept in
    subst (λ r. IfErr r P) (sym found.1) (subst P (sym found.2) cause)

-- what is so holds on an Ok
pub on_ok-so : {T E P : Type 0} (result : Result T E) → P → OnOk result P
on_ok-so (Ok value) so = so
on_ok-so (Err error) so = tt

module _ (request : Request QueryTree) (query : QueryTree) (segments : List Stored)
    (limits : Limits) where
  abbrev documents : List Fields
  documents = matching_in query segments

  -- a refusal of the starts is one of all
  pub refusal-starts : (given : SnapshotError) → IsStartRefusal request documents given
      → IsRefusal request query segments limits given
  refusal-starts error.BucketOutOfRange refused = refused
  refusal-starts error.TooMany refused = absurd refused
  refusal-starts (error.MemoryExceeded told current) refused = absurd refused
  refusal-starts error.OutOfMemory refused = absurd refused

  -- a refusal of the counts is one of all, where no start is out of range
  pub refusal-counts : (given : SnapshotError) → ¬ (HasStartOutOfRange request documents)
      → IsCountRefusal request documents given → IsRefusal request query segments limits given
  refusal-counts error.BucketOutOfRange in_range refused = absurd refused
  refusal-counts error.TooMany in_range refused = (in_range, refused)
  refusal-counts (error.MemoryExceeded told current) in_range refused = absurd refused
  refusal-counts error.OutOfMemory in_range refused = tt

  -- a refusal of memory is one of all, where no start is out of range and few are counted
  pub refusal-memory : (given : SnapshotError) → ¬ (HasStartOutOfRange request documents)
      → ¬ (CountsTooMany matches request documents)
      → IsMemoryRefusal request query segments limits given
      → IsRefusal request query segments limits given
  refusal-memory error.BucketOutOfRange in_range few refused = absurd refused
  refusal-memory error.TooMany in_range few refused = absurd refused
  refusal-memory (error.MemoryExceeded told current) in_range few refused =
      (in_range, few, refused)
  refusal-memory error.OutOfMemory in_range few refused = tt
