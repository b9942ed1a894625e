-- Why the text of what is asked isn't written, by why a part of it isn't.
use Rattle.std.proofs.Common.{◌≡◌, ◌≤◌, ℕ, List, arith, inl, subst}
use Rattle.agg_values.specs.Names.{Named}
use Rattle.agg_values.specs.declared.after_key.AfterKey.{AfterKey}
use Rattle.agg_segment.specs.storage.Document.{Fields}
use Rattle.agg_segment.specs.declared.query.QueryTree.{QueryTree}
use Rattle.agg_streams.specs.Causes.{Rose}
use Rattle.peslumok_front.specs.front.Causes.{HasNoPage, HasNoText, IsPageRefused, IsUnwritten}
use Rattle.peslumok_front.specs.front.Pages.{room_of}
use Rattle.peslumok_front.specs.declared.front.asked.Asked.{Asked}
use Rattle.peslumok_front.specs.declared.front.failure.Failure.{Failure}
use Rattle.peslumok_front.specs.declared.front.failure.Failure.TheVariants as failure

module _ (asked : Asked) (query : QueryTree) (documents : List Fields)
    (SinkFailed : Type 0) where
  -- there is no page after some key
  pub no-page : (room : ℕ) (after : Named AfterKey) (why : Failure) → room ≡ room_of asked.pages
      → HasNoPage asked.grouping query documents (record { size = room; after = after }) why
      → HasNoText asked query documents SinkFailed why
  no-page room after failure.OutOfMemory is cause = tt
  no-page room after (failure.Usage why) is cause = inl cause
  no-page room after (failure.Refused why) is cause = (
    after,
    subst (λ size. IsPageRefused asked.grouping query documents
        (record { size = size; after = after }) why) is cause,
  )
  no-page room after (failure.SameColumn name) is cause = absurd cause
  no-page room after (failure.Record name why) is cause = absurd cause
  no-page room after (failure.Unreadable name) is cause = absurd cause
  no-page room after failure.Unwritten is cause = absurd cause

  -- it isn't taken by the sink
  pub not-taken : (why : Failure) → IsUnwritten SinkFailed why
      → HasNoText asked query documents SinkFailed why
  not-taken failure.OutOfMemory cause = tt
  not-taken failure.Unwritten cause = cause
  not-taken (failure.Usage why) cause = absurd cause
  not-taken (failure.SameColumn name) cause = absurd cause
  not-taken (failure.Refused why) cause = absurd cause
  not-taken (failure.Record name why) cause = absurd cause
  not-taken (failure.Unreadable name) cause = absurd cause

  -- the sink may fail for another cause
  pub sink-weaker : (Otherwise : Type 0) (why : Failure) → (SinkFailed → Otherwise)
      → HasNoText asked query documents SinkFailed why
      → HasNoText asked query documents Otherwise why
  sink-weaker Otherwise failure.OutOfMemory weaker cause = tt
  sink-weaker Otherwise failure.Unwritten weaker cause = weaker cause
  sink-weaker Otherwise (failure.Usage why) weaker cause = cause
  sink-weaker Otherwise (failure.SameColumn name) weaker cause = cause
  sink-weaker Otherwise (failure.Refused why) weaker cause = cause
  sink-weaker Otherwise (failure.Record name why) weaker cause = absurd cause
  sink-weaker Otherwise (failure.Unreadable name) weaker cause = absurd cause

-- a count that rises from a later one rises from an earlier one
pub rose-before : (first before now : ℕ) → first ≤ before → Rose before now → Rose first now
rose-before first before now later rose =
    omega (arith, later, rose)

-- a sink took no text after a later count
pub not-taken-later : (asked : Asked) (query : QueryTree) (documents : List Fields)
    (first before now : ℕ) (why : Failure) → first ≤ before → IsUnwritten (Rose before now) why
    → HasNoText asked query documents (Rose first now) why
not-taken-later asked query documents first before now why later cause =
    sink-weaker asked query documents (Rose before now) (Rose first now) why
    (rose-before first before now later)
    (not-taken asked query documents (Rose before now) why cause)
