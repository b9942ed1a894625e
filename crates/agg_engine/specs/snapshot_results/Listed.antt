-- The tuples of documents that are listed.
use Rattle.std.specs.Prelude.{◌≤◌, ◌<◌, ◌+◌, ◌*◌, ◌^◌, ℕ, List, Result, IfOk, OnOk, length}
use Rattle.agg_values.specs.Names.{Named}
use Rattle.agg_values.specs.declared.after_key.AfterKey.{AfterKey}
use Rattle.agg_values.specs.declared.error.OutOfMemory.{OutOfMemory}
use Rattle.agg_segment.specs.Segment.{Stored}
use Rattle.agg_composite.specs.accessor.Accessors.{Fits}
use Rattle.agg_composite.specs.accessor.Encoding.{EncodedTuple}
use Rattle.agg_composite.specs.accessor.Ranges.{AreAllInRange}
use Rattle.agg_composite.specs.declared.accessor.request_data.CompositeAggReqData.{
  CompositeAggReqData,
}
use Rattle.agg_composite.specs.buckets.Page.{Page}
use Rattle.agg_composite.specs.Listing.{IsLowest, past_of}

module _ (segment : Stored) (after : Named AfterKey) (req : CompositeAggReqData)
    (docs : List ℕ) where
  -- the tuples of documents may be listed: all starts are in range, and so few occurrences lie past
  -- the bound that u64 counts them
  pub record MayBeListed : Type 0 where
    pub fits : Fits segment after req
    pub range : AreAllInRange segment req.req.now.sources docs
    pub few : length (past_of segment after req docs) < 2 ^ 64

  -- the entries of the lowest of them, by a step or more for each occurrence; whatever is answered,
  -- there are at most three for each
  pub record AnswersEntries (steps steps_now : ℕ) (result : Result (Page EncodedTuple) OutOfMemory)
      : Type 0 where
    pub entries : IfOk result (IsLowest segment after req docs)
    pub least : OnOk result (steps + length (past_of segment after req docs) ≤ steps_now)
    pub most : steps_now ≤ steps + 3 * length (past_of segment after req docs)
