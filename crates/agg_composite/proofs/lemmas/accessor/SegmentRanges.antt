-- Starts in range in one segment that request data fit are in range in each that they fit.
use Rattle.std.proofs.Common.{ℕ, List}
use Rattle.agg_values.specs.Names.{Named}
use Rattle.agg_values.specs.declared.after_key.AfterKey.{AfterKey}
use Rattle.agg_segment.specs.Segment.{Stored}
use Rattle.agg_composite.specs.accessor.Accessors.{Fits}
use Rattle.agg_composite.specs.accessor.Ranges.{AreAllInRange}
use Rattle.agg_composite.specs.declared.accessor.request_data.CompositeAggReqData.{
  CompositeAggReqData,
}
use Rattle.agg_composite.proofs.lemmas.accessor.StartRanges.{range-within, within-range}

pub range-everywhere : (req : CompositeAggReqData) (docs : List ℕ)
    → ((segment : Stored) × (after : Named AfterKey) × Fits segment after req
    × AreAllInRange segment req.req.now.sources docs)
    → (segment : Stored) (after : Named AfterKey) → Fits segment after req
    → AreAllInRange segment req.req.now.sources docs
range-everywhere req docs found segment after fit =
    within-range segment after docs req.req.now.sources req.composite_accessors fit
    (range-within found.0 found.1 docs req.req.now.sources req.composite_accessors found.2
    found.3)
