-- The tuples that a collector holds, whatever its calls answered.
use Rattle.std.specs.Prelude.{[], ℕ, All, List, get_or}
use Rattle.std.specs.Map.{keys_of}
use Rattle.agg_values.specs.Names.{Named}
use Rattle.agg_values.specs.declared.after_key.AfterKey.{AfterKey}
use Rattle.agg_segment.specs.Segment.{Stored}
use Rattle.agg_composite.specs.accessor.Accessors.{Fits}
use Rattle.agg_composite.specs.accessor.Decoded.{IsEncoded}
use Rattle.agg_composite.specs.accessor.Encoding.{EncodedTuple}
use Rattle.agg_composite.specs.accessor.Ranges.{AreAllInRange}
use Rattle.agg_composite.specs.declared.accessor.request_data.CompositeAggReqData.{
  CompositeAggReqData,
}
use Rattle.agg_composite.specs.buckets.Node.{Node}
use Rattle.agg_composite.specs.Composite.{Composite}

-- the tuples of each parent's buckets stand for tuples of this request data
abbrev pub AreTuplesOf : CompositeAggReqData → Node EncodedTuple → Type 0
AreTuplesOf req node =
    (parent : ℕ) → All (IsEncoded req) (keys_of (get_or node.parents parent []))

-- where these tuples are of some request data, as those of the old buckets, those of the new are
abbrev pub KeepTuples : List EncodedTuple → Node EncodedTuple → Node EncodedTuple → Type 0
KeepTuples tuples old new =
    (req : CompositeAggReqData) → All (IsEncoded req) tuples → AreTuplesOf req old
    → AreTuplesOf req new

-- where starts in documents are in range, and the tuples of the old buckets are of request data,
-- those of the new are
abbrev pub KeepTuplesAt : CompositeAggReqData → List ℕ → Node EncodedTuple → Node EncodedTuple
    → Type 0
KeepTuplesAt req docs old new =
    (segment : Stored) (after : Named AfterKey) → Fits segment after req
    → AreAllInRange segment req.req.now.sources docs → AreTuplesOf req old → AreTuplesOf req new

-- the tuples that a collector holds do
abbrev pub HoldsTuplesOf : {C : Type 0} → CompositeAggReqData → Composite C → Type 0
HoldsTuplesOf req collector = AreTuplesOf req collector.node
