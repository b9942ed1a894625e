-- Whether starts of buckets lie within i64.
use Rattle.std.specs.Prelude.{List, All, Any, Bool, MatchBool}
use Rattle.agg_segment.specs.storage.Document.{Fields}
use Rattle.agg_request_tree.specs.Ranges.{AreInRange, HasOwnStartOutOfRange}
use Rattle.agg_request_tree.specs.declared.aggregation.CompositeAggregation.{CompositeAggregation}

-- all starts of buckets of composites over documents lie within i64, or some composite has one
-- outside
abbrev pub TellsRange : Bool → List CompositeAggregation → List Fields → Type 0
TellsRange is_within composites documents =
    MatchBool is_within
    (All (λ composite. All (AreInRange composite.sources) documents) composites)
    (Any (λ composite. HasOwnStartOutOfRange composite documents) composites)
