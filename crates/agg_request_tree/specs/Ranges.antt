-- Starts of buckets that lie within i64, and documents for which they do.
use Rattle.std.specs.Prelude.{FitsSigned, ℤ, List, All, Any, IfSome, Option}
use Rattle.std.specs.Int.{w64}
use Rattle.agg_values.specs.TypedKey.{CompositeIntermediateKey}
use Rattle.agg_segment.specs.storage.Document.{Fields}
use Rattle.agg_request_tree.specs.Request.{Request, composites_of}
use Rattle.agg_request_tree.specs.Source.{Sources, start_in, values_from}
use Rattle.agg_request_tree.specs.declared.aggregation.CompositeAggregation.{CompositeAggregation}
use Rattle.agg_request_tree.specs.declared.source as declared
use declared.CompositeAggregationSource.{CompositeAggregationSource}

-- a start lies within i64, if there is one
abbrev pub IsWithin : Option ℤ → Type 0
IsWithin start = IfSome start (λ n. FitsSigned w64 n)

-- the start of a value's bucket, if it has one, lies within i64
abbrev pub IsInRange : CompositeAggregationSource → CompositeIntermediateKey → Type 0
IsInRange source k = IsWithin (start_in source k)

-- the starts of all values that sources read in a document lie within i64
abbrev pub AreInRange : Sources → Fields → Type 0
AreInRange sources document =
    All (λ source. All (IsInRange source) (values_from source document)) sources

-- some start of a bucket of a composite lies outside i64
abbrev pub HasOwnStartOutOfRange : CompositeAggregation → List Fields → Type 0
HasOwnStartOutOfRange composite documents = ¬ (All (AreInRange composite.sources) documents)

-- some start of a bucket of a composite of a request, at any depth, lies outside i64
abbrev pub HasStartOutOfRange : {B : Type 0} → Request B → List Fields → Type 0
HasStartOutOfRange request documents =
    Any (λ composite. HasOwnStartOutOfRange composite documents) (composites_of request)
