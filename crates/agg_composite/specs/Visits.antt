-- The visits of documents, and when a call is refused for its range.
use Rattle.std.specs.Prelude.{◌≡◌, ℕ, List, [], ◌∷◌, Result, Ok, Err}
use Rattle.std.specs.List.{flat_map}
use Rattle.agg_values.specs.Names.{Named}
use Rattle.agg_values.specs.Tuple.{KeyTuple}
use Rattle.agg_values.specs.declared.after_key.AfterKey.{AfterKey}
use Rattle.agg_cache.specs.declared.error.CollectError.{CollectError}
use Rattle.agg_cache.specs.declared.error.CollectError.TheVariants as refusal
use Rattle.agg_segment.specs.Segment.{Stored, documents_at}
use Rattle.agg_request_tree.specs.Occurrences.{bound_of, past_occurrences}
use Rattle.agg_request_tree.specs.Source.{Sources}
use Rattle.agg_composite.specs.accessor.Encoding.{EncodedTuple, StandsForTuple}
use Rattle.agg_composite.specs.declared.accessor.request_data.CompositeAggReqData.{
  CompositeAggReqData,
}
use Rattle.agg_composite.specs.buckets.Visits.{Visit, visits_at}

-- a visit of a document, under a parent and a tuple
abbrev pub TypedVisit : Type 0
TypedVisit = Visit KeyTuple

-- the occurrences of documents that lie past the bound, each visited under a parent, with the
-- number of its document
abbrev pub visits_past : Sources → Stored → Named AfterKey → ℕ → List ℕ → List TypedVisit
visits_past sources segment after parent docs =
    flat_map
    (λ doc. visits_at parent doc
    (past_occurrences sources (bound_of sources after) (documents_at segment (doc ∷ []))))
    docs

-- a visit of an encoded tuple stands for one of a tuple: under the same parent, of the same
-- document
abbrev pub StandsForVisit : CompositeAggReqData → Visit EncodedTuple → TypedVisit → Type 0
StandsForVisit req visit typed =
    (visit.0.0 ≡ typed.0.0) × StandsForTuple req visit.0.1 typed.0.1 × (visit.1 ≡ typed.1)

-- a call is refused for its range exactly where not all is in range, and otherwise for too many
-- occurrences or for memory alone
abbrev pub AnswersRange : Type 0 → Result (Unit {0}) CollectError → Type 0
AnswersRange in_range (Ok done) = in_range
AnswersRange in_range (Err refusal.BucketOutOfRange) = ¬ in_range
AnswersRange in_range (Err refusal.TooMany) = in_range
AnswersRange in_range (Err refusal.OutOfMemory) = in_range
AnswersRange in_range (Err (refusal.Aggregation limit)) = ⊥
AnswersRange in_range (Err refusal.CollectorFailed) = ⊥
