-- What the parts of a walk answer.
use Rattle.std.specs.Prelude.{◌≡◌, ◌≤◌, ◌+◌, ◌*◌, ℕ, List, Result, OnOk, IsErrOf, length}
use Rattle.std.specs.List.{AllZip}
use Rattle.agg_values.specs.Names.{Named}
use Rattle.agg_values.specs.declared.after_key.AfterKey.{AfterKey}
use Rattle.agg_segment.specs.Segment.{Stored}
use Rattle.agg_composite.specs.accessor.Accessors.{Fits}
pub use Rattle.agg_composite.specs.accessor.Ranges.{AreAllInRange}
use Rattle.agg_composite.specs.accessor.Encoding.{EncodedTuple, encoded_tuple_order}
use Rattle.agg_composite.specs.declared.accessor.request_data.CompositeAggReqData.{
  CompositeAggReqData,
}
use Rattle.agg_composite.specs.buckets.Node as node
use Rattle.agg_composite.specs.buckets.Node.{Node, NodeTakes, Takes, TooManyVisits}
use Rattle.agg_composite.specs.buckets.Visits.{Visit}
use Rattle.agg_composite.specs.declared.buckets.visit_error.VisitError.{VisitError}
use Rattle.agg_composite.specs.declared.buckets.visit_error.VisitError.TheVariants.{TooMany}
use Rattle.agg_composite.specs.Visits.{StandsForVisit, TypedVisit, visits_past}

-- an Ok has made so many visits, by one to three steps each; the error that says too many has its
-- cause; whatever is answered, steps never fall and are no more than three for each visit
pub record Answers {E : Type 0} (many : E) (visits refuses : Type 0) (count steps steps_now : ℕ)
    (result : Result (Unit {0}) E) : Type 0 where
  pub ok : OnOk result visits
  pub least : OnOk result (steps + count ≤ steps_now)
  pub too_many : IsErrOf result many → refuses
  pub later : steps ≤ steps_now
  pub most : steps_now ≤ steps + 3 * count

-- what visits of encoded tuples of one document answer
abbrev pub AnswersEncoded : List EncodedTuple → Node EncodedTuple → Node EncodedTuple → ℕ → ℕ
    → Result (Unit {0}) VisitError → Type 0
AnswersEncoded tuples old new =
    Answers TooMany (Takes encoded_tuple_order tuples old new)
    (node.TooMany encoded_tuple_order tuples old) (length tuples)

-- visits that stand for these were made, under the parent that is visited now
pub record TakesVisits (req : CompositeAggReqData) (typed : List TypedVisit)
    (old new : Node EncodedTuple) : Type 0 where
  pub visits : List (Visit EncodedTuple)
  pub stand : AllZip (StandsForVisit req) visits typed
  pub node : NodeTakes encoded_tuple_order visits old new
  pub parent : new.parent ≡ old.parent

-- what a walk over documents answers, in each segment where all starts lie within i64 and for each
-- after key that has the accessors
abbrev pub AnswersDocuments : CompositeAggReqData → List ℕ → Node EncodedTuple
    → Node EncodedTuple → ℕ → ℕ → Result (Unit {0}) VisitError → Type 0
AnswersDocuments req docs old new steps steps_now result =
    (segment : Stored) (after : Named AfterKey) → Fits segment after req
    → AreAllInRange segment req.req.now.sources docs
    → (typed : List TypedVisit)
    → typed ≡ visits_past req.req.now.sources segment after old.parent docs
    → Answers TooMany (TakesVisits req typed old new)
    (TooManyVisits encoded_tuple_order (length typed) old) (length typed) steps steps_now result
