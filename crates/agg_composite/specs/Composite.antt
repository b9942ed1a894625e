-- What a collector holds for the visits of its documents, and what it hands on.
use Rattle.std.specs.Prelude.{◌≡◌, ◌==◌, ◌&&◌, ◌++◌, ◌≤◌, ◌+◌, ℕ, Bool, true, false, List, Option}
use Rattle.std.specs.Prelude.{get_or, [], length, Result, Some}
use Rattle.std.specs.List.{AllZip, sum_by}
use Rattle.agg_values.specs.KeyOrder.{SourceRules}
use Rattle.agg_values.specs.Tuple.{KeyTuple}
use Rattle.agg_cache.specs.Waiting.{docs_of, is_id, pairs_of}
use Rattle.agg_cache.specs.declared.cache.Batch.{Batch}
use Rattle.agg_cache.specs.declared.error.CollectError.{CollectError}
use Rattle.agg_cache.specs.declared.error.CollectError.TheVariants as refusal
use Rattle.agg_request_tree.specs.Occurrences.{same_tuple}
use Rattle.agg_composite.specs.accessor.Encoding.{EncodedTuple, encoded_tuple_order}
use Rattle.agg_composite.specs.declared.accessor.request_data.CompositeAggReqData.{
  CompositeAggReqData,
}
use Rattle.agg_composite.specs.buckets.Cut.{counts_of, cut, spread, tuples_under}
use Rattle.agg_composite.specs.buckets.Node.{BucketsFor, IsGrown, IsPast, Node, TooManyVisits}
use Rattle.agg_composite.specs.buckets.Node.{found}
use Rattle.agg_composite.specs.buckets.Page.{Page}
use Rattle.agg_composite.specs.buckets.Visits.{Owner, Visit, is_owner}
use Rattle.agg_composite.specs.declared.buckets.bucket.Bucket.{Bucket}
use Rattle.agg_composite.specs.declared.buckets.visit_error.VisitError.{VisitError}
use Rattle.agg_composite.specs.declared.buckets.visit_error.VisitError.TheVariants.{TooMany}
use Rattle.agg_composite.specs.Answers.{Answers}
use Rattle.agg_composite.specs.Visits.{StandsForVisit, TypedVisit}

-- a collector: how many sources a tuple may have, the buckets, the cache with the number of its
-- pushes, and whether documents are handed on at all
pub record Composite (C : Type 0) : Type 0 where
  pub room : ℕ
  pub node : Node EncodedTuple
  pub cache : C × ℕ
  pub hands_on : Bool

-- the buckets of a parent
abbrev pub page_of : {C : Type 0} → Composite C → ℕ → Page EncodedTuple
page_of collector parent = get_or collector.node.parents parent []

-- how many buckets a collector holds, of all parents
abbrev pub num_buckets : {C : Type 0} → Composite C → ℕ
num_buckets collector = sum_by length collector.node.parents

-- the bucket of an owner
abbrev pub bucket_of : {C : Type 0} → Composite C → Owner EncodedTuple → Option Bucket
bucket_of collector o = found encoded_tuple_order collector.node.parents o

-- the documents of visits under a parent whose tuple is this one
abbrev pub docs_under : SourceRules → ℕ → KeyTuple → List TypedVisit → List ℕ
docs_under rules parent key visited =
    docs_of (λ (o : Owner KeyTuple). (parent == o.0) && same_tuple rules key o.1) visited

-- a collector is right for the visits that it made and for what it gave: its buckets are those of
-- all that was handed on under their ids, and this was given or waits, if it hands documents on
pub record CompositeFor {C : Type 0} (waiting : C → ℕ → List ℕ) (req : CompositeAggReqData)
    (collector : Composite C) (visited : List TypedVisit) (given : List (ℕ × ℕ)) : Type 0 where
  pub visits : List (Visit EncodedTuple)
  pub handed : List (ℕ × ℕ)
  pub stand : AllZip (StandsForVisit req) visits visited
  pub buckets : BucketsFor encoded_tuple_order req.size collector.node.parents collector.node.next
      visits handed
  pub waits : collector.hands_on ≡ true → (id : ℕ)
      → docs_of (is_id id) given ++ waiting collector.cache.0 id ≡ docs_of (is_id id) handed

-- a collector made visits: where it was right, it is right with these after the others, each parent
-- has the cut of what it had with these after it, and what came to wait under a bucket's id are the
-- documents of its visits; at most one id a visit is given, no parent has fewer buckets, a bucket
-- that stays keeps its id, and a new one has an id that wasn't given
pub record CompositeTakes {C : Type 0} (waiting : C → ℕ → List ℕ) (req : CompositeAggReqData)
    (typed : List TypedVisit) (old new : Composite C) : Type 0 where
  pub visits : List (Visit EncodedTuple)
  pub stand : AllZip (StandsForVisit req) visits typed
  pub takes : (visited : List TypedVisit) (given : List (ℕ × ℕ))
      → CompositeFor waiting req old visited given
      → CompositeFor waiting req new (visited ++ typed) given
  pub cut : (visited : List TypedVisit) (given : List (ℕ × ℕ))
      → CompositeFor waiting req old visited given → (parent : ℕ)
      → counts_of (page_of new parent) ≡ cut encoded_tuple_order req.size
      (spread (counts_of (page_of old parent)) ++ tuples_under parent visits)
  pub drawn : old.node.next ≤ new.node.next
  pub few : new.node.next ≤ old.node.next + length typed
  pub no_fewer : (parent : ℕ) → length (page_of old parent) ≤ length (page_of new parent)
  pub pushed : (visited : List TypedVisit) (given : List (ℕ × ℕ))
      → CompositeFor waiting req old visited given → old.hands_on ≡ true
      → (o : Owner EncodedTuple) (b : Bucket) → bucket_of new o ≡ Some b
      → waiting new.cache.0 b.id
      ≡ waiting old.cache.0 b.id ++ docs_of (is_owner encoded_tuple_order o) visits
  pub grown : (o : Owner EncodedTuple)
      → IsGrown encoded_tuple_order old.node.next (length typed)
      (IsPast encoded_tuple_order req.size new.node.parents o) (bucket_of old o) (bucket_of new o)
  pub prepared : length new.node.parents ≡ length old.node.parents
  pub room : new.room ≡ old.room
  pub hands_on : new.hands_on ≡ old.hands_on
  pub unpushed : old.hands_on ≡ false → new.cache ≡ old.cache

-- what visits of a collector answer: an Ok has made them, and too many are so many that an id would
-- be the last of its type, or a count would pass its type
abbrev pub AnswersVisits : {C : Type 0} → (C → ℕ → List ℕ) → CompositeAggReqData
    → List TypedVisit → Composite C → Composite C → ℕ → ℕ → Result (Unit {0}) VisitError → Type 0
AnswersVisits waiting req typed old new =
    Answers TooMany (CompositeTakes waiting req typed old new)
    (TooManyVisits encoded_tuple_order (length typed) old.node) (length typed)

-- what a collector answers for visits, as these do
abbrev pub AnswersCollect : {C : Type 0} → (C → ℕ → List ℕ) → CompositeAggReqData
    → List TypedVisit → Composite C → Composite C → ℕ → ℕ → Result (Unit {0}) CollectError → Type 0
AnswersCollect waiting req typed old new =
    Answers refusal.TooMany (CompositeTakes waiting req typed old new)
    (TooManyVisits encoded_tuple_order (length typed) old.node) (length typed)

-- a collector gave batches: where it was right, it is right with these given, and nothing waits
pub record CompositeGives {C : Type 0} (waiting : C → ℕ → List ℕ) (batches : List Batch)
    (old new : Composite C) : Type 0 where
  pub gives : (req : CompositeAggReqData) (visited : List TypedVisit) (given : List (ℕ × ℕ))
      → CompositeFor waiting req old visited given
      → CompositeFor waiting req new visited (given ++ pairs_of batches)
  pub emptied : (id : ℕ) → waiting new.cache.0 id ≡ []
