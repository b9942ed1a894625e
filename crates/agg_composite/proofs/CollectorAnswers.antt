-- What a collector answers, of what its walk answered.
use Rattle.std.proofs.Common.{◌≡◌, ℕ, ◌+◌, ◌≤◌, List, [], ◌++◌, Bool, true, false, Ok, Err, Result}
use Rattle.std.proofs.Common.{IsErrAnd, MatchBool, Option, None, Some, length, get_or, refl, sym}
use Rattle.std.proofs.Common.{ap, ◌∙◌, ◌⊎◌, ◌^◌, subst, ⊎_elim, append-nil, append_assoc, arith}
use Rattle.std.specs.Prelude.{IsErrOf}
use Rattle.std.proofs.lemmas.List.{append_cancel_left}
use Rattle.std.proofs.lemmas.Result.{err_from_is_err_and}
use Rattle.std.proofs.lemmas.Slice.Zip.{AllZip-long}
use Rattle.agg_values.specs.Names.{Named}
use Rattle.agg_values.specs.declared.after_key.AfterKey.{AfterKey}
use Rattle.agg_cache.specs.Waiting.{docs_of, is_id}
use Rattle.agg_cache.specs.declared.error.CollectError.{CollectError}
use Rattle.agg_cache.specs.declared.error.CollectError.TheVariants as refusal
use Rattle.agg_segment.specs.Segment.{Stored}
use Rattle.agg_composite.specs.accessor.Accessors.{Fits}
use Rattle.agg_composite.specs.accessor.Encoding.{EncodedTuple, encoded_tuple_order}
use Rattle.agg_composite.specs.accessor.Ranges.{AreAllInRange}
use Rattle.agg_composite.specs.declared.accessor.request_data.CompositeAggReqData.{
  CompositeAggReqData,
}
use Rattle.agg_composite.proofs.lemmas.accessor.EncodedOrder.{tuple-exact, tuple_order-total}
use Rattle.agg_composite.specs.buckets.Node.{BucketsFor, IsGrown, IsPast, IsRightFor, Node, NodeFor}
use Rattle.agg_composite.specs.buckets.Node.{NodeTakes, Right, TooManyVisits, found}
use Rattle.agg_composite.specs.buckets.Refusals.{refused}
use Rattle.agg_composite.specs.buckets.Visits.{Owner, Visit, is_owner}
use Rattle.agg_composite.specs.declared.buckets.bucket.Bucket.{Bucket}
use Rattle.agg_composite.specs.declared.buckets.visit_error.VisitError.{VisitError}
use Rattle.agg_composite.specs.declared.buckets.visit_error.VisitError.TheVariants.{OutOfMemory}
use Rattle.agg_composite.specs.declared.buckets.visit_error.VisitError.TheVariants.{TooMany}
use Rattle.agg_composite.proofs.lemmas.buckets.CutPages.{visits-cut}
use Rattle.agg_composite.proofs.lemmas.buckets.Labels.{docs_of-append}
use Rattle.agg_composite.proofs.lemmas.buckets.Owners.{above-none}
use Rattle.agg_composite.proofs.lemmas.buckets.StandingNodes.{stay-right}
use Rattle.agg_composite.specs.Answers.{Answers, AnswersDocuments, TakesVisits}
use Rattle.agg_composite.specs.Composite.{AnswersCollect, AnswersVisits, Composite, CompositeFor}
use Rattle.agg_composite.specs.Composite.{CompositeTakes, bucket_of}
use Rattle.agg_composite.specs.Visits.{StandsForVisit, TypedVisit, visits_past}
use Rattle.agg_composite.proofs.DocumentsInRow.{visits_compose}
use Rattle.agg_composite.proofs.Pairs.{AllZip-append}

-- ---- what visits push

-- what is gone is not there
gone : (x : Option Bucket) (b : Bucket) → x ≡ None → x ≡ Some b → ⊥
gone x b none is = cc (sym none ∙ is)

module _ (old new : Node EncodedTuple) (before after : List (Visit EncodedTuple))
    (handed : List (ℕ × ℕ)) (f : NodeFor encoded_tuple_order old before handed)
    (takes : NodeTakes encoded_tuple_order after old new) (o : Owner EncodedTuple) (b : Bucket)
    (there : found encoded_tuple_order new.parents o ≡ Some b) where
  -- whether a visit is the owner's
  abbrev own : Owner EncodedTuple → Bool
  own = is_owner encoded_tuple_order o

  -- the documents that were handed on under a bucket's id before are those of its visits
  handed-before : (x : Option Bucket) → found encoded_tuple_order old.parents o ≡ x
      → docs_of (is_id b.id) (handed ++ old.pushes) ≡ docs_of own before
  handed-before (Some c) was =
      let right : Right own before (handed ++ old.pushes) old.next c =
      subst (IsRightFor own before (handed ++ old.pushes) old.next
      (IsPast encoded_tuple_order old.size old.parents o)) was (f.right o) in
      let grown : IsGrown encoded_tuple_order old.next (length after)
      (IsPast encoded_tuple_order new.size new.parents o) (Some c) (Some b) =
      subst (λ (p : Option Bucket × Option Bucket).
      IsGrown encoded_tuple_order old.next (length after)
      (IsPast encoded_tuple_order new.size new.parents o) p.0 p.1)
      (λ j. (was j, there j)) (takes.grown o) in
      ap (λ i. docs_of (is_id i) (handed ++ old.pushes)) grown.0 ∙ right.exact
  handed-before None was =
      let grown : IsGrown encoded_tuple_order old.next (length after)
      (IsPast encoded_tuple_order new.size new.parents o) None (Some b) =
      subst (λ (p : Option Bucket × Option Bucket).
      IsGrown encoded_tuple_order old.next (length after)
      (IsPast encoded_tuple_order new.size new.parents o) p.0 p.1)
      (λ j. (was j, there j)) (takes.grown o) in
      let none : (docs_of own before ≡ []) ⊎ IsPast encoded_tuple_order old.size old.parents o =
      subst (IsRightFor own before (handed ++ old.pushes) old.next
      (IsPast encoded_tuple_order old.size old.parents o)) was (f.right o) in
      f.fresh b.id grown.1
      ∙ ⊎_elim (λ empty. sym empty)
      (λ past. absurd (gone (found encoded_tuple_order new.parents o) b
      (above-none encoded_tuple_order tuple_order-total new.size (get_or new.parents o.0 []) o.1
      (takes.fuller o past)) there))
      none

  -- those that are pushed now are those of its own later visits
  pub pushed-now : old.pushes ≡ []
      → docs_of (is_id b.id) new.pushes ≡ docs_of own after
  pushed-now empty =
      let right : Right own (before ++ after) (handed ++ new.pushes) new.next b =
      subst (IsRightFor own (before ++ after) (handed ++ new.pushes) new.next
      (IsPast encoded_tuple_order new.size new.parents o)) there
      ((takes.takes before handed f).right o) in
      let id = is_id b.id in
      let first : docs_of id handed ≡ docs_of own before =
      ap (docs_of id) (sym (ap (λ ps. handed ++ ps) empty ∙ append-nil handed))
      ∙ handed-before (found encoded_tuple_order old.parents o) refl in
      append_cancel_left (docs_of own before) (docs_of id new.pushes) (docs_of own after)
      (ap (λ ds. ds ++ docs_of id new.pushes) (sym first)
      ∙ sym (docs_of-append id handed new.pushes)
      ∙ right.exact
      ∙ docs_of-append own before after)

-- ---- a collector

module _ (req : CompositeAggReqData) where
  -- a node where a parent is begun
  abbrev pub begun : Node EncodedTuple → ℕ → Node EncodedTuple
  begun node parent = record node { parent = parent; size = req.size; pushes = [] }

  -- what a walk answers where the parent is begun
  pub walked-begun : (docs : List ℕ) (old : Node EncodedTuple) (parent : ℕ)
      (mid new : Node EncodedTuple) (steps steps_now : ℕ) (result : Result (Unit {0}) VisitError)
      → mid ≡ begun old parent → AnswersDocuments req docs mid new steps steps_now result
      → (segment : Stored) (after : Named AfterKey) → Fits segment after req
      → AreAllInRange segment req.req.now.sources docs → (typed : List TypedVisit)
      → typed ≡ visits_past req.req.now.sources segment after parent docs
      → Answers TooMany (TakesVisits req typed (begun old parent) new)
      (TooManyVisits encoded_tuple_order (length typed) old) (length typed) steps steps_now result
  walked-begun docs old parent mid new steps steps_now result is answers =
      subst (λ n. AnswersDocuments req docs n new steps steps_now result) is answers

module _ {C : Type 0} (waiting : C → ℕ → List ℕ) (req : CompositeAggReqData) where
  module _ (parent : ℕ) (typed : List TypedVisit) (old new : Composite C)
      (walked : TakesVisits req typed (begun req old.node parent) new.node) where
    -- a node that was right is right where its parent is begun
    right-begun : (visited : List TypedVisit) (given : List (ℕ × ℕ))
        → (f : CompositeFor waiting req old visited given)
        → NodeFor encoded_tuple_order (begun req old.node parent) f.visits f.handed
    right-begun visited given f =
        (stay-right encoded_tuple_order).begun old.node parent req.size f.visits f.handed f.buckets

    -- what the walk took is kept
    pub collector-takes : new.room ≡ old.room → new.hands_on ≡ old.hands_on
        → (old.hands_on ≡ true → (id : ℕ) → waiting new.cache.0 id
        ≡ waiting old.cache.0 id ++ docs_of (is_id id) new.node.pushes)
        → (old.hands_on ≡ false → new.cache ≡ old.cache)
        → CompositeTakes waiting req typed old new
    collector-takes room hands_on waits unpushed = record {
      visits = walked.visits;
      stand = walked.stand;
      takes = λ visited given f. record {
        visits = f.visits ++ walked.visits;
        handed = f.handed ++ new.node.pushes;
        stand =
            AllZip-append (StandsForVisit req) f.visits walked.visits visited typed f.stand
            walked.stand;
        buckets =
            subst (λ n. BucketsFor encoded_tuple_order n new.node.parents new.node.next
            (f.visits ++ walked.visits) (f.handed ++ new.node.pushes)) walked.node.size
            (walked.node.takes f.visits f.handed (right-begun visited given f));
        waits = λ hands id.
            let hands_old = sym hands_on ∙ hands in
            ap (λ ds. docs_of (is_id id) given ++ ds) (waits hands_old id)
            ∙ sym (append_assoc (docs_of (is_id id) given) (waiting old.cache.0 id)
            (docs_of (is_id id) new.node.pushes))
            ∙ ap (λ ds. ds ++ docs_of (is_id id) new.node.pushes) (f.waits hands_old id)
            ∙ sym (docs_of-append (is_id id) f.handed new.node.pushes);
      };
      cut = λ visited given f p.
          visits-cut encoded_tuple_order tuple_order-total tuple-exact (begun req old.node parent)
          new.node f.visits walked.visits f.handed (right-begun visited given f) walked.node p;
      drawn = walked.node.drawn;
      few = omega (
        arith,
        walked.node.few,
        AllZip-long (StandsForVisit req) walked.visits typed walked.stand,
      );
      no_fewer = walked.node.no_fewer;
      pushed = λ visited given f hands o b there.
          waits hands b.id
          ∙ ap (λ ds. waiting old.cache.0 b.id ++ ds)
          (pushed-now (begun req old.node parent) new.node f.visits walked.visits f.handed
          (right-begun visited given f) walked.node o b there refl);
      grown = λ o.
          subst (λ (p : ℕ × ℕ). IsGrown encoded_tuple_order old.node.next p.0
          (IsPast encoded_tuple_order p.1 new.node.parents o) (bucket_of old o) (bucket_of new o))
          (λ j. (
            sym (AllZip-long (StandsForVisit req) walked.visits typed walked.stand) j,
            walked.node.size j,
          )) (walked.node.grown o);
      prepared = walked.node.long;
      room = room;
      hands_on = hands_on;
      unpushed = unpushed;
    }

  -- too many visits are 2^32 or more with those so far
  pub many-visits : (collector : Composite C) (visited : List TypedVisit) (given : List (ℕ × ℕ))
      (n : ℕ) → CompositeFor waiting req collector visited given
      → TooManyVisits encoded_tuple_order n collector.node → 2 ^ 32 ≤ length visited + n
  many-visits collector visited given n f many =
      let long = AllZip-long (StandsForVisit req) f.visits visited f.stand in
      let large = visits_compose.large n (begun req collector.node 0) f.visits f.handed
      ((stay-right encoded_tuple_order).begun collector.node 0 req.size f.visits f.handed f.buckets)
      many in
      omega (arith, long, large)

  -- that many where visits are refused for it
  pub too_many-visits : (typed : List TypedVisit) (old new : Composite C) (steps steps_now : ℕ)
      (result : Result (Unit {0}) VisitError)
      → AnswersVisits waiting req typed old new steps steps_now result
      → (visited : List TypedVisit) (given : List (ℕ × ℕ))
      → CompositeFor waiting req old visited given → IsErrOf result TooMany
      → 2 ^ 32 ≤ length visited + length typed
  too_many-visits typed old new steps steps_now result answers visited given f e =
      many-visits old visited given (length typed) f (answers.too_many e)

-- ---- errors

-- what is found to be so
pub holds : (b : Bool) (fact other : Type 0) → b ≡ true → MatchBool b fact other → fact
holds true fact other is fact_holds = fact_holds
holds false fact other is fact_holds = absurd (cc is)

-- visits end early for too many where their collector says so
refused-too_many : (error : VisitError) → refused error ≡ refusal.TooMany → error ≡ TooMany
refused-too_many TooMany is = refl
refused-too_many OutOfMemory is = absurd (cc is)

module _ {C : Type 0} (waiting : C → ℕ → List ℕ) (req : CompositeAggReqData)
    (typed : List TypedVisit) (old new : Composite C) (steps steps_now : ℕ) where
  -- their error is the collector's
  pub collected-error : (error : VisitError) (returned : Result (Unit {0}) CollectError)
      → AnswersVisits waiting req typed old new steps steps_now (Err error)
      → IsErrAnd returned (λ e. e ≡ refused error)
      → AnswersCollect waiting req typed old new steps steps_now returned
  collected-error error returned walked is_err =
      let given = err_from_is_err_and returned is_err in
      let same : returned ≡ Err (refused error) = given.1 ∙ ap (λ e. Err e) given.2 in
      subst (AnswersCollect waiting req typed old new steps steps_now) (sym same) (record {
        ok = tt;
        least = tt;
        too_many = λ e. walked.too_many (ap (λ x. Err x) (refused-too_many error (cc e)));
        later = walked.later;
        most = walked.most;
      })

  -- where all visits were made, the collector has made them
  pub collected-all : AnswersVisits waiting req typed old new steps steps_now (Ok tt)
      → AnswersCollect waiting req typed old new steps steps_now (Ok tt)
  collected-all walked = record {
    ok = walked.ok;
    least = walked.least;
    too_many = λ e. absurd (cc e);
    later = walked.later;
    most = walked.most;
  }
