-- What a composite answers for documents under one parent, and for none.
use Rattle.std.proofs.Common.{◌≡◌, ◌≤◌, ◌+◌, ◌^◌, ℕ, List, [], ◌∷◌, ◌++◌, inl, inr}
use Rattle.std.proofs.Common.{length, refl, sym, ap, ◌∙◌, subst, arith, append-nil}
use Rattle.std.proofs.Common.{length-append, Result, Ok, Err, IsErrAnd}
use Rattle.std.specs.Prelude.{IsErrOf}
use Rattle.std.proofs.lemmas.List.Concat.{flat_map-append}
use Rattle.agg_values.specs.Names.{Named}
use Rattle.agg_values.specs.declared.after_key.AfterKey.{AfterKey}
use Rattle.agg_cache.specs.Waiting.{under}
use Rattle.agg_cache.specs.declared.error.CollectError.{CollectError}
use Rattle.agg_cache.specs.declared.error.CollectError.TheVariants as refusal
use Rattle.agg_segment.specs.Segment.{Stored, documents_at}
use Rattle.agg_request_tree.specs.Occurrences.{bound_of, past_occurrences}
use Rattle.agg_composite.specs.accessor.Ranges.{AreAllInRange}
use Rattle.agg_composite.specs.declared.accessor.request_data.CompositeAggReqData.{
  CompositeAggReqData,
}
use Rattle.agg_composite.specs.buckets.Visits.{docs_in, visits_at}
use Rattle.agg_composite.specs.buckets.Refusals.{refused}
use Rattle.agg_composite.specs.declared.buckets.visit_error.VisitError.{VisitError}
use Rattle.agg_composite.specs.declared.buckets.visit_error.VisitError.TheVariants as early
use Rattle.agg_composite.specs.Composite.{AnswersCollect, AnswersVisits, Composite, CompositeFor}
use Rattle.agg_composite.specs.Composite.{num_buckets}
use Rattle.agg_composite.proofs.CollectorAnswers.{collected-all, collected-error, many-visits}
use Rattle.agg_composite.proofs.OpenedBuckets.{no-fewer}
use Rattle.agg_composite.specs.Visits.{AnswersRange, TypedVisit, visits_past}
use Rattle.agg_engine_tree.specs.collector_tree.Took.{CompositeAnswers, CompositeTook, IsRefusal}
use Rattle.agg_engine_tree.specs.collector_tree.Caches.{Cache, waiting_in}
use Rattle.agg_engine_tree.specs.collector_tree.Tree.{visits_of}
use Rattle.agg_engine_tree.proofs.lemmas.collector_tree.PassedErrors.{error-passed}

-- an answer for its range is a refusal of a tree
range-errors : (in_range : Type 0) (error : CollectError) → AnswersRange in_range (Err error)
    → IsRefusal error
range-errors in_range refusal.BucketOutOfRange a = inl refl
range-errors in_range refusal.TooMany a = inr (inl refl)
range-errors in_range refusal.OutOfMemory a = inr (inr refl)
range-errors in_range (refusal.Aggregation limit) a = absurd a
range-errors in_range refusal.CollectorFailed a = absurd a

-- documents in range are refused for another reason
refused-in_range : (in_range : Type 0) → in_range → (error : VisitError)
    → AnswersRange in_range (Err (refused error))
refused-in_range in_range all early.TooMany = all
refused-in_range in_range all early.OutOfMemory = all

-- the documents of pairs under one parent
pub docs_in-under : (parent : ℕ) (docs : List ℕ) → docs_in (under parent docs) ≡ docs
docs_in-under parent [] = refl
docs_in-under parent (d ∷ docs) = ap (λ ds. d ∷ ds) (docs_in-under parent docs)

module _ (req : CompositeAggReqData) (segment : Stored) (after : Named AfterKey) where
  -- the documents of pairs are in range
  abbrev InRange : List (ℕ × ℕ) → Type 0
  InRange pairs = AreAllInRange segment req.req.now.sources (docs_in pairs)

  -- ---- visits

  abbrev visits : List (ℕ × ℕ) → List TypedVisit
  visits = visits_of req segment after

  -- the visits of documents under a parent
  visits-under : (parent : ℕ) (docs : List ℕ)
      → visits (under parent docs) ≡ visits_past req.req.now.sources segment after parent docs
  visits-under parent [] = refl
  visits-under parent (d ∷ docs) =
      let here = visits_at parent d (past_occurrences req.req.now.sources
      (bound_of req.req.now.sources after) (documents_at segment (d ∷ []))) in
      (λ j. append-nil here j ++ visits-under parent docs j)

  pub visits-append : (xs ys : List (ℕ × ℕ)) → visits (xs ++ ys) ≡ visits xs ++ visits ys
  visits-append xs ys =
      flat_map-append (λ e. visits_past req.req.now.sources segment after e.0 (e.1 ∷ [])) xs ys

  -- ---- one parent

  under-ok : (parent : ℕ) (docs : List ℕ) (old new : Composite Cache) (steps steps_now : ℕ)
      (done : Unit {0})
      → AnswersCollect waiting_in req (visits_past req.req.now.sources segment after parent docs)
      old new steps steps_now (Ok done)
      → CompositeTook req segment after (under parent docs) old new steps steps_now
  under-ok parent docs old new steps steps_now done a = record {
    takes = λ taken given f.
        subst (λ vs. CompositeFor waiting_in req new vs given)
        (ap (λ vs. visits taken ++ vs) (sym (visits-under parent docs))
        ∙ sym (visits-append taken (under parent docs)))
        (a.ok.takes (visits taken) given f);
    no_fewer = no-fewer waiting_in req
        (visits_past req.req.now.sources segment after parent docs) old new a.ok;
    room = a.ok.room;
    hands_on = a.ok.hands_on;
    least = omega (arith, a.least, ap length (visits-under parent docs));
    most = omega (arith, a.most, ap length (visits-under parent docs));
  }

  pub answers-under : (parent : ℕ) (docs : List ℕ) (old new : Composite Cache)
      (steps steps_now : ℕ) (result : Result (Unit {0}) CollectError)
      → AnswersCollect waiting_in req (visits_past req.req.now.sources segment after parent docs)
      old new steps steps_now result
      → ((visited : List TypedVisit) (given : List (ℕ × ℕ))
      → CompositeFor waiting_in req old visited given → IsErrOf result refusal.TooMany
      → 2 ^ 32 ≤ length visited
      + length (visits_past req.req.now.sources segment after parent docs))
      → AnswersRange (AreAllInRange segment req.req.now.sources docs) result
      → CompositeAnswers req segment after (under parent docs) old new steps steps_now result
  answers-under parent docs old new steps steps_now (Ok done) a many range = record {
    ok = under-ok parent docs old new steps steps_now done a;
    errors = tt;
    range = λ e. absurd (cc e);
    many = λ e. absurd (cc e);
    later = a.later;
    most = omega (arith, a.most, ap length (visits-under parent docs));
  }
  answers-under parent docs old new steps steps_now (Err error) a many range = record {
    ok = tt;
    errors = range-errors (AreAllInRange segment req.req.now.sources docs) error range;
    range = λ e all.
        subst (λ r. AnswersRange (AreAllInRange segment req.req.now.sources docs) r) e range
        (subst (AreAllInRange segment req.req.now.sources) (docs_in-under parent docs) all);
    many = λ e taken given f.
        omega (
          arith,
          many (visits taken) given f e,
          ap length (visits-under parent docs),
          ap length (visits-append taken (under parent docs)),
          length-append (visits taken) (visits (under parent docs)),
        );
    later = a.later;
    most = omega (arith, a.most, ap length (visits-under parent docs));
  }

  -- documents in range, with no look at their starts
  module _ (parent : ℕ) (docs : List ℕ) (old new : Composite Cache) (steps steps_now : ℕ)
      (all : AreAllInRange segment req.req.now.sources docs) where
    abbrev typed : List TypedVisit
    typed = visits_past req.req.now.sources segment after parent docs

    unlooked : (returned : Result (Unit {0}) CollectError)
        → AnswersCollect waiting_in req typed old new steps steps_now returned
        → AnswersRange (AreAllInRange segment req.req.now.sources docs) returned
        → CompositeAnswers req segment after (under parent docs) old new steps steps_now returned
    unlooked returned a =
        answers-under parent docs old new steps steps_now returned a
        (λ visited given f e.
        many-visits waiting_in req old visited given (length typed) f (a.too_many e))

    pub answers-in_range : AnswersVisits waiting_in req typed old new steps steps_now (Ok tt)
        → CompositeAnswers req segment after (under parent docs) old new steps steps_now (Ok tt)
    answers-in_range walked =
        unlooked (Ok tt) (collected-all waiting_in req typed old new steps steps_now walked) all

    pub refuses-in_range : (error : VisitError) (returned : Result (Unit {0}) CollectError)
        → AnswersVisits waiting_in req typed old new steps steps_now (Err error)
        → IsErrAnd returned (λ e. e ≡ refused error)
        → CompositeAnswers req segment after (under parent docs) old new steps steps_now returned
    refuses-in_range error returned walked is_err =
        unlooked returned
        (collected-error waiting_in req typed old new steps steps_now error returned walked is_err)
        (error-passed (AnswersRange (AreAllInRange segment req.req.now.sources docs)) returned
        (refused error) is_err (refused-in_range _ all error))

  -- a composite that was prepared before
  pub answers-prepared : (pairs : List (ℕ × ℕ)) (old mid new : Composite Cache)
      (steps steps_now : ℕ) (result : Result (Unit {0}) CollectError)
      → ((visited : List TypedVisit) (given : List (ℕ × ℕ))
      → CompositeFor waiting_in req old visited given
      → CompositeFor waiting_in req mid visited given)
      → mid ≡ record old { node = mid.node } → num_buckets old ≤ num_buckets mid
      → CompositeAnswers req segment after pairs mid new steps steps_now result
      → CompositeAnswers req segment after pairs old new steps steps_now result
  answers-prepared pairs old mid new steps steps_now (Ok done) right rest more a = record {
    ok = record {
      takes = λ taken given f. a.ok.takes taken given (right (visits taken) given f);
      no_fewer = omega (arith, more, a.ok.no_fewer);
      room = a.ok.room ∙ ap (λ (x : Composite Cache). x.room) rest;
      hands_on = a.ok.hands_on ∙ ap (λ (x : Composite Cache). x.hands_on) rest;
      least = a.ok.least;
      most = a.ok.most;
    };
    errors = tt;
    range = a.range;
    many = λ e taken given f. a.many e taken given (right (visits taken) given f);
    later = a.later;
    most = a.most;
  }
  answers-prepared pairs old mid new steps steps_now (Err error) right rest more a = record {
    ok = tt;
    errors = a.errors;
    range = a.range;
    many = λ e taken given f. a.many e taken given (right (visits taken) given f);
    later = a.later;
    most = a.most;
  }

  -- ---- nothing is taken

  pub answers-none : (c : Composite Cache) (steps : ℕ) (done : Unit {0})
      → CompositeAnswers req segment after [] c c steps steps (Ok done)
  answers-none c steps done = record {
    ok = record {
      takes = λ taken given f.
          subst (λ ps. CompositeFor waiting_in req c (visits ps) given) (sym (append-nil taken)) f;
      no_fewer = omega arith;
      room = refl;
      hands_on = refl;
      least = omega arith;
      most = omega arith;
    };
    errors = tt;
    range = λ e. absurd (cc e);
    many = λ e. absurd (cc e);
    later = omega arith;
    most = omega arith;
  }
