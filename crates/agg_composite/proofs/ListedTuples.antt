-- Counts of tuples in a row, and of documents.
use Rattle.std.proofs.Common.{◌≡◌, ◌≤◌, ◌<◌, ◌+◌, ◌^◌, ℕ, List, [], ◌∷◌, ◌++◌, Ok, Err, IsErrAnd}
use Rattle.std.proofs.Common.{Ordering, Less, Equal, Greater, false}
use Rattle.std.proofs.Common.{get_or, length, length-append, refl, sym, ap, ◌∙◌, subst}
use Rattle.std.proofs.Common.{arith}
use Rattle.std.proofs.lemmas.Result.{on_ok_weaker}
use Rattle.std.proofs.lemmas.Slice.Zip.{AllZip-long}
use Rattle.std.specs.List.{AllZip}
use Rattle.std.specs.Option.{option_map_or}
use Rattle.agg_values.specs.Names.{Named}
use Rattle.agg_values.specs.Tuple.{KeyTuple}
use Rattle.agg_values.specs.declared.after_key.AfterKey.{AfterKey}
use Rattle.agg_segment.specs.Segment.{Stored}
use Rattle.agg_composite.specs.accessor.Accessors.{Fits}
use Rattle.agg_composite.specs.accessor.Encoding.{EncodedTuple, StandsForTuple, encoded_tuple_order}
use Rattle.agg_composite.specs.accessor.Ranges.{AreAllInRange}
use Rattle.agg_composite.specs.declared.accessor.request_data.CompositeAggReqData.{
  CompositeAggReqData,
}
use Rattle.agg_composite.specs.buckets.Cut.{add_count, count_each}
use Rattle.agg_composite.specs.declared.buckets.visit_error.VisitError.{VisitError}
use Rattle.agg_composite.specs.declared.buckets.visit_error.VisitError.TheVariants.{TooMany}
use Rattle.agg_composite.proofs.lemmas.buckets.TupleCounts.{count_each-append}
use Rattle.agg_composite.proofs.lemmas.tuple_counts.CountSums.{added, total_of}
use Rattle.agg_composite.specs.Answers.{Answers}
use Rattle.agg_composite.specs.Listing.{AnswersDocuments, AnswersTuples, CountsKeys, CountsTuples}
use Rattle.agg_composite.specs.Listing.{MayPass, TupleCounts, past_of}
use Rattle.agg_composite.specs.Walk.{if_above, next_standing, walked}
use Rattle.agg_composite.specs.declared.walk.choice.Choice.{Choice}
use Rattle.agg_composite.proofs.DocumentsInRow.{one-range}
use Rattle.agg_composite.proofs.Pairs.{AllZip-append}
use Rattle.agg_composite.proofs.VisitsInRow.{AreVisits, Returned, SoFar, all-visited, error-visited}
use Rattle.agg_composite.proofs.VisitsInRow.{nothing-visited, one-visited}
use Rattle.agg_composite.proofs.VisitsPast.{past-append}

-- the sum of counts rises by one for each tuple
total-each : (counts : TupleCounts) (tuples : List EncodedTuple)
    → total_of (count_each encoded_tuple_order counts tuples) ≡ total_of counts + length tuples
total-each counts [] = omega arith
total-each counts (t ∷ tuples) =
    let rest = total-each (add_count encoded_tuple_order counts t 1) tuples in
    let one = added encoded_tuple_order counts t 1 in
    omega (arith, rest, one)

-- more that may pass is no less
passes-more : (counts : TupleCounts) (n m : ℕ) → n ≤ m → MayPass n counts → MayPass m counts
passes-more counts n m l p = omega (arith, l, p)

-- what may pass after tuples may pass with them
pub passes-after : (counts : TupleCounts) (tuples : List EncodedTuple) (now : TupleCounts) (n : ℕ)
    → CountsTuples tuples counts now → MayPass n now → MayPass (length tuples + n) counts
passes-after counts tuples now n is p =
    let same : total_of now ≡ total_of (count_each encoded_tuple_order counts tuples) =
    ap total_of is in
    let long = total-each counts tuples in
    omega (arith, same, long, p)

-- so many tuples may pass
abbrev pub Pass : List EncodedTuple → TupleCounts → Type 0
Pass tuples counts = MayPass (length tuples) counts

-- tuples are counted in a row
pub counted-tuples : AreVisits CountsTuples Pass
counted-tuples = record {
  none = λ s. refl;
  both = λ ys zs s t u p q.
      q ∙ ap (λ es. count_each encoded_tuple_order es zs) p
      ∙ sym (count_each-append encoded_tuple_order s ys zs);
  more = λ ys zs s p.
      let long = length-append ys zs in
      passes-more s (length ys) (length (ys ++ zs)) (omega (arith, long)) p;
  after = λ ys zs s t p q.
      subst (λ n. MayPass n s) (sym (length-append ys zs))
      (passes-after s ys t (length zs) p q);
}

module _ (req : CompositeAggReqData) where
  -- so many keys may pass
  abbrev pub KeysPass : List KeyTuple → TupleCounts → Type 0
  KeysPass keys counts = MayPass (length keys) counts

  -- tuples that stand for keys are counted in a row
  pub counted-keys : AreVisits (CountsKeys req) KeysPass
  counted-keys = record {
    none = λ s. record { tuples = []; stand = tt; counts = refl };
    both = λ ys zs s t u p q. record {
      tuples = p.tuples ++ q.tuples;
      stand = AllZip-append (StandsForTuple req) p.tuples q.tuples ys zs p.stand q.stand;
      counts = counted-tuples.both p.tuples q.tuples s t u p.counts q.counts;
    };
    more = λ ys zs s p.
        let long = length-append ys zs in
        passes-more s (length ys) (length (ys ++ zs)) (omega (arith, long)) p;
    after = λ ys zs s t p q.
        let same = AllZip-long (StandsForTuple req) p.tuples ys p.stand in
        subst (λ n. MayPass n s)
        (ap (λ n. n + length zs) (sym same) ∙ sym (length-append ys zs))
        (passes-after s p.tuples t (length zs) p.counts q);
  }

  -- what counting tuples answers, of the keys that they stand for
  pub keys-answer : (old new : TupleCounts) (steps steps_now : ℕ) (result : Returned)
      (tuples : List EncodedTuple) (keys : List KeyTuple)
      → AllZip (StandsForTuple req) tuples keys
      → AnswersTuples tuples old new steps steps_now result
      → Answers TooMany (CountsKeys req keys old new) (KeysPass keys old) (length keys) steps
      steps_now result
  keys-answer old new steps steps_now result tuples keys stand own =
      let long : length keys ≡ length tuples = AllZip-long (StandsForTuple req) tuples keys stand in
      record {
        ok = on_ok_weaker result
            (λ is. record { tuples = tuples; stand = stand; counts = is }) own.ok;
        least = on_ok_weaker result (λ l. omega (arith, l, long)) own.least;
        too_many = λ e. subst (λ n. MayPass n old) (sym long) (own.too_many e);
        later = own.later;
        most = omega (arith, own.most, long);
      }

  module _ (docs : List ℕ) where
    -- what has come of the documents before i
    abbrev pub CountedSoFar : ℕ → TupleCounts → TupleCounts → ℕ → ℕ → Type 0
    CountedSoFar i old now steps steps_now =
        (segment : Stored) (after : Named AfterKey) → Fits segment after req
        → AreAllInRange segment req.req.now.sources docs
        → SoFar (CountsKeys req) (past_of segment after req) docs i old now steps steps_now

    -- before the first document
    pub none-counted : (counts : TupleCounts) (steps : ℕ) → CountedSoFar 0 counts counts steps steps
    none-counted counts steps segment after fit range =
        nothing-visited (CountsKeys req) KeysPass counted-keys (past_of segment after req) refl docs
        counts steps

    module _ (i : ℕ) (old now : TupleCounts) (steps steps_now : ℕ)
        (so_far : CountedSoFar i old now steps steps_now) where
      -- all documents
      pub all-counted : length docs ≤ i → (segment : Stored) (after : Named AfterKey)
          → Fits segment after req → AreAllInRange segment req.req.now.sources docs
          → AnswersDocuments segment after req docs old now steps steps_now (Ok tt)
      all-counted past segment after fit range =
          all-visited (CountsKeys req) KeysPass counted-keys (past_of segment after req)
          (past-append req.req.now.sources segment after) docs i old now steps steps_now
          (so_far segment after fit range) past

      module _ (d : ℕ) (l : i < length docs) (then : TupleCounts) (steps_then : ℕ) where
        -- what counting the next document's answers
        abbrev pub AnswersNext : Returned → Type 0
        AnswersNext result =
            (segment : Stored) (after : Named AfterKey) → Fits segment after req
            → AreAllInRange segment req.req.now.sources (get_or docs i d ∷ [])
            → AnswersDocuments segment after req (get_or docs i d ∷ []) now then steps_now
            steps_then result

        -- one document more
        pub one-counted : AnswersNext (Ok tt) → CountedSoFar (i + 1) old then steps steps_then
        one-counted own segment after fit range =
            one-visited (CountsKeys req) KeysPass counted-keys (past_of segment after req)
            (past-append req.req.now.sources segment after) docs i old now steps steps_now
            (so_far segment after fit range) d l then steps_then
            (own segment after fit (one-range segment req.req.now.sources docs i d l range))

        -- the error of one document
        pub error-counted : (error : VisitError) (returned : Returned) → AnswersNext (Err error)
            → IsErrAnd returned (λ e. e ≡ error)
            → (segment : Stored) (after : Named AfterKey) → Fits segment after req
            → AreAllInRange segment req.req.now.sources docs
            → AnswersDocuments segment after req docs old then steps steps_then returned
        error-counted error returned own is_err segment after fit range =
            error-visited (CountsKeys req) KeysPass counted-keys (past_of segment after req)
            (past-append req.req.now.sources segment after) docs i old now steps steps_now
            (so_far segment after fit range) d l then steps_then error returned
            (own segment after fit (one-range segment req.req.now.sources docs i d l range)) is_err

-- ---- one choice

-- the tuples of choices that are above the bound
abbrev pub above_of : List Choice → List EncodedTuple
above_of choices = walked (choices ∷ []) [] false

-- the tuple of a choice with its side
abbrev tuple_with : Choice → Ordering → List EncodedTuple
tuple_with c side =
    option_map_or (λ above. if_above (c.value ∷ []) above) (next_standing false side) [] ++ []

-- that of one above is counted
pub above-one : (c : Choice) → c.side ≡ Greater → (c.value ∷ []) ∷ [] ≡ above_of (c ∷ [])
above-one c is = ap (tuple_with c) (sym is)

-- that of another isn't
above-none-with : (c : Choice) (side : Ordering) → (side ≡ Greater → ⊥) → [] ≡ tuple_with c side
above-none-with c Less not = refl
above-none-with c Equal not = refl
above-none-with c Greater not = absurd (not refl)

pub above-none : (c : Choice) → (c.side ≡ Greater → ⊥) → [] ≡ above_of (c ∷ [])
above-none c not = above-none-with c c.side not

-- a tuple counted by one step
pub tuple-counted : (tuple : EncodedTuple) (old new : TupleCounts) (steps steps_now : ℕ)
    → new ≡ add_count encoded_tuple_order old tuple 1 → steps_now ≡ steps + 1
    → AnswersTuples (tuple ∷ []) old new steps steps_now (Ok tt)
tuple-counted tuple old new steps steps_now is step = record {
  ok = is;
  least = omega (arith, step);
  too_many = λ e. absurd (cc e);
  later = omega (arith, step);
  most = omega (arith, step);
}

-- a tuple refused by one step
pub tuple-refused : (tuple : EncodedTuple) (old new : TupleCounts) (steps steps_now : ℕ)
    (error : VisitError)
    → (◌≡◌ {A = Returned} (Err error) (Err TooMany) → 2 ^ 64 ≤ total_of old)
    → steps_now ≡ steps + 1
    → AnswersTuples (tuple ∷ []) old new steps steps_now (Err error)
tuple-refused tuple old new steps steps_now error many step = record {
  ok = tt;
  least = tt;
  too_many = λ e. let over = many e in omega (arith, over);
  later = omega (arith, step);
  most = omega (arith, step);
}
