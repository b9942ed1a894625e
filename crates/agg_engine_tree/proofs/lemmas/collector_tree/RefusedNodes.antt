-- Why a composite or a filter with what is below it refuses documents.
use Rattle.std.proofs.Common.{◌≡◌, ◌<◌, ◌++◌, ℕ, List, [], true, Some, inl, inr, Err, length, map}
use Rattle.std.proofs.Common.{refl, sym, ap, ◌∙◌, subst, ⊎_elim, append-nil}
use Rattle.std.specs.Prelude.{slice_get}
use Rattle.std.specs.List.{All, Contains}
use Rattle.agg_values.specs.Names.{Named}
use Rattle.agg_values.specs.declared.after_key.AfterKey.{AfterKey}
use Rattle.agg_cache.specs.Waiting.{pairs_of}
use Rattle.agg_cache.specs.declared.cache.Batch.{Batch}
use Rattle.agg_cache.specs.declared.error.CollectError.{CollectError}
use Rattle.agg_cache.specs.declared.error.CollectError.TheVariants as refusal
use Rattle.agg_segment.specs.Segment.{Stored}
use Rattle.agg_composite.specs.accessor.Accessors as accessor
use Rattle.agg_composite.specs.declared.accessor.request_data.CompositeAggReqData.{
  CompositeAggReqData,
}
use Rattle.agg_composite.specs.buckets.Visits.{Within, docs_in}
use Rattle.agg_composite.proofs.lemmas.buckets.Labels.{docs_in-append}
use Rattle.agg_composite.specs.Composite.{Composite, CompositeGives}
use Rattle.agg_engine_tree.specs.segment_context.Context.{IsMeant, Meaning}
use Rattle.agg_engine_tree.specs.declared.segment_context.context.PerRequestAggSegCtx.{
  PerRequestAggSegCtx,
}
use Rattle.agg_engine_tree.specs.collector_tree.Refusals.{HasStartOutOfRange, IsRefused, RangeTaken}
use Rattle.agg_engine_tree.specs.collector_tree.Refusals.{SomeHasStart, TakesInRange}
use Rattle.agg_engine_tree.specs.collector_tree.Took.{CompositeAnswers, CompositeTook, IsRefusal}
use Rattle.agg_engine_tree.specs.collector_tree.Caches.{Cache}
use Rattle.agg_engine_tree.specs.collector_tree.Tree.{CompositeIsFor, Held, Helds, IsHandedTo}
use Rattle.agg_engine_tree.specs.collector_tree.Tree.{nothing}
use Rattle.agg_engine_tree.specs.collector_tree.Caches.{waiting_in}
use Rattle.agg_engine_tree.specs.collector_tree.Tree.{visits_of}
use Rattle.agg_engine_tree.proofs.lemmas.collector_tree.CompositeNodes.{is-for}
use Rattle.agg_engine_tree.proofs.lemmas.collector_tree.ManyComposites.{composite-lower-many}
use Rattle.agg_engine_tree.proofs.lemmas.collector_tree.ManyComposites.{composite-many}
use Rattle.agg_engine_tree.proofs.lemmas.collector_tree.LowerDocuments.{given-visited, visited-part}
use Rattle.agg_engine_tree.proofs.lemmas.collector_tree.WithinLists.{range-part, within-contains}
use Rattle.agg_engine_tree.proofs.lemmas.collector_tree.WithinLists.{within-part}

-- ---- starts

module _ (meaning : Meaning) (ctx : PerRequestAggSegCtx) (docs others : List ℕ)
    (part : (d : ℕ) → Contains docs d → Contains others d) where
  -- a start that is out of range in documents is so in those that have these among them
  mutual
    pub start-part : (h : Held) → HasStartOutOfRange meaning ctx h docs
        → HasStartOutOfRange meaning ctx h others
    start-part (Held.composite index collector h) (inl (req, at, out)) = inl (
      req,
      at,
      λ all.
          out (range-part meaning.segment req.req.now.sources docs others part all),
    )
    start-part (Held.composite index collector h) (inr s) = inr (start-part h s)
    start-part (Held.filter index collector h) s = start-part h s
    start-part (Held.metric index collector) s = s
    start-part (Held.group hs) s = some-part hs s

    some-part : (hs : Helds) → SomeHasStart meaning ctx hs docs → SomeHasStart meaning ctx hs others
    some-part Helds.none s = s
    some-part (Helds.more h hs) (inl s) = inl (start-part h s)
    some-part (Helds.more h hs) (inr s) = inr (some-part hs s)

-- pairs are among those after others
pub within-after : (taken pairs : List (ℕ × ℕ)) → Within (docs_in pairs) (docs_in (taken ++ pairs))
within-after taken pairs =
    subst (Within (docs_in pairs))
    (ap (λ ds. docs_in taken ++ ds) (append-nil (docs_in pairs))
    ∙ sym (docs_in-append taken pairs))
    (within-part (docs_in taken) (docs_in pairs) [])

-- nothing has no start
pub nothing-start : (meaning : Meaning) (ctx : PerRequestAggSegCtx) (docs : List ℕ) (h : Held)
    → h ≡ nothing → HasStartOutOfRange meaning ctx h docs → ⊥
nothing-start meaning ctx docs h none out =
    subst (λ k. HasStartOutOfRange meaning ctx k docs) none out

pub nothing-ranges : (ctx : PerRequestAggSegCtx) (pairs : List (ℕ × ℕ)) (parents : List ℕ)
    (meaning : Meaning) → IsMeant meaning ctx → (h : Held) → h ≡ nothing
    → RangeTaken ctx pairs parents h → ⊥
nothing-ranges ctx pairs parents meaning is h none r =
    (subst (RangeTaken ctx pairs parents) none r).range meaning is [] 0 refl

-- an error that is none of three
no-other : (error : CollectError) → (error ≡ refusal.BucketOutOfRange → ⊥)
    → (error ≡ refusal.TooMany → ⊥) → (error ≡ refusal.OutOfMemory → ⊥) → IsRefusal error → ⊥
no-other error a b c (inl e) = a e
no-other error a b c (inr (inl e)) = b e
no-other error a b c (inr (inr e)) = c e

module _ (ctx : PerRequestAggSegCtx) (pairs : List (ℕ × ℕ)) (parents : List ℕ) (index : ℕ)
    (req : CompositeAggReqData) (at : slice_get ctx.composite_req_data index ≡ Some req)
    (meant : (meaning : Meaning) × IsMeant meaning ctx) (old now : Composite Cache)
    (steps mid : ℕ) where
  -- a composite refuses
  pub composite-refused : (h : Held) (error : CollectError)
      → ((segment : Stored) (after : Named AfterKey) → accessor.Fits segment after req
      → CompositeAnswers req segment after pairs old now steps mid (Err error))
      → IsRefused ctx pairs parents (Held.composite index old h) error
  composite-refused h refusal.BucketOutOfRange answers = record {
    range = λ meaning is taken visits f. inl (
      req,
      at,
      λ all.
          (answers meaning.segment (meaning.after_at index) (is.composites index req at).fits).range
          refl (range-part meaning.segment req.req.now.sources (docs_in pairs)
          (docs_in (taken ++ pairs)) (within-contains (docs_in pairs) (docs_in (taken ++ pairs))
          (within-after taken pairs)) all),
    );
  }
  composite-refused h refusal.TooMany answers =
      composite-many ctx pairs parents index req at meant old now steps mid h answers
  composite-refused h refusal.OutOfMemory answers = tt
  composite-refused h (refusal.Aggregation limit) answers =
      no-other (refusal.Aggregation limit) (λ e. cc e) (λ e. cc e) (λ e. cc e)
      (answers meant.0.segment (meant.0.after_at index) (meant.1.composites index req
      at).fits).errors
  composite-refused h refusal.CollectorFailed answers =
      no-other refusal.CollectorFailed (λ e. cc e) (λ e. cc e) (λ e. cc e)
      (answers meant.0.segment (meant.0.after_at index) (meant.1.composites index req
      at).fits).errors

  module _ (took : (segment : Stored) (after : Named AfterKey) → accessor.Fits segment after req
      → CompositeTook req segment after pairs old now steps mid)
      (down : List Batch) (filled : All (λ batch. 0 < length batch.docs) down)
      (b : Composite Cache) (gives : CompositeGives waiting_in down now b)
      (rest : b ≡ record now { cache = b.cache }) where
    -- the ids of the batches
    abbrev ids : List ℕ
    ids = map (λ batch. batch.bucket_id) down

    -- the documents that it gave are among those that it took
    given-part : (meaning : Meaning) → IsMeant meaning ctx → old.hands_on ≡ true
        → (taken given : List (ℕ × ℕ)) (own : ℕ)
        → CompositeIsFor meaning ctx index old taken given own → (d : ℕ)
        → Contains (docs_in (given ++ pairs_of down)) d → Contains (docs_in (taken ++ pairs)) d
    given-part meaning is on taken given own own_for d c =
        let for_now = (is-for ctx pairs parents true index req at meant old now steps mid took b
        (pairs_of down) (λ other segment after before_taken before_given.
        gives.gives other (visits_of other segment after before_taken) before_given)
        meaning is taken given own own_for req at).0 in
        let visits = visits_of req meaning.segment (meaning.after_at index) (taken ++ pairs) in
        let still = (took meaning.segment (meaning.after_at index)
        (is.composites index req at).fits).hands_on in
        visited-part req meaning.segment (meaning.after_at index) (taken ++ pairs) d
        (within-contains (docs_in (given ++ pairs_of down)) (docs_in visits)
        (given-visited req b visits (given ++ pairs_of down)
        (ap (λ (x : Composite Cache). x.hands_on) rest ∙ still ∙ on) for_now) d c)

    -- a start out of range in what it gave is one in what it took
    given-start : (meaning : Meaning) → IsMeant meaning ctx → old.hands_on ≡ true
        → (taken given : List (ℕ × ℕ)) (own : ℕ)
        → CompositeIsFor meaning ctx index old taken given own → (h : Held)
        → HasStartOutOfRange meaning ctx h (docs_in (given ++ pairs_of down))
        → HasStartOutOfRange meaning ctx h (docs_in (taken ++ pairs))
    given-start meaning is on taken given own own_for =
        start-part meaning ctx (docs_in (given ++ pairs_of down)) (docs_in (taken ++ pairs))
        (given-part meaning is on taken given own own_for)

    lower-range : (h : Held) → IsHandedTo old.hands_on h → RangeTaken ctx (pairs_of down) ids h
        → RangeTaken ctx pairs parents (Held.composite index old h)
    lower-range h (inr none) r =
        absurd (nothing-ranges ctx (pairs_of down) ids meant.0 meant.1 h none r)
    lower-range h (inl on) r = record {
      range = λ meaning is taken visits (given, own, below, own_for, below_for, sum).
          inr (given-start meaning is on taken given own own_for h
          (r.range meaning is given below below_for));
    }

    -- where a composite takes documents in range, so does what is below it
    pub composite-lower-in_range : (h : Held) → IsHandedTo old.hands_on h
        → TakesInRange ctx pairs (Held.composite index old h) → TakesInRange ctx (pairs_of down) h
    composite-lower-in_range h handed t =
        let (given, own, below, own_for, below_for, sum) = t.right in
        record {
          meaning = t.meaning;
          meant = t.meant;
          taken = given;
          visits = below;
          right = below_for;
          range = ⊎_elim
              (λ on out. t.range (inr (given-start t.meaning t.meant on t.taken given own own_for
              h out)))
              (λ none. nothing-start t.meaning ctx (docs_in (given ++ pairs_of down)) h none)
              handed;
        }

    -- what is below a composite refuses what it gave
    pub composite-lower : (h : Held) → IsHandedTo old.hands_on h → (error : CollectError)
        → IsRefused ctx (pairs_of down) ids h error
        → IsRefused ctx pairs parents (Held.composite index old h) error
    composite-lower h handed refusal.BucketOutOfRange r = lower-range h handed r
    composite-lower h handed refusal.TooMany r =
        composite-lower-many ctx pairs parents index req at meant old now steps mid took down
        filled b
        gives rest h handed r
    composite-lower h handed refusal.OutOfMemory r = tt
    composite-lower h handed (refusal.Aggregation limit) r = r
    composite-lower h handed refusal.CollectorFailed r = r
