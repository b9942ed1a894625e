-- Walks over documents in a row.
use Rattle.std.proofs.Common.{◌≡◌, ℕ, ◌+◌, ◌<◌, ◌≤◌, List, [], ◌∷◌, ◌++◌, Ok, Err, IsErrAnd}
use Rattle.std.proofs.Common.{Result, false, length, get_or, refl, sym, ap, ◌∙◌, subst, arith}
use Rattle.std.proofs.Common.{length-append}
use Rattle.std.specs.List.{AllZip}
use Rattle.std.proofs.lemmas.List.{append-nil, get_or-map, length-map}
use Rattle.std.proofs.lemmas.List.Concat.{flat_map-append}
use Rattle.std.proofs.lemmas.List.Elements.{All-from_recursion}
use Rattle.std.proofs.lemmas.Result.{on_ok_weaker}
use Rattle.std.proofs.lemmas.Slice.Zip.{AllZip-long}
use Rattle.agg_values.specs.Names.{Named}
use Rattle.agg_values.specs.Tuple.{KeyTuple}
use Rattle.agg_values.specs.declared.after_key.AfterKey.{AfterKey}
use Rattle.agg_segment.specs.Segment.{Stored, document_at, documents_at}
use Rattle.agg_request_tree.specs.Occurrences.{bound_of, past_occurrences}
use Rattle.agg_request_tree.specs.Ranges.{AreInRange}
use Rattle.agg_request_tree.specs.Source.{Sources}
use Rattle.agg_composite.specs.accessor.Accessors.{Fits}
use Rattle.agg_composite.specs.accessor.Encoding.{EncodedTuple, StandsForTuple, encoded_tuple_order}
use Rattle.agg_composite.specs.accessor.Ranges.{AreAllInRange}
use Rattle.agg_composite.specs.declared.accessor.accessor.CompositeSourceAccessors.{
  CompositeSourceAccessors,
}
use Rattle.agg_composite.specs.declared.accessor.request_data.CompositeAggReqData.{
  CompositeAggReqData,
}
use Rattle.agg_composite.proofs.lemmas.accessor.EncodedOrder.{tuple_order-total}
use Rattle.agg_composite.specs.buckets.Laws.{VisitsCompose}
use Rattle.agg_composite.specs.buckets.Node.{Node, TooManyVisits}
use Rattle.agg_composite.specs.buckets.Visits.{visits_at}
use Rattle.agg_composite.specs.declared.buckets.visit_error.VisitError.{VisitError}
use Rattle.agg_composite.specs.declared.buckets.visit_error.VisitError.TheVariants.{TooMany}
use Rattle.agg_composite.proofs.lemmas.buckets.NodeLaws.{compose-visits}
use Rattle.agg_composite.specs.Answers.{Answers, AnswersDocuments, AnswersEncoded, TakesVisits}
use Rattle.agg_composite.specs.Choices.{AreChoicesIn}
use Rattle.agg_composite.specs.HeldTuples.{KeepTuplesAt}
use Rattle.agg_composite.specs.Walk.{parts, walked}
use Rattle.agg_composite.specs.declared.walk.choice.Choice.{Choice}
use Rattle.agg_composite.specs.Visits.{StandsForVisit, TypedVisit, visits_past}
use Rattle.agg_composite.proofs.Pairs.{AllZip-append, AllZip-map}
use Rattle.agg_composite.proofs.PartsInRow.{Appends}
use Rattle.agg_composite.proofs.TuplesInRow.{tuples_compose}
use Rattle.agg_composite.proofs.VisitsInRow.{AreVisits, Returned, SoFar, all-visited, error-visited}
use Rattle.agg_composite.proofs.VisitsInRow.{nothing-visited, one-visited}

-- of documents in range each is in range
pub one-range : (segment : Stored) (sources : Sources) (docs : List ℕ) (i d : ℕ) → i < length docs
    → AreAllInRange segment sources docs → AreAllInRange segment sources (get_or docs i d ∷ [])
one-range segment sources docs i d l range =
    let long = length-map docs (document_at segment) in
    let here = range i (document_at segment d) (omega (arith, l, long)) in
    All-from_recursion (AreInRange sources) (documents_at segment (get_or docs i d ∷ [])) (
      subst (AreInRange sources)
          (get_or-map (document_at segment) docs i d (document_at segment d) l) here,
      tt,
    )

-- the visits of documents in two parts
visits_past-append : (sources : Sources) (segment : Stored) (after : Named AfterKey) (parent : ℕ)
    → Appends (visits_past sources segment after parent)
visits_past-append sources segment after parent xs ys =
    flat_map-append
    (λ doc. visits_at parent doc
    (past_occurrences sources (bound_of sources after) (documents_at segment (doc ∷ []))))
    xs ys

-- what was gathered from lists is from those that they are, and so are its parts
pub gathered-from : (sources sources_are : Sources)
    (accessors accessors_are : List CompositeSourceAccessors) (doc : ℕ) (sizes sizes_are : List ℕ)
    (choices choices_are : List Choice) → sources ≡ sources_are → accessors ≡ accessors_are
    → sizes_are ≡ sizes → choices_are ≡ choices
    → AreChoicesIn sources accessors doc (parts sizes choices)
    → AreChoicesIn sources_are accessors_are doc (parts sizes_are choices_are)
gathered-from sources sources_are accessors accessors_are doc sizes sizes_are choices choices_are
    is_sources is_accessors is_sizes is_choices read =
    subst (AreChoicesIn sources_are accessors_are doc)
    (λ i. parts (sym is_sizes i) (sym is_choices i))
    (subst (λ xs. AreChoicesIn sources_are xs doc (parts sizes choices)) is_accessors
    (subst (λ xs. AreChoicesIn xs accessors doc (parts sizes choices)) is_sources read))

-- what a walk from no keys answers, in a document that is begun
pub walked-answers : (rows : List (List Choice)) (front : EncodedTuple)
    (start begun new : Node EncodedTuple) (steps steps_now : ℕ)
    (result : Result (Unit {0}) VisitError) → front ≡ [] → start ≡ begun
    → AnswersEncoded (walked rows front false) start new steps steps_now result
    → AnswersEncoded (walked rows [] false) begun new steps steps_now result
walked-answers rows front start begun new steps steps_now result none is own =
    subst (λ n. AnswersEncoded (walked rows [] false) n new steps steps_now result) is
    (subst (λ t. AnswersEncoded (walked rows t false) start new steps steps_now result) none own)

-- the laws of visits
pub visits_compose : VisitsCompose encoded_tuple_order
visits_compose = compose-visits encoded_tuple_order tuple_order-total

-- visits of a node that are too many
abbrev pub AreTooMany : List TypedVisit → Node EncodedTuple → Type 0
AreTooMany typed node = TooManyVisits encoded_tuple_order (length typed) node

module _ (req : CompositeAggReqData) where
  -- ---- visits that stand for others

  -- they come in a row
  document-visits : AreVisits (TakesVisits req) AreTooMany
  document-visits = record {
    none = λ s. record { visits = []; stand = tt; node = visits_compose.none s; parent = refl };
    both = λ ys zs s t u p q. record {
      visits = p.visits ++ q.visits;
      stand = AllZip-append (StandsForVisit req) p.visits q.visits ys zs p.stand q.stand;
      node = visits_compose.both p.visits q.visits s t u p.node q.node;
      parent = q.parent ∙ p.parent;
    };
    more = λ ys zs s p.
        visits_compose.more (length ys) (length (ys ++ zs)) s
        (omega (arith, length-append ys zs)) p;
    after = λ ys zs s t p q.
        let long = AllZip-long (StandsForVisit req) p.visits ys p.stand in
        subst (λ n. TooManyVisits encoded_tuple_order n s)
        (ap (λ n. n + length zs) (sym long) ∙ sym (length-append ys zs))
        (visits_compose.after p.visits (length zs) s t p.node q);
  }

  -- visits of encoded tuples of a document stand for those of its tuples
  tuples-stand : (parent doc : ℕ) (tuples : List EncodedTuple) (keys : List KeyTuple)
      → AllZip (StandsForTuple req) tuples keys
      → AllZip (StandsForVisit req) (visits_at parent doc tuples) (visits_at parent doc keys)
  tuples-stand parent doc tuples keys stand =
      AllZip-map (StandsForTuple req) (StandsForVisit req) (λ t. ((parent, t), doc))
      (λ k. ((parent, k), doc)) (λ t k p. (refl, p, refl)) tuples keys stand

  -- what visits of the tuples of one document answer
  pub document-answers : (segment : Stored) (after : Named AfterKey) (doc : ℕ)
      (old new : Node EncodedTuple) (steps steps_now : ℕ) (result : Result (Unit {0}) VisitError)
      (tuples : List EncodedTuple)
      → AllZip (StandsForTuple req) tuples
      (past_occurrences req.req.now.sources (bound_of req.req.now.sources after)
      (documents_at segment (doc ∷ [])))
      → AnswersEncoded tuples (record old { doc = doc }) new steps steps_now result
      → (typed : List TypedVisit)
      → typed ≡ visits_past req.req.now.sources segment after old.parent (doc ∷ [])
      → Answers TooMany (TakesVisits req typed old new) (AreTooMany typed old) (length typed)
      steps steps_now result
  document-answers segment after doc old new steps steps_now result tuples stand own typed is =
      let sources = req.req.now.sources in
      let keys = past_occurrences sources (bound_of sources after)
      (documents_at segment (doc ∷ [])) in
      let one : typed ≡ visits_at old.parent doc keys =
      is ∙ append-nil (visits_at old.parent doc keys) in
      let long : length typed ≡ length tuples =
      ap length one ∙ length-map keys (λ k. ((old.parent, k), doc))
      ∙ AllZip-long (StandsForTuple req) tuples keys stand in
      record {
        ok = on_ok_weaker result (λ t. record {
          visits = visits_at old.parent doc tuples;
          stand = subst (AllZip (StandsForVisit req) (visits_at old.parent doc tuples)) (sym one)
              (tuples-stand old.parent doc tuples keys stand);
          node = tuples_compose.document tuples doc old new t;
          parent = t.parent;
        }) own.ok;
        least = on_ok_weaker result (λ l. omega (arith, l, long)) own.least;
        too_many = λ e.
            subst (λ n. TooManyVisits encoded_tuple_order n old) (sym long) (own.too_many e);
        later = own.later;
        most = omega (arith, own.most, long);
      }

module _ (req : CompositeAggReqData) (docs : List ℕ) where
  -- what has come of the documents before i
  abbrev pub DocumentsSoFar : ℕ → Node EncodedTuple → Node EncodedTuple → ℕ → ℕ → Type 0
  DocumentsSoFar i old now steps steps_now =
      (segment : Stored) (after : Named AfterKey) → Fits segment after req
      → AreAllInRange segment req.req.now.sources docs
      → SoFar (TakesVisits req) (visits_past req.req.now.sources segment after old.parent) docs i
      old now steps steps_now

  -- before the first document
  pub no-documents : (node : Node EncodedTuple) (steps : ℕ) → DocumentsSoFar 0 node node steps steps
  no-documents node steps segment after fit range =
      nothing-visited (TakesVisits req) AreTooMany (document-visits req)
      (visits_past req.req.now.sources segment after node.parent) refl docs node steps

  module _ (i : ℕ) (old now : Node EncodedTuple) (steps steps_now : ℕ)
      (so_far : DocumentsSoFar i old now steps steps_now) where
    -- all documents
    pub all-documents : length docs ≤ i
        → AnswersDocuments req docs old now steps steps_now (Ok tt)
    all-documents past segment after fit range typed is =
        subst (λ vs. Answers TooMany (TakesVisits req vs old now) (AreTooMany vs old) (length vs)
        steps steps_now (Ok tt)) (sym is)
        (all-visited (TakesVisits req) AreTooMany (document-visits req)
        (visits_past req.req.now.sources segment after old.parent)
        (visits_past-append req.req.now.sources segment after old.parent) docs i old now steps
        steps_now (so_far segment after fit range) past)

    module _ (d : ℕ) (l : i < length docs) (then : Node EncodedTuple) (steps_then : ℕ) where
      -- what one document answers, under the parent of all
      own-answers : (segment : Stored) (after : Named AfterKey) → Fits segment after req
          → AreAllInRange segment req.req.now.sources docs → (result : Returned)
          → AnswersDocuments req (get_or docs i d ∷ []) now then steps_now steps_then result
          → Answers TooMany
          (TakesVisits req
          (visits_past req.req.now.sources segment after old.parent (get_or docs i d ∷ []))
          now then)
          (AreTooMany
          (visits_past req.req.now.sources segment after old.parent (get_or docs i d ∷ [])) now)
          (length
          (visits_past req.req.now.sources segment after old.parent (get_or docs i d ∷ [])))
          steps_now steps_then result
      own-answers segment after fit range result own =
          own segment after fit (one-range segment req.req.now.sources docs i d l range)
          (visits_past req.req.now.sources segment after old.parent (get_or docs i d ∷ []))
          (ap (λ p. visits_past req.req.now.sources segment after p (get_or docs i d ∷ []))
          (sym (so_far segment after fit range).visited.parent))

      -- one document more
      pub one-document : AnswersDocuments req (get_or docs i d ∷ []) now then steps_now steps_then
          (Ok tt)
          → DocumentsSoFar (i + 1) old then steps steps_then
      one-document own segment after fit range =
          one-visited (TakesVisits req) AreTooMany (document-visits req)
          (visits_past req.req.now.sources segment after old.parent)
          (visits_past-append req.req.now.sources segment after old.parent) docs i old now steps
          steps_now (so_far segment after fit range) d l then steps_then
          (own-answers segment after fit range (Ok tt) own)

      -- the error of one document
      pub document-error : (error : VisitError) (returned : Returned)
          → AnswersDocuments req (get_or docs i d ∷ []) now then steps_now steps_then (Err error)
          → IsErrAnd returned (λ e. e ≡ error)
          → AnswersDocuments req docs old then steps steps_then returned
      document-error error returned own is_err segment after fit range typed is =
          subst (λ vs. Answers TooMany (TakesVisits req vs old then) (AreTooMany vs old) (length vs)
          steps steps_then returned) (sym is)
          (error-visited (TakesVisits req) AreTooMany (document-visits req)
          (visits_past req.req.now.sources segment after old.parent)
          (visits_past-append req.req.now.sources segment after old.parent) docs i old now steps
          steps_now (so_far segment after fit range) d l then steps_then error returned
          (own-answers segment after fit range (Err error) own) is_err)

-- a document more keeps the tuples of buckets those of request data
pub document-keeps : (req : CompositeAggReqData) (docs : List ℕ) (i d : ℕ) → i < length docs
    → (old now then : Node EncodedTuple) → KeepTuplesAt req docs old now
    → KeepTuplesAt req (get_or docs i d ∷ []) now then → KeepTuplesAt req docs old then
document-keeps req docs i d l old now then before keeps segment after fit range held =
    keeps segment after fit (one-range segment req.req.now.sources docs i d l range)
    (before segment after fit range held)
