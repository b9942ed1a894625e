-- The contexts of segments, one by one and in two parts.
use Rattle.std.proofs.Common.{◌≡◌, ◌+◌, ◌<◌, ◌^◌, ℕ, zero, suc, List, [], ◌∷◌, ◌++◌, append-nil}
use Rattle.std.proofs.Common.{drop, get_or, length, refl, sym, subst, take, ap, ◌∙◌, arith}
use Rattle.std.specs.List.{AllZip, filter, flat_map}
use Rattle.std.proofs.lemmas.List.{take-append-drop, take_more}
use Rattle.std.proofs.lemmas.List.Concat.{flat_map-append, flat_map-cons}
use Rattle.std.proofs.lemmas.List.Elements.{filter-append}
use Rattle.std.proofs.lemmas.Slice.Zip.{AllZip-long}
use Rattle.agg_segment.specs.storage.Document.{Fields}
use Rattle.agg_segment.specs.Query.{matches}
use Rattle.agg_segment.specs.Segment.{Stored, documents_at, documents_of}
use Rattle.agg_segment.specs.declared.query.QueryTree.{QueryTree}
use Rattle.agg_request_tree.specs.Ranges.{HasStartOutOfRange}
use Rattle.agg_request_tree.specs.Request.{Request}
use Rattle.agg_request_tree.specs.Uncut.{CountsTooMany}
use Rattle.agg_engine_tree.specs.segment_context.Context as context
use Rattle.agg_engine_tree.specs.segment_context.Context.{Meaning}
use Rattle.agg_engine.specs.snapshot_results.Contexts.{AreContextsOf, IsContextOf, MayBeCollected}
use Rattle.agg_engine.specs.snapshot_results.Documents.{matching_in}
use Rattle.agg_engine.specs.declared.snapshot_results.context.SegmentContext.{SegmentContext}
use Rattle.agg_engine.proofs.lemmas.snapshot_results.PartCounts.{as_many-back, as_many-front}
use Rattle.agg_engine.proofs.lemmas.snapshot_results.StartRanges.{none-out, out-back, out-front}

-- ---- pairs of two lists

module _ {A B : Type 0} (R : A → B → Type 0) where
  -- the item that goes with an item
  zipped-at : (xs : List A) (ys : List B) (i : ℕ) (y : B) → AllZip R xs ys → i < length ys
      → y ≡ get_or ys i y → (x : A) × (x ≡ get_or xs i x) × R x y
  zipped-at [] [] i y all l is = absurd (omega arith)
  zipped-at [] (z ∷ ys) i y all l is = absurd all
  zipped-at (x ∷ xs) [] i y all l is = absurd all
  zipped-at (x ∷ xs) (z ∷ ys) zero y all l is = (x, refl, subst (R x) (sym is) all.0)
  zipped-at (x ∷ xs) (z ∷ ys) (suc i) y all l is = zipped-at xs ys i y all.1 (omega (arith, l)) is

  zipped-push : (xs : List A) (ys : List B) (x : A) (y : B) → AllZip R xs ys → R x y
      → AllZip R (xs ++ x ∷ []) (ys ++ y ∷ [])
  zipped-push [] [] x y all one = (one, tt)
  zipped-push [] (z ∷ ys) x y all one = absurd all
  zipped-push (z ∷ xs) [] x y all one = absurd all
  zipped-push (z ∷ xs) (w ∷ ys) x y all one = (all.0, zipped-push xs ys x y all.1 one)

  -- the pairs so far, with one more
  pub zipped-more : (xs : List A) (i : ℕ) (ys zs : List B) (x : A) (y : B)
      → AllZip R (take i xs) ys → i < length xs → x ≡ get_or xs i x → R x y
      → zs ≡ ys ++ y ∷ [] → AllZip R (take (i + 1) xs) zs
  zipped-more xs i ys zs x y all within item one pushed =
      subst (AllZip R (take (i + 1) xs)) (sym pushed)
      (subst (λ ts. AllZip R ts (ys ++ y ∷ []))
      (sym (take_more xs i x within ∙ ap (λ z. take i xs ++ z ∷ []) (sym item)))
      (zipped-push (take i xs) ys x y all one))

  -- the pairs in front, and those that are left
  zipped-front : (xs : List A) (ys : List B) (i : ℕ) → AllZip R xs ys
      → AllZip R (take i xs) (take i ys)
  zipped-front xs ys zero all = tt
  zipped-front [] [] (suc i) all = tt
  zipped-front [] (y ∷ ys) (suc i) all = absurd all
  zipped-front (x ∷ xs) [] (suc i) all = absurd all
  zipped-front (x ∷ xs) (y ∷ ys) (suc i) all = (all.0, zipped-front xs ys i all.1)

  zipped-back : (xs : List A) (ys : List B) (i : ℕ) → AllZip R xs ys
      → AllZip R (drop i xs) (drop i ys)
  zipped-back xs ys zero all = all
  zipped-back [] [] (suc i) all = tt
  zipped-back [] (y ∷ ys) (suc i) all = absurd all
  zipped-back (x ∷ xs) [] (suc i) all = absurd all
  zipped-back (x ∷ xs) (y ∷ ys) (suc i) all = zipped-back xs ys i all.1

-- ---- documents

-- the documents of two lists of segments
pub matching-append : (query : QueryTree) (first second : List Stored)
    → matching_in query (first ++ second) ≡ matching_in query first ++ matching_in query second
matching-append query first second =
    ap (filter (matches query)) (flat_map-append documents_of first second)
    ∙ filter-append (matches query) (flat_map documents_of first) (flat_map documents_of second)

-- the documents of one segment that match
pub matching-one : (query : QueryTree) (segment : Stored)
    → matching_in query (segment ∷ []) ≡ filter (matches query) (documents_of segment)
matching-one query segment =
    ap (filter (matches query))
    (flat_map-cons documents_of segment [] ∙ append-nil (documents_of segment))

module _ (request : Request QueryTree) (query : QueryTree) where
  -- ---- one segment

  module _ (segment : Stored) (given : SegmentContext)
      (is : IsContextOf request query segment given) where
    -- the documents that match are those of the numbers in its context
    pub documents-one : documents_at segment given.docs.items ≡ matching_in query (segment ∷ [])
    documents-one = is.docs ∙ sym (matching-one query segment)

    -- whatever the data means
    pub documents-here : (meaning : Meaning) → meaning.segment ≡ segment
        → (docs : List ℕ) → docs ≡ given.docs.items
        → documents_at meaning.segment docs ≡ matching_in query (segment ∷ [])
    documents-here meaning same docs docs_are =
        ap (λ s. documents_at s docs) same ∙ ap (documents_at segment) docs_are ∙ documents-one

    -- the data is that of the request in the reader's segment
    pub data-here : (meaning : Meaning) × (r : Request QueryTree)
        × (meaning.segment ≡ given.reader.now)
        × context.IsContextOf meaning given.aggregations.per_request r
    data-here =
        (is.meaning, request, is.means.same ∙ sym is.reader, is.means.aggregations)

  -- ---- segment by segment

  module _ (segments : List Stored) (contexts : List SegmentContext)
      (are : AreContextsOf request query segments contexts) (i : ℕ) (given : SegmentContext)
      (within : i < length contexts) (item : given ≡ get_or contexts i given) where
    -- the segment at an index
    pub at : (segment : Stored) × (segment ≡ get_or segments i segment)
        × IsContextOf request query segment given
    at = zipped-at (IsContextOf request query) segments contexts i given are within item

    -- with its documents after those of the segments before
    pub one_more : matching_in query (take (i + 1) segments)
        ≡ matching_in query (take i segments) ++ matching_in query (at.0 ∷ [])
    one_more =
        let long = AllZip-long (IsContextOf request query) segments contexts are in
        ap (matching_in query) (take_more segments i at.0 (omega arith)
        ∙ ap (λ s. take i segments ++ s ∷ []) (sym at.1))
        ∙ matching-append query (take i segments) (at.0 ∷ [])

    -- no start is out of range in one segment more
    pub range-more : ¬ (HasStartOutOfRange request (matching_in query (take i segments)))
        → ¬ (HasStartOutOfRange request (matching_in query (at.0 ∷ [])))
        → ¬ (HasStartOutOfRange request (matching_in query (take (i + 1) segments)))
    range-more before own =
        subst (λ ds. ¬ (HasStartOutOfRange request ds)) (sym one_more)
        (none-out request (matching_in query (take i segments)) (matching_in query (at.0 ∷ []))
        before own)

    -- one that is out of range here is so in all segments
    pub range-refused : HasStartOutOfRange request (matching_in query (at.0 ∷ []))
        → HasStartOutOfRange request (matching_in query segments)
    range-refused out =
        let here = subst (HasStartOutOfRange request) (sym one_more)
        (out-back request (matching_in query (take i segments)) (matching_in query (at.0 ∷ [])) out)
        in
        subst (HasStartOutOfRange request)
        (sym (matching-append query (take (i + 1) segments) (drop (i + 1) segments))
        ∙ ap (matching_in query) (take-append-drop (i + 1) segments))
        (out-front request (matching_in query (take (i + 1) segments))
        (matching_in query (drop (i + 1) segments)) here)

  -- ---- in two parts

  module _ (segments : List Stored) (contexts : List SegmentContext) (i : ℕ)
      (ready : MayBeCollected request query segments contexts) where
    -- the documents that match in the segments in front, and in those that are left
    abbrev pub documents-front : List Fields
    documents-front = matching_in query (take i segments)

    abbrev pub documents-back : List Fields
    documents-back = matching_in query (drop i segments)

    pub documents-cut : matching_in query segments ≡ documents-front ++ documents-back
    documents-cut =
        ap (matching_in query) (sym (take-append-drop i segments))
        ∙ matching-append query (take i segments) (drop i segments)

    -- few are counted in both
    pub few-cut : ¬ (CountsTooMany matches request (documents-front ++ documents-back))
    few-cut = subst (λ ds. ¬ (CountsTooMany matches request ds)) documents-cut ready.few

    in_range : ¬ (HasStartOutOfRange request (documents-front ++ documents-back))
    in_range = subst (λ ds. ¬ (HasStartOutOfRange request ds)) documents-cut ready.range

    -- the segments in front may be collected
    pub ready-front : (first : List SegmentContext) → first ≡ take i contexts
        → MayBeCollected request query (take i segments) first
    ready-front first front = record {
      each = subst (AreContextsOf request query (take i segments)) (sym front)
          (zipped-front (IsContextOf request query) segments contexts i ready.each);
      names = ready.names;
      range = λ out. in_range (out-front request documents-front documents-back out);
      few = λ many.
          few-cut (as_many-front matches (2 ^ 32) request documents-front documents-back many);
    }

    -- so may those that are left
    pub ready-back : (second : List SegmentContext) → second ≡ drop i contexts
        → MayBeCollected request query (drop i segments) second
    ready-back second back = record {
      each = subst (AreContextsOf request query (drop i segments)) (sym back)
          (zipped-back (IsContextOf request query) segments contexts i ready.each);
      names = ready.names;
      range = λ out. in_range (out-back request documents-front documents-back out);
      few = λ many.
          few-cut (as_many-back matches (2 ^ 32) request documents-front documents-back many);
    }

  -- ---- no segment, and one

  -- the segment of a lone context
  pub lone-segment : (segments : List Stored) (given : SegmentContext)
      → MayBeCollected request query segments (given ∷ [])
      → (segment : Stored) × (segments ≡ segment ∷ [])
  lone-segment [] given ready = absurd ready.each
  lone-segment (segment ∷ []) given ready = (segment, refl)
  lone-segment (segment ∷ other ∷ segments) given ready = absurd ready.each.1

  -- the segment of the first context
  pub first-of : (segments : List Stored) (given : SegmentContext)
      (contexts : List SegmentContext) → AreContextsOf request query segments (given ∷ contexts)
      → (segment : Stored) × (take 1 segments ≡ segment ∷ [])
      × IsContextOf request query segment given
  first-of [] given contexts each = absurd each
  first-of (segment ∷ segments) given contexts each = (segment, refl, each.0)

  -- no segment for no context
  pub no-segment : (segments : List Stored)
      → AreContextsOf request query segments [] → segments ≡ []
  no-segment [] each = refl
  no-segment (segment ∷ segments) each = absurd each

-- a list of one item
pub only-item : {A : Type 0} (xs : List A) (x : A) → length xs ≡ 1 → x ≡ get_or xs 0 x
    → xs ≡ x ∷ []
only-item [] x long is = absurd (omega (arith, long))
only-item (y ∷ []) x long is = ap (λ z. z ∷ []) (sym is)
only-item (y ∷ z ∷ xs) x long is = absurd (omega (arith, long))

pub no-item : {A : Type 0} (xs : List A) → length xs < 1 → xs ≡ []
no-item [] few = refl
no-item (x ∷ xs) few = absurd (omega (arith, few))
