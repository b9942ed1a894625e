-- The entries of tuples that were listed and counted.
use Rattle.std.proofs.Common.{◌≡◌, ℕ, List, [], ◌∷◌, All, length, map, refl, sym, ap, ◌∙◌, subst}
use Rattle.std.proofs.Common.{◌≤◌, ◌+◌, ◌*◌, ◌^◌, Err, IsErrAnd, Ok, Result, sum, take, arith}
use Rattle.std.specs.Map.{keys_of}
use Rattle.std.proofs.lemmas.List.{take_all}
use Rattle.std.proofs.lemmas.List.Elements.{All-from_recursion, recursion_from_All}
use Rattle.std.proofs.lemmas.List.Sums.{sum_by-cons}
use Rattle.std.proofs.lemmas.Result.{err_from_is_err_and}
use Rattle.std.proofs.lemmas.Slice.Zip.{AllZip-long}
use Rattle.agg_values.specs.Names.{Named}
use Rattle.agg_values.specs.declared.after_key.AfterKey.{AfterKey}
use Rattle.agg_segment.specs.Segment.{Stored}
use Rattle.agg_request_tree.specs.Groups.{Group}
use Rattle.agg_request_tree.specs.Source.{after_of}
use Rattle.agg_composite.specs.accessor.Accessors.{AreAccessorsOf, Fits}
use Rattle.agg_composite.specs.accessor.Decoded.{IsEncoded, decoded}
use Rattle.agg_composite.specs.accessor.Encoding.{EncodedTuple, StandsForTuple, encoded_tuple_order}
use Rattle.agg_composite.specs.declared.accessor.request_data.CompositeAggReqData.{
  CompositeAggReqData,
}
use Rattle.agg_composite.specs.buckets.Cut.{groups_of}
use Rattle.agg_composite.specs.buckets.Page.{Page}
use Rattle.agg_composite.specs.declared.buckets.visit_error.VisitError.{VisitError}
use Rattle.agg_composite.specs.declared.buckets.visit_error.VisitError.TheVariants.{TooMany}
use Rattle.agg_composite.proofs.lemmas.tuple_counts.CountSums.{total_of}
use Rattle.agg_composite.specs.EncodedEntries.{listed_of}
use Rattle.agg_composite.specs.Listing.{AnswersDocuments, AnswersListed, CountsKeys, IsLowest}
use Rattle.agg_composite.specs.Listing.{TupleCounts, past_of}
use Rattle.agg_composite.specs.PageEntries.{decoded_groups, entry_group, page_entries}
use Rattle.agg_composite.specs.Walk.{parts}
use Rattle.agg_composite.specs.declared.walk.choice.Choice.{Choice}
use Rattle.agg_composite.proofs.BucketPages.{groups-first, keys-first}
use Rattle.agg_composite.proofs.ListedTuples.{passes-after}
use Rattle.agg_composite.proofs.TypedGroups.{groups-encoded, groups-typed}

-- the choices of one source are one row
pub one-row : (sizes : List ℕ) (choices : List Choice) → length sizes ≡ 1
    → sum sizes ≡ length choices → parts sizes choices ≡ choices ∷ []
one-row [] choices one whole = absurd (omega (arith, one))
one-row (size ∷ []) choices one whole =
    let all = sum_by-cons (λ n. n) size [] in
    ap (λ row. row ∷ []) (take_all size choices (omega (arith, all, whole)))
one-row (size ∷ more ∷ sizes) choices one whole = absurd (omega (arith, one))

-- listed tuples are those of their counts
listed-keys : (counts : TupleCounts) → keys_of (listed_of counts) ≡ keys_of counts
listed-keys [] = refl
listed-keys (e ∷ counts) = ap (λ ks. e.0 ∷ ks) (listed-keys counts)

-- their entries are their groups
listed-groups : (req : CompositeAggReqData) (counts : TupleCounts)
    → map entry_group (page_entries req (listed_of counts)) ≡ decoded_groups req counts
listed-groups req [] = refl
listed-groups req (e ∷ counts) =
    ap (λ (gs : List Group). (decoded req e.0, e.1) ∷ gs) (listed-groups req counts)

-- those of documents are the lowest groups of their occurrences
pub lowest-listed : (segment : Stored) (after : Named AfterKey) (req : CompositeAggReqData)
    (docs : List ℕ) → Fits segment after req → (counts lowest : TupleCounts)
    → CountsKeys req (past_of segment after req docs) [] counts
    → lowest ≡ take req.size counts → IsLowest segment after req docs (listed_of lowest)
lowest-listed segment after req docs fits counts lowest counted is =
    let tuples = counted.tuples in
    let groups = groups_of encoded_tuple_order tuples in
    let cut : lowest ≡ take req.size groups = is ∙ ap (take req.size) counted.counts in
    let keys : All (IsEncoded req) (keys_of groups) =
    groups-encoded req tuples (past_of segment after req docs) counted.stand in
    record {
      encoded = subst (All (IsEncoded req)) (sym (ap keys_of cut) ∙ sym (listed-keys lowest))
          (All-from_recursion (IsEncoded req) (keys_of (take req.size groups))
          (keys-first (IsEncoded req) req.size groups
          (recursion_from_All (IsEncoded req) (keys_of groups) keys)));
      groups = decoded_groups req groups;
      are = groups-typed segment after req fits tuples (past_of segment after req docs)
          counted.stand;
      lowest = listed-groups req lowest ∙ ap (decoded_groups req) cut
          ∙ groups-first req req.size groups;
    }

-- sources have as many accessors
pub accessors-long : (segment : Stored) (after : Named AfterKey) (req : CompositeAggReqData)
    → Fits segment after req → length req.req.now.sources ≡ length req.composite_accessors
accessors-long segment after req fits =
    sym (AllZip-long (λ source a. AreAccessorsOf segment source (after_of after source) a)
    req.req.now.sources req.composite_accessors fits)

module _ (segment : Stored) (after : Named AfterKey) (req : CompositeAggReqData)
    (docs : List ℕ) (steps steps_now : ℕ) where
  -- an error is passed on
  listed-refused : (error : VisitError) (returned : Result (Page EncodedTuple) VisitError)
      → (error ≡ TooMany → 2 ^ 64 ≤ length (past_of segment after req docs))
      → steps ≤ steps_now → steps_now ≤ steps + 3 * length (past_of segment after req docs)
      → IsErrAnd returned (λ e. e ≡ error)
      → AnswersListed segment after req docs steps steps_now returned
  listed-refused error returned many later most is_err =
      let given = err_from_is_err_and returned is_err in
      subst (AnswersListed segment after req docs steps steps_now) (sym given.1) (record {
        entries = tt;
        least = tt;
        too_many = λ e. many (sym given.2 ∙ cc e);
        later = later;
        most = most;
      })

  module _ (none counts : TupleCounts) (empty : none ≡ []) where
    nothing : total_of none ≡ 0
    nothing = ap total_of empty

    -- the error of a count
    pub listed-uncounted : (error : VisitError) (returned : Result (Page EncodedTuple) VisitError)
        → AnswersDocuments segment after req docs none counts steps steps_now (Err error)
        → IsErrAnd returned (λ e. e ≡ error)
        → AnswersListed segment after req docs steps steps_now returned
    listed-uncounted error returned own is_err =
        listed-refused error returned
        (λ e. let over = own.too_many (ap (λ x. Err x) e) in omega (arith, over, nothing))
        own.later own.most is_err

    module _ (own : AnswersDocuments segment after req docs none counts steps steps_now (Ok tt))
      where
        -- the error of the groups
        pub listed-ungrouped : (error : VisitError)
            (returned : Result (Page EncodedTuple) VisitError)
            → (error ≡ TooMany → 2 ^ 64 ≤ total_of counts) → IsErrAnd returned (λ e. e ≡ error)
            → AnswersListed segment after req docs steps steps_now returned
        listed-ungrouped error returned many is_err =
            let tuples = own.ok.tuples in
            let long = AllZip-long (StandsForTuple req) tuples (past_of segment after req docs)
            own.ok.stand in
            listed-refused error returned
            (λ e.
            let over = passes-after none tuples counts 0 own.ok.counts
            (let passed = many e in omega (arith, passed)) in
            omega (arith, over, nothing, long))
            own.later own.most is_err

        -- the entries
        pub listed-all : Fits segment after req → (lowest : TupleCounts)
            → lowest ≡ take req.size counts → (entries : Page EncodedTuple)
            → entries ≡ listed_of lowest
            → AnswersListed segment after req docs steps steps_now (Ok entries)
        listed-all fits lowest is entries are = record {
          entries =
              subst (IsLowest segment after req docs) (sym are)
              (lowest-listed segment after req docs fits counts lowest
              (subst (λ (c : TupleCounts). CountsKeys req (past_of segment after req docs) c counts)
              empty own.ok) is);
          least = own.least;
          too_many = λ e. absurd (cc e);
          later = own.later;
          most = own.most;
        }
