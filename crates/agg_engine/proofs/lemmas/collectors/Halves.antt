-- The results of two lists of segments, merged, are those of both as one.
use Rattle.std.proofs.Common.{◌≡◌, ◌+◌, ◌-◌, ◌≤◌, ◌^◌, ◌++◌, ℕ, zero, suc, List, [], ◌∷◌, None}
use Rattle.std.proofs.Common.{append-nil, drop, take, refl, subst, sym, ap, ◌∙◌, arith}
use Rattle.std.proofs.Common.{Result, Ok, Err, IfErr}
use Rattle.std.specs.Result.{IsErrAnd}
use Rattle.std.specs.Prelude.{Contains}
use Rattle.std.specs.List.{All, AllZip}
use Rattle.std.specs.Map.{keys_of}
use Rattle.std.proofs.Math.Seq.{take-add}
use Rattle.std.proofs.lemmas.List.Concat.{flat_map-append}
use Rattle.std.proofs.lemmas.List.Elements.{All-from_recursion, All-nil}
use Rattle.agg_values.specs.Names.{value_of}
use Rattle.agg_segment.specs.storage.Document.{Fields, HasNumbersOf64Bits}
use Rattle.agg_segment.specs.Query.{matches}
use Rattle.agg_segment.specs.declared.query.QueryTree.{QueryTree}
use Rattle.agg_segment.proofs.EncodedColumns.{back_all, front_all}
use Rattle.agg_request_tree.specs.Request.{Request}
use Rattle.agg_request_tree.specs.declared.aggregation.Aggregation.{Aggregation}
use Rattle.agg_request_tree.proofs.Lists.{AllByRecursion-always}
use Rattle.agg_results.specs.intermediate_results.Merging.{AreMerged, CountsPass, ShapesDiffer}
use Rattle.agg_results.specs.intermediate_results.Merging.{SomeOfBoth}
use Rattle.agg_results.specs.declared.metric_results.error.MergeError.{MergeError}
use Rattle.agg_results.specs.declared.metric_results.error.MergeError.TheVariants as merge
use Rattle.agg_results.specs.declared.intermediate_results.results.IntermediateAggregationResults
    as held
use held.{IntermediateAggregationResults}
use Rattle.agg_results.specs.StandsFor.{StandsFor, StandsTo}
use Rattle.agg_results.proofs.AddedNumbers.{adds-small}
use Rattle.agg_results.proofs.PassingResults.{StandsFor-few}
use Rattle.agg_results.proofs.StandingResults.{StandsFor-alike, StandsFor-joined}
use Rattle.agg_engine.specs.collectors.Fruits.{IsMergeCause, StandForEach, joined}
use Rattle.agg_engine.proofs.lemmas.snapshot_results.PartCounts.{as_many-back, as_many-front}

-- ---- the parts of a list

-- the first so many, of which the first are taken
pub take-front : {X : Type 0} (half count : ℕ) (xs : List X) → half ≤ count
    → take count xs ≡ take half xs ++ take (count - half) (drop half xs)
take-front half count xs less =
    let both : half + (count - half) ≡ count = omega arith in
    subst (λ n. take n xs ≡ take half xs ++ take (count - half) (drop half xs)) both
    (take-add half (count - half) xs)

module _ {X Y : Type 0} (R : X → Y → Type 0) where
  -- two lists that pair with the parts of another
  record Apart (xs : List X) (ys zs : List Y) : Type 0 where
    pub front : List X
    pub back : List X
    pub whole : xs ≡ front ++ back
    pub first : AllZip R front ys
    pub second : AllZip R back zs

  zipped-apart : (xs : List X) (ys zs : List Y) → AllZip R xs (ys ++ zs) → Apart xs ys zs
  zipped-apart xs [] zs all =
      record { front = []; back = xs; whole = refl; first = tt; second = all }
  zipped-apart [] (y ∷ ys) zs all = absurd all
  zipped-apart (x ∷ xs) (y ∷ ys) zs all =
      let rest = zipped-apart xs ys zs all.1 in
      record {
        front = x ∷ rest.front;
        back = rest.back;
        whole = ap (λ us. x ∷ us) rest.whole;
        first = (all.0, rest.first);
        second = rest.second;
      }

-- an error is passed on
pub err-kept : {A E : Type 0} (P : E → Type 0) (result : Result A E) (error : E)
    → IsErrAnd result (λ e. e ≡ error) → P error → IfErr result P
err-kept P (Ok x) error kept holds = tt
err-kept P (Err e) error kept holds = subst P (sym kept) holds

-- the lists of documents one after another
joined-append : (lists others : List (List Fields))
    → joined (lists ++ others) ≡ joined lists ++ joined others
joined-append = flat_map-append (λ documents. documents)

-- ---- what a call for the merged results of segments answers

-- its results stand for the documents of all
abbrev pub Stands : List IntermediateAggregationResults → IntermediateAggregationResults → Type 0
Stands fruits whole =
    (request : Request QueryTree) (lists : List (List Fields))
    → StandForEach request lists fruits
    → StandsFor matches request (joined lists) whole.results

-- its error has a cause
abbrev pub HasCause : List IntermediateAggregationResults → MergeError → Type 0
HasCause fruits error =
    (request : Request QueryTree) (lists : List (List Fields))
    → All HasNumbersOf64Bits (joined lists) → StandForEach request lists fruits
    → IsMergeCause request (joined lists) error

-- no results stand for no documents
nothing-stands : (depth : ℕ) (a : Aggregation QueryTree) → StandsTo matches depth a [] None
nothing-stands zero a = tt
nothing-stands (suc depth) a = refl

stands-none : (made : IntermediateAggregationResults) → made.results ≡ [] → Stands [] made
stands-none made is request [] all =
    subst (StandsFor matches request []) (sym is) (λ depth. record {
      each = All-from_recursion (λ (a : List ℕ × Aggregation QueryTree).
          StandsTo matches depth a.1 [] (value_of a.0 [])) request
          (AllByRecursion-always (λ (a : List ℕ × Aggregation QueryTree).
          StandsTo matches depth a.1 [] (value_of a.0 [])) (λ a. nothing-stands depth a.1) request);
      known = All-nil (Contains (keys_of request));
    })
stands-none made is request (documents ∷ lists) all = absurd all

pub stands-none-taken : (fruits : List IntermediateAggregationResults) (count : ℕ)
    (made : IntermediateAggregationResults) → count ≡ 0 → made.results ≡ []
    → Stands (take count fruits) made
stands-none-taken fruits count made none is =
    subst (λ n. Stands (take n fruits) made) (sym none) (stands-none made is)

-- those of one segment stand for its documents
stands-one : (fruit : IntermediateAggregationResults) → Stands (fruit ∷ []) fruit
stands-one fruit request [] all = absurd all
stands-one fruit request (documents ∷ []) all =
    subst (λ ds. StandsFor matches request ds fruit.results) (sym (append-nil documents)) all.0
stands-one fruit request (documents ∷ other ∷ lists) all = absurd all.1

pub stands-first : (fruits rest : List IntermediateAggregationResults) (count : ℕ)
    (fruit : IntermediateAggregationResults) → count ≡ 1 → fruits ≡ fruit ∷ rest
    → Stands (take count fruits) fruit
stands-first fruits rest count fruit one is =
    subst (λ n. Stands (take n fruits) fruit) (sym one)
    (subst (λ fs. Stands (take 1 fs) fruit) (sym is) (stands-one fruit))

-- ---- the two halves

-- a cause in some documents is one in these and others
cause-front : (request : Request QueryTree) (documents others : List Fields) (error : MergeError)
    → IsMergeCause request documents error → IsMergeCause request (documents ++ others) error
cause-front request documents others merge.Mismatch cause = cause
cause-front request documents others merge.TooMany cause =
    as_many-front matches (2 ^ 62) request documents others cause
cause-front request documents others merge.OutOfMemory cause = tt

cause-back : (request : Request QueryTree) (documents others : List Fields) (error : MergeError)
    → IsMergeCause request others error → IsMergeCause request (documents ++ others) error
cause-back request documents others merge.Mismatch cause = cause
cause-back request documents others merge.TooMany cause =
    as_many-back matches (2 ^ 62) request documents others cause
cause-back request documents others merge.OutOfMemory cause = tt

module _ (first second fruits : List IntermediateAggregationResults)
    (whole : fruits ≡ first ++ second) where
  -- the lists of documents of both
  apart : (request : Request QueryTree) (lists : List (List Fields))
      → StandForEach request lists fruits
      → Apart (λ documents results. StandsFor matches request documents results.results) lists first
      second
  apart request lists all =
      zipped-apart (λ documents results. StandsFor matches request documents results.results) lists
      first second (subst (StandForEach request lists) whole all)

  -- the error of a half has its cause in all
  pub first-cause : (error : MergeError) → HasCause first error → HasCause fruits error
  first-cause error cause request lists small all =
      let p = apart request lists all in
      let same = ap joined p.whole ∙ joined-append p.front p.back in
      subst (λ ds. IsMergeCause request ds error) (sym same)
      (cause-front request (joined p.front) (joined p.back) error
      (cause request p.front
      (front_all HasNumbersOf64Bits (joined p.front) (joined p.back)
      (subst (All HasNumbersOf64Bits) same small)) p.first))

  pub second-cause : (error : MergeError) → HasCause second error → HasCause fruits error
  second-cause error cause request lists small all =
      let p = apart request lists all in
      let same = ap joined p.whole ∙ joined-append p.front p.back in
      subst (λ ds. IsMergeCause request ds error) (sym same)
      (cause-back request (joined p.front) (joined p.back) error
      (cause request p.back
      (back_all HasNumbersOf64Bits (joined p.front) (joined p.back)
      (subst (All HasNumbersOf64Bits) same small)) p.second))

  module _ (held more : IntermediateAggregationResults) (a : Stands first held)
      (b : Stands second more) where
    -- merged, they are the results of all
    pub both-stand : (merged : IntermediateAggregationResults)
        → AreMerged held.results more.results merged.results → Stands fruits merged
    both-stand merged are request lists all =
        let p = apart request lists all in
        subst (λ ds. StandsFor matches request ds merged.results)
        (sym (ap joined p.whole ∙ joined-append p.front p.back))
        (StandsFor-joined matches request (joined p.front) (joined p.back) held.results
        more.results (a request p.front p.first) (b request p.back p.second) merged.results are)

    -- where they aren't merged, there is a cause
    pub both-cause : (error : MergeError)
        → (error ≡ merge.Mismatch → SomeOfBoth ShapesDiffer held.results more.results)
        → (error ≡ merge.TooMany → SomeOfBoth CountsPass held.results more.results)
        → HasCause fruits error
    both-cause error mismatch too_many request lists small all =
        subst (λ ds. IsMergeCause request ds error) (sym same) (by error mismatch too_many)
      where
        p : Apart (λ documents results. StandsFor matches request documents results.results) lists
            first second
        p = apart request lists all

        same : joined lists ≡ joined p.front ++ joined p.back
        same = ap joined p.whole ∙ joined-append p.front p.back

        by : (error : MergeError)
            → (error ≡ merge.Mismatch → SomeOfBoth ShapesDiffer held.results more.results)
            → (error ≡ merge.TooMany → SomeOfBoth CountsPass held.results more.results)
            → IsMergeCause request (joined p.front ++ joined p.back) error
        by merge.Mismatch mismatch too_many =
            StandsFor-alike matches request (joined p.front) (joined p.back) held.results
            more.results (a request p.front p.first) (b request p.back p.second) (mismatch refl)
        by merge.TooMany mismatch too_many =
            StandsFor-few matches request (joined p.front) (joined p.back) held.results
            more.results
            (adds-small request (joined p.front ++ joined p.back)
            (subst (All HasNumbersOf64Bits) same small))
            (a request p.front p.first) (b request p.back p.second) (too_many refl)
        by merge.OutOfMemory mismatch too_many = tt
