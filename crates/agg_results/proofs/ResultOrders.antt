-- The results of a request are one, whatever the order of the documents.
use Rattle.std.proofs.Common.{◌≡◌, ℕ, zero, suc, ◌≤◌, List, [], ◌∷◌, Bool, refl, sym, ap}
use Rattle.std.proofs.Common.{◌∙◌, subst, arith, map, replicate}
use Rattle.std.specs.Int.{int_max, int_min}
use Rattle.std.specs.List.{AllByRecursion, AllZip, count_by}
use Rattle.std.proofs.lemmas.List.Elements.{recursion_from_All}
use Rattle.agg_segment.specs.storage.Document.{Fields}
use Rattle.agg_request_tree.specs.Matching.{filter_matches}
use Rattle.agg_request_tree.specs.Metrics.{number_of, numbers_of, values_of_field}
use Rattle.agg_request_tree.specs.Occurrences.{bound_of, occurrences, same_tuple}
use Rattle.agg_request_tree.specs.Page.{Entry, documents_with, group_of}
use Rattle.agg_request_tree.specs.Request.{Request, agg_of, below_of}
use Rattle.agg_request_tree.specs.Source.{Sources, rules_of}
use Rattle.agg_request_tree.specs.declared.aggregation.Aggregation.{Aggregation}
use Rattle.agg_request_tree.specs.declared.aggregation.AggregationVariants.{AggregationVariants}
use Rattle.agg_request_tree.specs.declared.aggregation.AggregationVariants.TheVariants as asks
use Rattle.agg_request_tree.specs.declared.aggregation.CompositeAggregation.{CompositeAggregation}
use Rattle.agg_request_tree.proofs.PageCounts.{counts-permutation}
use Rattle.agg_request_tree.proofs.Reorderings.{IsPermutation-from_reordering, IsReordering}
use Rattle.agg_request_tree.proofs.Reorderings.{IsReordering-filter_map, IsReordering-flat_map}
use Rattle.agg_request_tree.proofs.RequestTrees.{height, height-out, levels}
use Rattle.agg_results.specs.declared.final_results.types as final
use final.AggregationResult.{AggregationResult}
use final.AggregationResults.{AggregationResults}
use final.CompositeBucketEntry.{CompositeBucketEntry}
use Rattle.agg_results.specs.metric_results.MetricShown.{shown_count, shown_max, shown_min}
use Rattle.agg_results.specs.metric_results.MetricShown.{shown_sum}
use Rattle.agg_results.specs.intermediate_results.Shown.{Results, last_tuple, shown_bucket}
use Rattle.agg_results.specs.intermediate_results.Shown.{shown_filter, shown_page}
use Rattle.agg_results.specs.Results.{AreResults, EachHas, IsBucket, IsFilterShown, IsPageShown}
use Rattle.agg_results.specs.Results.{IsResult, IsResultTo}
use Rattle.agg_results.proofs.ListOrders.{IsReordering-filter}
use Rattle.agg_results.proofs.NumberOrders.{best_of-reordering, length-reordering, max-any_order}
use Rattle.agg_results.proofs.NumberOrders.{min-any_order, sum_of-reordering}

-- ---- what is read of documents in another order

values-moved : (field : List ℕ) {documents others : List Fields}
    → IsReordering documents others
    → IsReordering (values_of_field field documents) (values_of_field field others)
values-moved field moved = IsReordering-flat_map (λ d. d field) moved

numbers-moved : (field : List ℕ) {documents others : List Fields}
    → IsReordering documents others
    → IsReordering (numbers_of field documents) (numbers_of field others)
numbers-moved field moved = IsReordering-filter_map number_of (values-moved field moved)

-- an entry's documents have the entry's tuple
abbrev IsOwn : Sources → List Fields → Entry → Type 0
IsOwn sources documents e = e.documents ≡ documents_with sources documents e.tuple

-- the documents of two entries of one tuple
entry-moved : (sources : Sources) (documents others : List Fields) → IsReordering documents others
    → (e f : Entry) → e.tuple ≡ f.tuple → IsOwn sources documents e → IsOwn sources others f
    → IsReordering e.documents f.documents
entry-moved sources documents others moved e f tied own other =
    subst (λ ds. IsReordering ds f.documents) (sym own)
    (subst (IsReordering (documents_with sources documents e.tuple))
    (ap (documents_with sources others) tied ∙ sym other)
    (IsReordering-flat_map (λ d. replicate
    (count_by (same_tuple (rules_of sources) e.tuple) (occurrences sources d)) d) moved))

module _ {B : Type 0} (is_match : B → Fields → Bool) where
  -- ---- one aggregation

  module _ (Below : Request B → List Fields → Results → Type 0) (below : Request B)
      (one : (documents others : List Fields) → IsReordering documents others → (r s : Results)
      → Below below documents r → Below below others s → r ≡ s)
      (documents others : List Fields) (moved : IsReordering documents others) where
    bucket-same : (sources : Sources) (e f : Entry) (b c : CompositeBucketEntry)
        → group_of e ≡ group_of f → IsOwn sources documents e → IsOwn sources others f
        → IsBucket is_match Below sources below e b → IsBucket is_match Below sources below f c
        → b ≡ c
    bucket-same sources e f b c tied own other (r, first, is) (s, second, are) =
        let inside =
        one e.documents f.documents
        (entry-moved sources documents others moved e f (ap (λ g. g.0) tied) own other)
        r s first second in
        is ∙ (λ i. shown_bucket sources (tied i) (inside i)) ∙ sym are

    buckets-same : (sources : Sources) (es fs : List Entry) (bs cs : List CompositeBucketEntry)
        → map group_of es ≡ map group_of fs
        → AllByRecursion (IsOwn sources documents) es → AllByRecursion (IsOwn sources others) fs
        → AllZip (IsBucket is_match Below sources below) es bs
        → AllZip (IsBucket is_match Below sources below) fs cs → bs ≡ cs
    buckets-same sources [] [] [] [] tied own other is are = refl
    buckets-same sources [] fs (b ∷ bs) cs tied own other is are = absurd is
    buckets-same sources es [] bs (c ∷ cs) tied own other is are = absurd are
    buckets-same sources (e ∷ es) fs [] cs tied own other is are = absurd is
    buckets-same sources es (f ∷ fs) bs [] tied own other is are = absurd are
    buckets-same sources [] (f ∷ fs) bs cs tied own other is are = cc
    buckets-same sources (e ∷ es) [] bs cs tied own other is are = cc
    buckets-same sources (e ∷ es) (f ∷ fs) (b ∷ bs) (c ∷ cs) tied own other is are =
        let head : group_of e ≡ group_of f = cc in
        let tail : map group_of es ≡ map group_of fs = cc in
        let first = bucket-same sources e f b c head own.0 other.0 is.0 are.0 in
        let rest = buckets-same sources es fs bs cs tail own.1 other.1 is.1 are.1 in
        λ i. first i ∷ rest i

    page-same : (a : CompositeAggregation) (s t : AggregationResult)
        → IsPageShown is_match Below a below documents s
        → IsPageShown is_match Below a below others t → s ≡ t
    page-same a s t (es, bs, page, zip, is) (fs, cs, other, zipped, are) =
        let tied =
        counts-permutation a.sources a.size (bound_of a.sources a.after) documents others es fs
        (IsPermutation-from_reordering moved) page other in
        let buckets =
        buckets-same a.sources es fs bs cs tied
        (recursion_from_All (IsOwn a.sources documents) es page.kept)
        (recursion_from_All (IsOwn a.sources others) fs other.kept) zip zipped in
        is ∙ (λ i. shown_page a.sources (buckets i) (last_tuple a.size (tied i))) ∙ sym are

    filter-same : (matched turned : List Fields) → IsReordering matched turned
        → (s t : AggregationResult)
        → IsFilterShown is_match Below matched below s
        → IsFilterShown is_match Below turned below t → s ≡ t
    filter-same matched turned both s t (r, first, is) (u, second, are) =
        let inside = one matched turned both r u first second in
        is ∙ (λ i. shown_filter (length-reordering both i) (inside i)) ∙ sym are

    result-layer : (a : AggregationVariants B) (s t : AggregationResult)
        → IsResult is_match Below a below documents s → IsResult is_match Below a below others t
        → s ≡ t
    result-layer (asks.Filter a) s t is are =
        filter-same _ _ (IsReordering-filter (filter_matches is_match a.query) moved) s t is are
    result-layer (asks.Composite a) s t is are = page-same a s t is are
    result-layer (asks.Count a) s t is are =
        is ∙ ap shown_count (length-reordering (values-moved a.field moved)) ∙ sym are
    result-layer (asks.Max a) s t is are =
        is ∙ ap shown_max (best_of-reordering int_max max-any_order (numbers-moved a.field moved))
        ∙ sym are
    result-layer (asks.Min a) s t is are =
        is ∙ ap shown_min (best_of-reordering int_min min-any_order (numbers-moved a.field moved))
        ∙ sym are
    result-layer (asks.Sum a) s t is are =
        is ∙ ap shown_sum (sum_of-reordering (numbers-moved a.field moved)) ∙ sym are

  -- ---- names

  -- one result for each aggregation with no more levels than the depth
  abbrev HasOneTo : ℕ → Type 0
  HasOneTo depth =
      (a : Aggregation B) → height a ≤ depth
      → (documents others : List Fields) → IsReordering documents others
      → (s t : AggregationResult)
      → IsResultTo is_match depth a documents s → IsResultTo is_match depth a others t → s ≡ t

  names-same : (depth : ℕ) → HasOneTo depth → (request : Request B) → levels request ≤ depth
      → (documents others : List Fields) → IsReordering documents others → (r s : Results)
      → EachHas is_match (IsResultTo is_match depth) request documents r
      → EachHas is_match (IsResultTo is_match depth) request others s → r ≡ s
  names-same depth one [] low documents others moved [] [] is are = refl
  names-same depth one [] low documents others moved (x ∷ r) s is are = absurd is
  names-same depth one [] low documents others moved r (y ∷ s) is are = absurd are
  names-same depth one (a ∷ request) low documents others moved [] s is are = absurd is
  names-same depth one (a ∷ request) low documents others moved r [] is are = absurd are
  names-same depth one (a ∷ request) low documents others moved (x ∷ r) (y ∷ s) is are =
      let value =
      one a.1 (omega arith) documents others moved x.1 y.1 is.0.1 are.0.1 in
      let name = is.0.0 ∙ sym are.0.0 in
      let rest = names-same depth one request (omega arith) documents others moved r s is.1 are.1 in
      λ i. (name i, value i) ∷ rest i

  -- ---- every depth

  result-same : (depth : ℕ) → HasOneTo depth
  result-same zero a low documents others moved s t is are =
      let tall = height-out a in absurd (omega arith)
  result-same (suc depth) a low documents others moved s t is are =
      let tall = height-out a in
      result-layer (EachHas is_match (IsResultTo is_match depth)) (below_of a)
      (names-same depth (result-same depth) (below_of a) (omega arith))
      documents others moved (agg_of a) s t is are

  -- the results over documents in two orders are the same
  pub AreResults-reordering : (request : Request B) (documents others : List Fields)
      (results turned : AggregationResults) → IsReordering documents others
      → AreResults is_match request documents results → AreResults is_match request others turned
      → results ≡ turned
  AreResults-reordering request documents others results turned moved is are =
      let depth = levels request in
      let same =
      names-same depth (result-same depth) request (omega arith) documents others moved
      results.0 turned.0 (is depth) (are depth) in
      λ i. record { 0 = same i }
