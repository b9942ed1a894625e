-- What stands for documents is final as their result: of one aggregation, with what those below it
-- make of what is held.
use Rattle.std.proofs.Common.{◌≡◌, ℕ, inl, inr, List, [], ◌∷◌, None}
use Rattle.std.proofs.Common.{map, take, refl, sym, ap, ◌∙◌, subst, arith, Bool}
use Rattle.std.specs.Prelude.{nat_eq}
use Rattle.std.specs.List.{AllByRecursion, AllZip}
use Rattle.std.proofs.lemmas.Bool.{cond_both}
use Rattle.std.proofs.lemmas.List.{take-map, take_all}
use Rattle.std.proofs.lemmas.List.Elements.{All-take, recursion_from_All}
use Rattle.agg_values.specs.Names.{Named}
use Rattle.agg_segment.specs.storage.Document.{Fields}
use Rattle.agg_request_tree.specs.Matching.{matching}
use Rattle.agg_request_tree.specs.Occurrences.{bound_of}
use Rattle.agg_request_tree.specs.Page.{IsPage, count_in, documents_with, entry_of}
use Rattle.agg_request_tree.specs.Request.{Request}
use Rattle.agg_request_tree.specs.Source.{Sources, rules_of}
use Rattle.agg_request_tree.specs.declared.aggregation.AggregationVariants.{AggregationVariants}
use Rattle.agg_request_tree.specs.declared.aggregation.AggregationVariants.TheVariants as asks
use Rattle.agg_request_tree.specs.declared.aggregation.CompositeAggregation.{CompositeAggregation}
use Rattle.agg_request_tree.proofs.PageFromGroups.{Groups-nothing, IsPage-from_groups}
use Rattle.agg_request_tree.proofs.PageFromGroups.{groups-entries}
use Rattle.agg_results.specs.metric_results.MetricShown.{final_metric, shown_count, shown_max}
use Rattle.agg_results.specs.metric_results.MetricShown.{shown_min, shown_sum}
use Rattle.agg_results.specs.declared.metric_results.metric.IntermediateMetricResult as metrics
use metrics.{IntermediateMetricResult}
use metrics.TheVariants as m
use Rattle.agg_results.specs.intermediate_results.Final.{Finish, final_bucket, final_by}
use Rattle.agg_results.specs.intermediate_results.Final.{final_nothing, final_page, finish_all}
use Rattle.agg_results.specs.intermediate_results.Final.{lowest_of}
use Rattle.agg_results.specs.intermediate_results.Intermediate.{Entries, Held, Parts, TupleEntry}
use Rattle.agg_results.specs.intermediate_results.Intermediate.{below_entry, composite, counts_of}
use Rattle.agg_results.specs.intermediate_results.Intermediate.{entries_of, filter, metric}
use Rattle.agg_results.specs.intermediate_results.Intermediate.{target_size_of}
use Rattle.agg_results.specs.intermediate_results.Shown.{Results, last_tuple, shown_filter}
use Rattle.agg_results.specs.intermediate_results.Shown.{shown_page}
use Rattle.agg_results.specs.declared.intermediate_results as declared
use declared.composite.IntermediateCompositeBucketResult.{IntermediateCompositeBucketResult}
use Rattle.agg_results.specs.Results.{IsBucket, IsPageShown, IsResult}
use Rattle.agg_results.specs.StandsFor.{CompositeStands, EntryStands, HasShapeOf, MetricStands}
use Rattle.agg_results.specs.StandsFor.{PartsStand}
use Rattle.agg_results.proofs.Parts.{length-with, part-whole}

-- ---- last tuples

-- nothing has no last tuple
last-nothing : (size : ℕ) → last_tuple size [] ≡ None
last-nothing size =
    cond_both (nat_eq 0 size) None None (λ o. o ≡ None) (λ yes. refl) (λ no. refl)

-- the front of what is held, by its shape
front : (a : CompositeAggregation) (c : IntermediateCompositeBucketResult) → HasShapeOf a c
    → (lowest_of c ≡ take a.size (entries_of c))
    × (last_tuple (target_size_of c) (counts_of (lowest_of c))
    ≡ last_tuple a.size (counts_of (take a.size (entries_of c))))
front a c (inl is) = (
  (λ i. take (is.0 i) (entries_of c)),
  (λ i. last_tuple (is.0 i) (counts_of (take (is.0 i) (entries_of c)))),
)
front a c (inr none) = (
  nothing (target_size_of c) ∙ sym (nothing a.size),
  ap (λ es. last_tuple (target_size_of c) (counts_of es)) (nothing (target_size_of c))
      ∙ last-nothing (target_size_of c) ∙ sym (last-nothing a.size)
      ∙ ap (λ es. last_tuple a.size (counts_of es)) (sym (nothing a.size)),
)
  where
    nothing : (n : ℕ) → take n (entries_of c) ≡ []
    nothing n = ap (take n) none.1 ∙ take_all n [] (omega arith)

-- the page of no documents
page-nothing : (a : CompositeAggregation)
    → IsPage a.sources a.size (bound_of a.sources a.after) [] []
page-nothing a =
    subst (λ gs. IsPage a.sources a.size (bound_of a.sources a.after) []
    (map (entry_of a.sources []) gs)) (take_all a.size [] (omega arith))
    (IsPage-from_groups a.sources [] a.size (bound_of a.sources a.after) []
    (Groups-nothing (rules_of a.sources)))

module _ {B : Type 0} (is_match : B → Fields → Bool) where
  module _ (Below : Request B → List Fields → Held → Type 0)
      (Has : Request B → List Fields → Results → Type 0) (below : Request B)
      (each : Named Finish)
      (finals : (documents : List Fields) (whole : Held) → Below below documents whole
      → Has below documents (finish_all each whole)) where
    module _ (sources : Sources) (documents : List Fields) where
      -- an entry with its exact count is final as that of its documents
      entry-final : (e : TupleEntry) → EntryStands (Below below) sources documents e
          → e.1.doc_count ≡ count_in sources documents e.0
          → IsBucket is_match Has sources below
          (entry_of sources documents (e.0, e.1.doc_count)) (final_bucket sources each e)
      entry-final e stand exact = (
        finish_all each (below_entry e.1),
        finals (documents_with sources documents e.0) (below_entry e.1)
            (subst (λ ds. Below below ds (below_entry e.1))
            (part-whole stand.0 (documents_with sources documents e.0) stand.1
            (stand.2 ∙ exact ∙ sym (length-with sources documents e.0))) stand.3),
        refl,
      )

      entries-final : (es : Entries)
          → AllByRecursion (EntryStands (Below below) sources documents) es
          → AllByRecursion (λ x. x.count ≡ count_in sources documents x.tuple)
          (map (entry_of sources documents) (counts_of es))
          → AllZip (IsBucket is_match Has sources below)
          (map (entry_of sources documents) (counts_of es)) (map (final_bucket sources each) es)
      entries-final [] stand exact = tt
      entries-final (e ∷ es) stand exact =
          (entry-final e stand.0 exact.0, entries-final es stand.1 exact.1)

    composite-final : (a : CompositeAggregation) (documents : List Fields)
        (c : IntermediateCompositeBucketResult) → CompositeStands (Below below) a documents c
        → IsPageShown is_match Has a below documents (final_page a.sources each c)
    composite-final a documents c stand =
        let same = front a c stand.shape in
        let lowest = take a.size (entries_of c) in
        let page : IsPage a.sources a.size (bound_of a.sources a.after) documents
        (map (entry_of a.sources documents) (counts_of lowest)) =
        subst (λ gs. IsPage a.sources a.size (bound_of a.sources a.after) documents
        (map (entry_of a.sources documents) gs))
        (take-map (λ (e : TupleEntry). (e.0, e.1.doc_count)) a.size (entries_of c))
        stand.groups.page in (
          map (entry_of a.sources documents) (counts_of lowest),
          map (final_bucket a.sources each) lowest,
          page,
          entries-final a.sources documents lowest
              (recursion_from_All (EntryStands (Below below) a.sources documents) lowest
              (All-take (EntryStands (Below below) a.sources documents) a.size (entries_of c)
              stand.subs))
              (recursion_from_All (λ x. x.count ≡ count_in a.sources documents x.tuple)
              (map (entry_of a.sources documents) (counts_of lowest)) page.counted),
          (λ i. shown_page a.sources (map (final_bucket a.sources each) (same.0 i)) (same.1 i))
              ∙ ap (λ gs. shown_page a.sources (map (final_bucket a.sources each) lowest)
              (last_tuple a.size gs))
              (sym (groups-entries a.sources documents (counts_of lowest))),
        )

    metric-final : (a : AggregationVariants B) (documents : List Fields)
        (r : IntermediateMetricResult) → MetricStands a documents r
        → IsResult is_match Has a below documents (final_metric r)
    metric-final (asks.Count a) documents (m.Count r) stand = ap shown_count stand
    metric-final (asks.Max a) documents (m.Max r) stand = ap shown_max stand
    metric-final (asks.Min a) documents (m.Min r) stand = ap shown_min stand
    metric-final (asks.Sum a) documents (m.Sum r) stand = ap shown_sum stand
    metric-final (asks.Count a) documents r stand = absurd stand
    metric-final (asks.Max a) documents r stand = absurd stand
    metric-final (asks.Min a) documents r stand = absurd stand
    metric-final (asks.Sum a) documents r stand = absurd stand
    metric-final (asks.Filter a) documents r stand = absurd stand
    metric-final (asks.Composite a) documents r stand = absurd stand

    -- what is held, by its parts
    pub parts-final : (a : AggregationVariants B) (documents : List Fields) (r : Parts)
        → PartsStand is_match Below a below documents r
        → IsResult is_match Has a below documents (final_by a each r)
    parts-final (asks.Filter a) documents (filter n whole) stand = (
      finish_all each whole,
      finals (matching is_match a.query documents) whole stand.1,
      ap (λ count. shown_filter count (finish_all each whole)) stand.0,
    )
    parts-final (asks.Filter a) documents r stand = absurd stand
    parts-final (asks.Composite a) documents (composite c) stand =
        composite-final a documents c stand
    parts-final (asks.Composite a) documents r stand = absurd stand
    parts-final (asks.Count a) documents (metric r) stand =
        metric-final (asks.Count a) documents r stand
    parts-final (asks.Count a) documents r stand = absurd stand
    parts-final (asks.Max a) documents (metric r) stand =
        metric-final (asks.Max a) documents r stand
    parts-final (asks.Max a) documents r stand = absurd stand
    parts-final (asks.Min a) documents (metric r) stand =
        metric-final (asks.Min a) documents r stand
    parts-final (asks.Min a) documents r stand = absurd stand
    parts-final (asks.Sum a) documents (metric r) stand =
        metric-final (asks.Sum a) documents r stand
    parts-final (asks.Sum a) documents r stand = absurd stand

    -- what isn't held, of no documents
    pub nothing-final : Below below [] [] → (a : AggregationVariants B)
        → IsResult is_match Has a below [] (final_nothing a each)
    nothing-final none (asks.Filter a) = (finish_all each [], finals [] [] none, refl)
    nothing-final none (asks.Composite a) =
        ([], [], page-nothing a, tt, ap (shown_page a.sources []) (sym (last-nothing a.size)))
    nothing-final none (asks.Count a) = refl
    nothing-final none (asks.Max a) = refl
    nothing-final none (asks.Min a) = refl
    nothing-final none (asks.Sum a) = refl
