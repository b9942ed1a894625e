-- A count or sum of what stands for documents is too large only where a node lists many: one layer.
use Rattle.std.proofs.Common.{◌≡◌, ℕ, ◌+◌, ◌≤◌, ◌^◌, ◌⊎◌, inl, inr, List, ◌++◌, Bool}
use Rattle.std.proofs.Common.{length, length-append, sym, ap, ◌∙◌, subst, arith, ◌+ℤ◌}
use Rattle.std.proofs.Common.{FitsSigned}
use mir.Syntax.{w128}
use Rattle.std.specs.List.{AllByRecursion, Contains}
use Rattle.std.proofs.lemmas.List.Elements.{All-contains}
use Rattle.agg_segment.specs.storage.Document.{Fields}
use Rattle.agg_request_tree.specs.Matching.{matching}
use Rattle.agg_request_tree.specs.Metrics.{numbers_of, sum_of}
use Rattle.agg_request_tree.specs.Page.{documents_with}
use Rattle.agg_request_tree.specs.Request.{Request}
use Rattle.agg_request_tree.specs.Uncut.{counted, uncut}
use Rattle.agg_request_tree.specs.declared.aggregation.AggregationVariants.{AggregationVariants}
use Rattle.agg_request_tree.specs.declared.aggregation.AggregationVariants.TheVariants as asks
use Rattle.agg_request_tree.specs.declared.aggregation.CompositeAggregation.{CompositeAggregation}
use Rattle.agg_request_tree.proofs.Metrics.{count-append, numbers-append, sum-append}
use Rattle.agg_request_tree.proofs.UncutLength.{length-each}
use Rattle.agg_request_tree.proofs.UncutLists.{uncut-append}
use Rattle.agg_results.specs.metric_results.MetricMerging.{MetricsPass}
use Rattle.agg_results.specs.declared.metric_results.metric.IntermediateMetricResult as metrics
use metrics.{IntermediateMetricResult}
use metrics.TheVariants as m
use Rattle.agg_results.specs.intermediate_results.Intermediate.{Held, Parts, TupleEntry}
use Rattle.agg_results.specs.intermediate_results.Intermediate.{below_entry, composite, entries_of}
use Rattle.agg_results.specs.intermediate_results.Intermediate.{metric}
use Rattle.agg_results.specs.intermediate_results.Intermediate as held
use Rattle.agg_results.specs.intermediate_results.Merging.{PartsPass}
use Rattle.agg_results.specs.declared.intermediate_results as declared
use declared.composite.IntermediateCompositeBucketResult.{IntermediateCompositeBucketResult}
use Rattle.agg_results.proofs.AddedNumbers.{own_added_field}
use Rattle.agg_results.specs.StandsFor.{CompositeStands, EntryStands, IsPart, MetricStands}
use Rattle.agg_results.specs.StandsFor.{PartsStand}
use Rattle.agg_results.proofs.FitDocuments.{IsFit, many-numbers}
use Rattle.agg_results.proofs.PartLists.{part-all, part-trans, with-part}
use Rattle.agg_results.proofs.Parts.{part-append, part-length}
use Rattle.agg_results.proofs.UncutParts.{length-numbers, uncut-part}

module _ {B : Type 0} (is_match : B → Fields → Bool) (In : List ℕ → Type 0)
    (ds es whole : List Fields) (part : IsPart (ds ++ es) whole) where
  -- what an aggregation lists of both, it lists of the whole
  listed-part : (agg : AggregationVariants B)
      → IsPart (uncut is_match agg ds ++ uncut is_match agg es) (uncut is_match agg whole)
  listed-part agg =
      subst (λ xs. IsPart xs (uncut is_match agg whole)) (uncut-append is_match agg ds es)
      (uncut-part is_match agg (ds ++ es) whole part)

  -- ---- metrics

  metrics-few : (agg : AggregationVariants B) (r o : IntermediateMetricResult)
      → AllByRecursion (IsFit In) whole → AllByRecursion In (own_added_field agg)
      → MetricStands agg ds r → MetricStands agg es o → MetricsPass r o
      → 2 ^ 62 ≤ length (uncut is_match agg whole)
  metrics-few (asks.Count a) (m.Count r) (m.Count o) fit adds s t many =
      let most = part-length _ _ (uncut-part is_match (asks.Count a) (ds ++ es) whole part) in
      let each = length-each (λ (d : Fields). d a.field) (ds ++ es) in
      let both = count-append a.field ds es in
      omega arith
  metrics-few (asks.Sum a) (m.Sum r) (m.Sum o) fit adds s t many =
      let sum : sum_of (numbers_of a.field (ds ++ es)) ≡ r.sum +ℤ o.sum =
      ap sum_of (numbers-append a.field ds es)
      ∙ sum-append (numbers_of a.field ds) (numbers_of a.field es)
      ∙ (λ i. sym s i +ℤ sym t i) in
      let enough = many-numbers In a.field adds.0 (ds ++ es)
      (part-all (IsFit In) (ds ++ es) whole part fit)
      (subst (λ z. ¬ (FitsSigned w128 z)) (sym sum) many) in
      let each = length-numbers a.field (ds ++ es) in
      let most = part-length _ _ (uncut-part is_match (asks.Sum a) (ds ++ es) whole part) in
      omega arith
  metrics-few (asks.Count a) (m.Count r) o fit adds s t many = absurd t
  metrics-few (asks.Sum a) (m.Sum r) o fit adds s t many = absurd t
  metrics-few (asks.Max a) (m.Max r) o fit adds s t many = absurd many
  metrics-few (asks.Min a) (m.Min r) o fit adds s t many = absurd many
  metrics-few agg r o fit adds s t many = absurd s

  module _ (Below : List Fields → Held → Type 0) (Pass : Held → Held → Type 0)
      (Many : List Fields → Type 0) where
    -- many are listed here, or below of what is listed here
    abbrev pub ManyHere : AggregationVariants B → Type 0
    ManyHere agg =
        (2 ^ 62 ≤ length (uncut is_match agg whole)) ⊎ Many (uncut is_match agg whole)

    -- what is below two results stands for such documents, where a sum passes many are listed
    abbrev pub FewBelow : List Fields → Type 0
    FewBelow listed =
        (xs ys : List Fields) (r o : Held) → IsPart (xs ++ ys) listed → Below xs r → Below ys o
        → Pass r o → Many listed

    -- ---- composites

    module _ (a : CompositeAggregation) (few : FewBelow (uncut is_match (asks.Composite a) whole))
      where
        entries-few : (e f : TupleEntry) → EntryStands Below a.sources ds e
            → EntryStands Below a.sources es f
            → (2 ^ 64 ≤ e.1.doc_count + f.1.doc_count) ⊎ Pass (below_entry e.1) (below_entry f.1)
            → ManyHere (asks.Composite a)
        entries-few e f p q told = by told
          where
            both : IsPart (p.0 ++ q.0) (uncut is_match (asks.Composite a) whole)
            both =
                part-trans (p.0 ++ q.0) (counted a ds ++ counted a es) _
                (part-append p.0 (counted a ds) q.0 (counted a es)
                (part-trans p.0 (documents_with a.sources ds e.0) (counted a ds) p.1
                (with-part a.sources ds e.0))
                (part-trans q.0 (documents_with a.sources es f.0) (counted a es) q.1
                (with-part a.sources es f.0)))
                (listed-part (asks.Composite a))

            by : (2 ^ 64 ≤ e.1.doc_count + f.1.doc_count) ⊎ Pass (below_entry e.1) (below_entry f.1)
                → ManyHere (asks.Composite a)
            by (inl many) =
                let most = part-length _ _ both in
                let length_both = length-append p.0 q.0 in
                let count = p.2 in
                let other_count = q.2 in
                inl (omega arith)
            by (inr pass) =
                inr (few p.0 q.0 (below_entry e.1) (below_entry f.1) both p.3 q.3 pass)

        composites-few : (c d : IntermediateCompositeBucketResult) → CompositeStands Below a ds c
            → CompositeStands Below a es d
            → (e f : TupleEntry) → Contains (entries_of c) e → Contains (entries_of d) f
            → (2 ^ 64 ≤ e.1.doc_count + f.1.doc_count) ⊎ Pass (below_entry e.1) (below_entry f.1)
            → ManyHere (asks.Composite a)
        composites-few c d s t e f in_c in_d told =
            entries-few e f
            (All-contains (EntryStands Below a.sources ds) (entries_of c) e s.subs in_c)
            (All-contains (EntryStands Below a.sources es) (entries_of d) f t.subs in_d) told

  -- ---- results of any kind

  module _ (Below : Request B → List Fields → Held → Type 0) (Pass : Held → Held → Type 0)
      (Many : List Fields → Type 0) (below : Request B) where
    pub parts-few : (agg : AggregationVariants B) (r o : Parts)
        → FewBelow (Below below) Pass Many (uncut is_match agg whole)
        → AllByRecursion (IsFit In) whole → AllByRecursion In (own_added_field agg)
        → PartsStand is_match Below agg below ds r → PartsStand is_match Below agg below es o
        → PartsPass Pass r o → ManyHere (Below below) Pass Many agg
    parts-few (asks.Filter a) (held.filter k r) (held.filter n o) few fit adds s t (inl many) =
        let most = part-length _ _ (listed-part (asks.Filter a)) in
        let both = length-append (matching is_match a.query ds) (matching is_match a.query es) in
        let count = s.0 in
        let other = t.0 in
        inl (omega arith)
    parts-few (asks.Filter a) (held.filter k r) (held.filter n o) few fit adds s t (inr pass) =
        inr (few (matching is_match a.query ds) (matching is_match a.query es) r o
        (listed-part (asks.Filter a)) s.1 t.1 pass)
    parts-few (asks.Filter a) (held.filter k r) o few fit adds s t pass = absurd t
    parts-few (asks.Filter a) r o few fit adds s t pass = absurd s
    parts-few (asks.Composite a) (composite c) (composite d) few fit adds s t
        (some, other, (e, f, in_c, in_d, tied, told)) =
        composites-few (Below below) Pass Many a few c d s t e f in_c in_d told
    parts-few (asks.Composite a) (composite c) o few fit adds s t pass = absurd t
    parts-few (asks.Composite a) r o few fit adds s t pass = absurd s
    parts-few agg (metric r) (metric o) few fit adds s t pass =
        inl (metrics-few agg r o fit adds s t pass)
    parts-few agg (metric r) o few fit adds s t pass = absurd t
    parts-few agg r o few fit adds s t pass = absurd s
