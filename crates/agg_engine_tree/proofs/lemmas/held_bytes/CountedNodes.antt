-- What the nodes of a request count, one level open.
use Rattle.std.proofs.Common.{◌≡◌, ◌+◌, ℕ, List, [], ◌∷◌, map, refl, sym, ap, ◌∙◌, subst}
use Rattle.std.specs.List.{sum_by}
use Rattle.std.proofs.lemmas.List.Sums.{sum_by-cons}
use Rattle.agg_segment.specs.storage.Document.{Fields}
use Rattle.agg_segment.specs.Query.{matches}
use Rattle.agg_segment.specs.Segment.{Stored}
use Rattle.agg_segment.specs.declared.query.QueryTree.{QueryTree}
use Rattle.agg_request_tree.specs.Request.{Request, agg_of, below_of}
use Rattle.agg_request_tree.specs.declared.aggregation.Aggregation.{Aggregation}
use Rattle.agg_request_tree.specs.declared.aggregation.AggregationVariants.{AggregationVariants}
use Rattle.agg_request_tree.specs.declared.aggregation.AggregationVariants.TheVariants as asks
use Rattle.agg_request_tree.specs.charges.Roof.{Counts, composite_counts, counts, counts_by}
use Rattle.agg_request_tree.specs.charges.Roof.{counts_of, nothing as nothing_counted}
use Rattle.agg_request_tree.proofs.lemmas.charges.CountsOut.{counts-out}
use Rattle.agg_request_tree.proofs.lemmas.charges.Sums.{sum_by-both, sum_by-none, sum_by-same}
use Rattle.agg_metric.specs.declared.request_data.StatsType.{StatsType}
use Rattle.agg_engine_tree.specs.segment_context.Context.{ArePlansOf, IsAskedAt, Meaning}
use Rattle.agg_engine_tree.specs.segment_context.Plan.{Plans}
use Rattle.agg_engine_tree.specs.declared.segment_context.context.PerRequestAggSegCtx.{
  PerRequestAggSegCtx,
}
use Rattle.agg_engine_tree.specs.declared.segment_context.node.AggKind.TheVariants as kind
use Rattle.agg_engine_tree.specs.collector_tree.Tree.{Held, IsGroupOf, nothing}
use Rattle.agg_engine_tree.proofs.lemmas.tree_results.NamedNodes.{IsCompositeOf}
use Rattle.agg_engine_tree.specs.held_bytes.Trees.{over_parents, taken_under}
use Rattle.agg_engine_tree.proofs.lemmas.held_bytes.NumberSums.{up_to}

-- an aggregation that asks this counts by it, from what those below count together
pub counts-asked : (a : Aggregation QueryTree) (asked : AggregationVariants QueryTree)
    → agg_of a ≡ asked → counts matches a ≡ counts_by matches asked (counts_of matches (below_of a))
counts-asked a asked is =
    counts-out matches a ∙ ap (λ q. counts_by matches q (counts_of matches (below_of a))) is

-- where the data of a composite stands at an index, its aggregation counts by the composite of it
pub asked-composite : (meaning : Meaning) (ctx : PerRequestAggSegCtx) (name : List ℕ)
    (a : Aggregation QueryTree) (index : ℕ) (h : Held)
    (node : IsCompositeOf meaning ctx name a index h)
    → counts matches a
    ≡ composite_counts
    (record {
      sources = node.at.0.req.now.sources;
      size = node.at.0.size;
      after = meaning.after_at index;
    })
    (counts_of matches (below_of a))
asked-composite meaning ctx name a index h node =
    counts-asked a (asks.Composite node.asked) node.agg_is
    ∙ sym (λ i. composite_counts
    (record { sources = node.at.3 i; size = node.at.4 i; after = node.at.5 i })
    (counts_of matches (below_of a)))

-- a metric counts nothing
pub asked-metric : (meaning : Meaning) (ctx : PerRequestAggSegCtx) (name : List ℕ)
    (a : Aggregation QueryTree) (computed : StatsType) (index : ℕ)
    → IsAskedAt meaning ctx name (agg_of a) (kind.StatsKind computed) index
    → counts matches a ≡ nothing_counted
asked-metric meaning ctx name a computed index at = by_kind (agg_of a) refl at
  where
    by_kind : (asked : AggregationVariants QueryTree) → agg_of a ≡ asked
        → IsAskedAt meaning ctx name asked (kind.StatsKind computed) index
        → counts matches a ≡ nothing_counted
    by_kind (asks.Composite c) is at = absurd at
    by_kind (asks.Filter f) is at = absurd at
    by_kind (asks.Count m) is at = counts-asked a (asks.Count m) is
    by_kind (asks.Max m) is at = counts-asked a (asks.Max m) is
    by_kind (asks.Min m) is at = counts-asked a (asks.Min m) is
    by_kind (asks.Sum m) is at = counts-asked a (asks.Sum m) is

module _ (segment : Stored) (taken : List (ℕ × ℕ)) (n : ℕ) where
  -- aggregations count what the first does, and what the others do
  pub counts-more : (bytes : Counts → List Fields → ℕ)
      → ((request : Request QueryTree) (documents : List Fields)
      → bytes (counts_of matches request) documents
      ≡ sum_by (λ (c : List ℕ × Counts). bytes c.1 documents)
      (map (λ (a : List ℕ × Aggregation QueryTree). (a.0, counts matches a.1)) request))
      → (a : List ℕ × Aggregation QueryTree) (request : Request QueryTree)
      → over_parents (bytes (counts_of matches (a ∷ request))) segment taken n
      ≡ over_parents (bytes (counts matches a.1)) segment taken n
      + over_parents (bytes (counts_of matches request)) segment taken n
  counts-more bytes sums a request =
      sum_by-same (λ p. bytes (counts_of matches (a ∷ request)) (taken_under segment taken p))
      (λ p. bytes (counts matches a.1) (taken_under segment taken p)
      + bytes (counts_of matches request) (taken_under segment taken p)) (up_to n)
      (λ p. each (taken_under segment taken p))
      ∙ sum_by-both (λ p. bytes (counts matches a.1) (taken_under segment taken p))
      (λ p. bytes (counts_of matches request) (taken_under segment taken p)) (up_to n)
    where
      each : (documents : List Fields)
          → bytes (counts_of matches (a ∷ request)) documents
          ≡ bytes (counts matches a.1) documents + bytes (counts_of matches request) documents
      each documents =
          sums (a ∷ request) documents
          ∙ sum_by-cons (λ (c : List ℕ × Counts). bytes c.1 documents) (a.0, counts matches a.1)
          (map (λ (b : List ℕ × Aggregation QueryTree). (b.0, counts matches b.1)) request)
          ∙ ap (λ m. bytes (counts matches a.1) documents + m) (sym (sums request documents))

  pub no-counts : (bytes : List Fields → ℕ) → ((documents : List Fields) → bytes documents ≡ 0)
      → over_parents bytes segment taken n ≡ 0
  no-counts bytes none =
      sum_by-same (λ p. bytes (taken_under segment taken p)) (λ p. 0) (up_to n)
      (λ p. none (taken_under segment taken p))
      ∙ sum_by-none (up_to n)

-- a request whose tree is nothing asks nothing
pub nothing-asked : (meaning : Meaning) (ctx : PerRequestAggSegCtx) (plans : Plans)
    (request : Request QueryTree) → ArePlansOf meaning ctx request plans → (h : Held)
    → h ≡ nothing → IsGroupOf plans h → request ≡ []
nothing-asked meaning ctx plans request of h none is =
    by_plans plans request of (subst (IsGroupOf plans) none is)
  where
    by_plans : (plans : Plans) (request : Request QueryTree)
        → ArePlansOf meaning ctx request plans → IsGroupOf plans nothing → request ≡ []
    by_plans Plans.none [] of is = refl
    by_plans Plans.none (a ∷ request) of is = absurd of
    by_plans (Plans.more plan plans) request of is = absurd is
