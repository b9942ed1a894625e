-- What stands for documents holds no unknown name, and nothing of another shape.
use Rattle.std.proofs.Common.{◌≡◌, ◌≢◌, ℕ, zero, suc, inl, inr, List, [], ◌∷◌, Bool, Option, None}
use Rattle.std.proofs.Common.{Some, refl, subst}
use Rattle.std.specs.List.{All, Any, Contains}
use Rattle.std.specs.Map.{keys_of}
use Rattle.std.specs.Prelude.{IsSome}
use Rattle.std.proofs.lemmas.List.Elements.{All-contains, All-from_recursion, All-map, All-nil}
use Rattle.std.proofs.lemmas.List.Elements.{All-weaker}
use Rattle.agg_values.specs.Names.{value_of}
use Rattle.agg_segment.specs.storage.Document.{Fields}
use Rattle.agg_request_tree.specs.Request.{Request, agg_of, below_of}
use Rattle.agg_request_tree.specs.Source.{rules_of}
use Rattle.agg_request_tree.specs.declared.aggregation.Aggregation.{Aggregation}
use Rattle.agg_request_tree.specs.declared.aggregation.AggregationVariants.{AggregationVariants}
use Rattle.agg_request_tree.specs.declared.aggregation.AggregationVariants.TheVariants as asks
use Rattle.agg_request_tree.specs.declared.aggregation.CompositeAggregation.{CompositeAggregation}
use Rattle.agg_request_tree.proofs.Lists.{Contains-map, none_of_all}
use Rattle.agg_results.specs.declared.metric_results.metric.IntermediateMetricResult as metrics
use metrics.{IntermediateMetricResult}
use metrics.TheVariants as m
use Rattle.agg_results.specs.intermediate_results.Intermediate.{Held, Parts, below_entry, composite}
use Rattle.agg_results.specs.intermediate_results.Intermediate.{entries_of, filter, helds_below}
use Rattle.agg_results.specs.intermediate_results.Intermediate.{metric, orders_of, parts_of}
use Rattle.agg_results.specs.intermediate_results.Refusals.{HoldsOther, HoldsOtherWithin}
use Rattle.agg_results.specs.intermediate_results.Refusals.{HoldsUnknown, HoldsUnknownWithin}
use Rattle.agg_results.specs.intermediate_results.Refusals.{IsOther}
use Rattle.agg_results.specs.declared.intermediate_results as declared
use declared.composite.IntermediateCompositeBucketResult.{IntermediateCompositeBucketResult}
use declared.results.IntermediateAggregationResult.{IntermediateAggregationResult}
use Rattle.agg_results.specs.StandsFor.{EntryStands, HasShapeOf, MetricStands, NamesStand}
use Rattle.agg_results.specs.StandsFor.{PartsStand, StandsFor, StandsTo}
use Rattle.agg_results.proofs.NameLookups.{entry-found, found-name}
use Rattle.agg_results.proofs.StandingResults.{held-stands}

-- what is found isn't absent
some-absent : {X : Type 0} (o : Option X) → o ≡ None → IsSome o → ⊥
some-absent o none some = let is = subst IsSome none some in cc

-- ---- shapes

-- a composite that stands for documents is in the orders of the sources, or holds nothing
composite-alike : (a : CompositeAggregation) (c : IntermediateCompositeBucketResult)
    → HasShapeOf a c
    → ¬ ((entries_of c ≢ []) × (orders_of c ≢ rules_of a.sources))
composite-alike a c (inl is) other = other.1 is.1
composite-alike a c (inr none) other = other.0 none.1

metric-alike : {B : Type 0} (a : AggregationVariants B) (documents : List Fields)
    (r : IntermediateMetricResult) → MetricStands a documents r → ¬ (IsOther a (metric r))
metric-alike (asks.Count a) documents (m.Count r) stand other = other
metric-alike (asks.Max a) documents (m.Max r) stand other = other
metric-alike (asks.Min a) documents (m.Min r) stand other = other
metric-alike (asks.Sum a) documents (m.Sum r) stand other = other
metric-alike (asks.Count a) documents r stand other = absurd stand
metric-alike (asks.Max a) documents r stand other = absurd stand
metric-alike (asks.Min a) documents r stand other = absurd stand
metric-alike (asks.Sum a) documents r stand other = absurd stand
metric-alike (asks.Filter a) documents r stand other = absurd stand
metric-alike (asks.Composite a) documents r stand other = absurd stand

module _ {B : Type 0} (is_match : B → Fields → Bool) where
  -- ---- one layer

  module _ (Below : Request B → List Fields → Held → Type 0) (below : Request B)
      (documents : List Fields) where
    parts-alike : (a : AggregationVariants B) (r : Parts)
        → PartsStand is_match Below a below documents r → ¬ (IsOther a r)
    parts-alike (asks.Filter a) (filter n whole) stand other = other
    parts-alike (asks.Filter a) r stand other = absurd stand
    parts-alike (asks.Composite a) (composite c) stand other =
        composite-alike a c stand.shape other
    parts-alike (asks.Composite a) r stand other = absurd stand
    parts-alike a (metric r) stand other = metric-alike a documents r stand other
    parts-alike a r stand other = absurd stand

    -- what is told of nothing below that stands for documents is told of none below a result
    below-none : (Told : Held → Type 0)
        → ((ds : List Fields) (whole : Held) → Below below ds whole → ¬ (Told whole))
        → (a : AggregationVariants B) (r : Parts)
        → PartsStand is_match Below a below documents r
        → All (λ whole. ¬ (Told whole)) (helds_below r)
    below-none Told none a (metric r) stand = All-nil (λ whole. ¬ (Told whole))
    below-none Told none (asks.Filter a) (filter n whole) stand =
        All-from_recursion (λ held. ¬ (Told held)) (whole ∷ []) (none _ whole stand.1, tt)
    below-none Told none (asks.Composite a) (composite c) stand =
        All-map (λ held. ¬ (Told held)) (λ e. below_entry e.1) (entries_of c)
        (All-weaker (EntryStands (Below below) a.sources documents)
        (λ e. ¬ (Told (below_entry e.1))) (λ e s. none s.0 (below_entry e.1) s.3) (entries_of c)
        stand.subs)
    below-none Told none a r stand = absurd stand

  -- ---- names

  module _ (Stands : Aggregation B → List Fields → Option IntermediateAggregationResult → Type 0)
      (request : Request B) (documents : List Fields) (held : Held)
      (stand : NamesStand is_match Stands request documents held) where
    -- each name that is held is asked for
    names-asked : ¬ (Any (λ r. value_of r.0 request ≡ None) held)
    names-asked (k, r, within, at, none) =
        some-absent (value_of r.0 request) none (found-name request r.0
        (All-contains (Contains (keys_of request)) (keys_of held) r.0 stand.known
        (Contains-map (λ e. e.0) held r (k, within, at))))

  -- ---- every depth

  names-known : (depth : ℕ) (request : Request B) (documents : List Fields) (held : Held)
      → NamesStand is_match (StandsTo is_match depth) request documents held
      → ¬ (HoldsUnknownWithin depth request held)
  names-known zero request documents held stand unknown = unknown
  names-known (suc depth) request documents held stand (inl unknown) =
      names-asked (StandsTo is_match (suc depth)) request documents held stand unknown
  names-known (suc depth) request documents held stand (inr (name, a, r, asked, found, unknown)) =
      none_of_all (HoldsUnknownWithin depth (below_of a)) (helds_below (parts_of r))
      (below-none (NamesStand is_match (StandsTo is_match depth)) (below_of a) documents
      (HoldsUnknownWithin depth (below_of a)) (names-known depth (below_of a)) (agg_of a)
      (parts_of r)
      (held-stands is_match (StandsTo is_match (suc depth)) request documents held stand (name, a)
      name r (entry-found request name a asked) refl found))
      unknown

  names-alike : (depth : ℕ) (request : Request B) (documents : List Fields) (held : Held)
      → NamesStand is_match (StandsTo is_match depth) request documents held
      → ¬ (HoldsOtherWithin depth request held)
  names-alike zero request documents held stand other = other
  names-alike (suc depth) request documents held stand (name, a, r, asked, found, other) =
      elim other [
        | inl own ↦ parts-alike Below (below_of a) documents (agg_of a) (parts_of r) stands own
        | inr below ↦
            none_of_all (HoldsOtherWithin depth (below_of a)) (helds_below (parts_of r))
            (below-none Below (below_of a) documents (HoldsOtherWithin depth (below_of a))
            (names-alike depth (below_of a)) (agg_of a) (parts_of r) stands) below
      ]
    where
      Below : Request B → List Fields → Held → Type 0
      Below = NamesStand is_match (StandsTo is_match depth)

      stands : StandsTo is_match (suc depth) a documents (Some r)
      stands =
          held-stands is_match (StandsTo is_match (suc depth)) request documents held stand
          (name, a) name r (entry-found request name a asked) refl found

  module _ (request : Request B) (documents : List Fields) (held : Held)
      (stand : StandsFor is_match request documents held) where
    -- no name is unknown
    pub StandsFor-known : ¬ (HoldsUnknown request held)
    StandsFor-known (depth, unknown) =
        names-known depth request documents held (stand depth) unknown

    -- no result has another shape
    pub StandsFor-shapes : ¬ (HoldsOther request held)
    StandsFor-shapes (depth, other) =
        names-alike depth request documents held (stand depth) other
