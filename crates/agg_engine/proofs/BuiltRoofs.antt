-- What a request is charged with the trees that its builders made in their place.
use Rattle.std.proofs.Common.{◌≡◌, ◌+◌, ℕ, List, [], ◌∷◌, Bool, refl, sym, ap, ◌∙◌}
use Rattle.std.proofs.Common.{filter, length, map}
use Rattle.agg_segment.specs.storage.Document.{Fields}
use Rattle.agg_segment.specs.Query.{matches}
use Rattle.agg_segment.specs.declared.query.QueryTree.{QueryTree}
use Rattle.agg_request_tree.specs.Request.{Request, agg_of, below_of, with_builders}
use Rattle.agg_request_tree.specs.Request.{with_builders_in, with_own_builder}
use Rattle.agg_request_tree.specs.declared.aggregation.Aggregation.{Aggregation}
use Rattle.agg_request_tree.specs.declared.aggregation.AggregationVariants as variants
use variants.{AggregationVariants}
use variants.TheVariants.{Filter, Composite, Count, Max, Min, Sum}
use Rattle.agg_request_tree.proofs.Lists.{AllByRecursion-always}
use Rattle.agg_request_tree.specs.charges.Roof.{Counts, counts, counts_by, counts_of, together}
use Rattle.agg_request_tree.specs.charges.Roof.Height.{High, Low}
use Rattle.agg_request_tree.proofs.lemmas.charges.CountsOut.{counts-out}
use Rattle.agg_engine_tree.proofs.lemmas.segment_context.Built.{agg-built, below-built}
use Rattle.agg_engine_tree.proofs.lemmas.segment_context.Levels.{OfEach, by_levels}
use Rattle.agg_engine.specs.snapshot_results.MemoryLimits.{low_roof_in, roof_in}
use Rattle.agg_engine.proofs.lemmas.collectors.BuiltRequests.{same-matching}
use Rattle.agg_engine.proofs.lemmas.collectors.FixedCharges.{fixed-built}

-- ---- what is counted

module _ {B : Type 0} (is_match : B → Fields → Bool) (of : B → QueryTree)
    (built : (b : B) (d : Fields) → is_match b d ≡ matches (of b) d) where
  counts_by-built : (agg : AggregationVariants B) (below : Counts)
      → counts_by matches (with_own_builder of agg) below ≡ counts_by is_match agg below
  counts_by-built (Filter a) below = λ i height ds.
      below height (same-matching is_match of built a.query ds i)
  counts_by-built (Composite c) below = refl
  counts_by-built (Count a) below = refl
  counts_by-built (Max a) below = refl
  counts_by-built (Min a) below = refl
  counts_by-built (Sum a) below = refl

  -- an aggregation counts the same
  abbrev CountsSame : Aggregation B → Type 0
  CountsSame a = counts matches (with_builders_in of a) ≡ counts is_match a

  named_counts : (request : Request B) → OfEach CountsSame request
      → map {B = List ℕ × Counts} (λ a. (a.0, counts matches a.1)) (with_builders of request)
      ≡ map {B = List ℕ × Counts} (λ a. (a.0, counts is_match a.1)) request
  named_counts [] same = refl
  named_counts (e ∷ request) same = λ i. (e.0, same.0 i) ∷ named_counts request same.1 i

  each_counts : (request : Request B) → OfEach CountsSame request
      → counts_of matches (with_builders of request) ≡ counts_of is_match request
  each_counts request same = ap together (named_counts request same)

  counts-same : (a : Aggregation B) → CountsSame a
  counts-same = by_levels CountsSame (λ a below.
      counts-out matches (with_builders_in of a)
      ∙ (λ i. counts_by matches (agg-built of a i) (counts_of matches (below-built of a i)))
      ∙ counts_by-built (agg_of a) (counts_of matches (with_builders of (below_of a)))
      ∙ ap (counts_by is_match (agg_of a)) (each_counts (below_of a) below)
      ∙ sym (counts-out is_match a))

  module _ (request : Request B) where
    -- a request counts the same with its builders' trees
    pub counts-built : counts_of matches (with_builders of request) ≡ counts_of is_match request
    counts-built =
        each_counts request
        (AllByRecursion-always (λ e. CountsSame e.1) (λ e. counts-same e.1) request)

    -- ---- roofs

    -- its roof in a segment is the same
    pub roof-built : (query : QueryTree)
        → roof_in matches query (with_builders of request) ≡ roof_in is_match query request
    roof-built query = λ i documents.
        fixed-built of (length documents) request i
        + counts-built i High (filter (matches query) documents)

    -- its low roof in a segment is the same
    pub low_roof-built : (query : QueryTree)
        → low_roof_in matches query (with_builders of request)
        ≡ low_roof_in is_match query request
    low_roof-built query = λ i documents.
        fixed-built of (length documents) request i
        + counts-built i Low (filter (matches query) documents)
