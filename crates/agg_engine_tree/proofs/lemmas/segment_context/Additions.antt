-- Data that is added to a context step by step.
use Rattle.std.proofs.Common.{◌≡◌, ◌≢◌, ◌<◌, ◌≤◌, ℕ, List, [], ◌∷◌, ◌++◌, ◌⊎◌, inl, inr, Some}
use Rattle.std.proofs.Common.{ap, arith, length, length-append, refl, sym, subst}
use Rattle.std.proofs.Common.{◌∙◌}
use Rattle.std.specs.List.{slice_get}
use Rattle.agg_values.specs.Names.{Named}
use Rattle.agg_values.specs.declared.after_key.AfterKey.{AfterKey}
use Rattle.agg_values.specs.declared.error.InvalidArgument.TheVariants as argument
use Rattle.agg_values.specs.declared.request_error.RequestError.TheVariants as refusal
use Rattle.agg_segment.specs.Marks.{AreMarks}
use Rattle.agg_segment.specs.Query.{matches}
use Rattle.agg_segment.specs.Segment.{Stored}
use Rattle.agg_segment.specs.declared.query.QueryTree.{QueryTree}
use Rattle.agg_request_tree.specs.Faults.{IsSound, max_sources}
use Rattle.agg_request_tree.specs.declared.aggregation.CompositeAggregation.{CompositeAggregation}
use Rattle.agg_composite.specs.accessor.Accessors.{Fits}
use Rattle.agg_composite.specs.declared.accessor.request_data.CompositeAggReqData.{
  CompositeAggReqData,
}
use Rattle.agg_filter.specs.declared.request_data.FilterAggReqData.{FilterAggReqData}
use Rattle.agg_metric.specs.declared.request_data.StatsType.{StatsType}
use Rattle.agg_engine_tree.specs.segment_context.Additions.{AddsData, AppendsComposite}
use Rattle.agg_engine_tree.specs.segment_context.Additions.{AppendsFilter, AppendsMetric, GivesFrom}
use Rattle.agg_engine_tree.specs.segment_context.Additions.{KeepsData, TreesFollow}
use Rattle.agg_engine_tree.specs.segment_context.Context.{HasFewSources, IsCompositeAt}
use Rattle.agg_engine_tree.specs.segment_context.Context.{IsCompositeMeant, IsFilterMeant, IsMeant}
use Rattle.agg_engine_tree.specs.segment_context.Context.{IsMetricAt, Meaning}
use Rattle.agg_engine_tree.specs.declared.segment_context.context.PerRequestAggSegCtx.{
  PerRequestAggSegCtx,
}
use Rattle.agg_engine_tree.specs.declared.segment_context.segment.origin.Origin.{Origin}
use Rattle.agg_engine_tree.proofs.lemmas.segment_context.Keeps.{keeps-same, keeps-then}
use Rattle.agg_engine_tree.proofs.lemmas.segment_context.Stays.{at-end, gives-parts, in-appended}
use Rattle.agg_engine_tree.proofs.lemmas.segment_context.Stays.{stays-append}

-- ---- steps

-- more that is so of a context with a meaning
abbrev pub So : Type 1
So = Meaning → PerRequestAggSegCtx → Type 0

module _ (segment : Stored) where
  -- nothing was added
  pub adds-none : (IsSo : So) (ctx : PerRequestAggSegCtx)
      → ((meaning : Meaning) → IsSo meaning ctx) → AddsData segment [] [] IsSo ctx ctx
  adds-none IsSo ctx so = record {
    kept = keeps-same ctx;
    filters = omega arith;
    composites = omega arith;
    told = λ meaning same queries afters meant. (meant, so meaning);
  }

  -- what was added, told by equal trees and after keys, and by what follows of the context
  pub adds-so : (trees others : List QueryTree) (afters keys : List (Named AfterKey))
      (IsSo IsToo : So) (old new : PerRequestAggSegCtx) → AddsData segment trees afters IsSo old new
      → trees ≡ others → afters ≡ keys
      → ((meaning : Meaning) → IsSo meaning new → IsToo meaning new)
      → AddsData segment others keys IsToo old new
  adds-so trees others afters keys IsSo IsToo old new adds same_trees same_keys so =
      subst (λ (ts : List QueryTree). AddsData segment ts keys IsToo old new) same_trees
      (subst (λ (ks : List (Named AfterKey)). AddsData segment trees ks IsToo old new) same_keys
      (record {
        kept = adds.kept;
        filters = adds.filters;
        composites = adds.composites;
        told = λ meaning same queries keys meant.
            let told = adds.told meaning same queries keys meant in
            (told.0, so meaning told.1);
      }))

  -- data was added, and then more
  pub adds-then : (trees others : List QueryTree) (afters keys : List (Named AfterKey))
      (IsSo IsToo : So) (old mid new : PerRequestAggSegCtx)
      → AddsData segment trees afters IsSo old mid → AddsData segment others keys IsToo mid new
      → ((meaning : Meaning) → KeepsData mid new → IsSo meaning mid → IsSo meaning new)
      → AddsData segment (trees ++ others) (afters ++ keys)
      (λ meaning ctx. IsSo meaning ctx × IsToo meaning ctx) old new
  adds-then trees others afters keys IsSo IsToo old mid new first then stays = record {
    kept = keeps-then old mid new first.kept then.kept;
    filters = omega (arith, first.filters, then.filters, length-append trees others);
    composites = omega (arith, first.composites, then.composites, length-append afters keys);
    told = λ meaning same queries given meant.
        let trees_given = gives-parts meaning.query_at (length old.filter_req_data) trees others
        queries in
        let keys_given = gives-parts meaning.after_at (length old.composite_req_data) afters keys
        given in
        let here = first.told meaning same trees_given.0 keys_given.0 meant in
        let later = then.told meaning same
        (subst (λ n. GivesFrom meaning.query_at n others) (sym first.filters) trees_given.1)
        (subst (λ n. GivesFrom meaning.after_at n keys) (sym first.composites) keys_given.1)
        here.0 in
        (later.0, (stays meaning then.kept here.1, later.1));
  }

-- ---- the data of one aggregation

module _ (from : Origin) (name : List ℕ) (old : PerRequestAggSegCtx) where
  -- the data of a filter was appended
  pub adds-filter : (tree : QueryTree) (index : ℕ) (new : PerRequestAggSegCtx)
      → AppendsFilter from name index old new → TreesFollow from old (tree ∷ [])
      → AddsData from.reader.now (tree ∷ []) []
      (λ meaning ctx. (req : FilterAggReqData)
      × (slice_get ctx.filter_req_data index ≡ Some req) × (req.name ≡ name)
      × (meaning.query_at index ≡ tree)) old new
  adds-filter tree index new (req, is, here, named, top, marks) follows =
      subst (λ (x : PerRequestAggSegCtx). AddsData from.reader.now (tree ∷ []) []
      (λ meaning ctx. (req : FilterAggReqData)
      × (slice_get ctx.filter_req_data index ≡ Some req) × (req.name ≡ name)
      × (meaning.query_at index ≡ tree)) old x) (sym is)
      (record {
        kept = record {
          filters = stays-append old.filter_req_data (req ∷ []);
          metrics = λ i x at. at;
          composites = λ i x at. at;
        };
        filters = length-append old.filter_req_data (req ∷ []);
        composites = omega arith;
        told = λ meaning same queries given meant. (
          record {
            composites = meant.composites;
            filters = λ i x at. of_filter meaning same queries.0 meant i x
                (in-appended old.filter_req_data req i x at);
          },
          (
            req,
            ap (λ n. slice_get (old.filter_req_data ++ req ∷ []) n) here
                ∙ at-end old.filter_req_data req,
            named,
            ap meaning.query_at here ∙ queries.0,
          ),
        );
      })
    where
      stands : slice_get from.trees.now index ≡ Some tree
      stands = ap (λ n. slice_get from.trees.now n) here ∙ follows.0

      of_filter : (meaning : Meaning) → meaning.segment ≡ from.reader.now
          → meaning.query_at (length old.filter_req_data) ≡ tree → IsMeant meaning old
          → (i : ℕ) (x : FilterAggReqData)
          → (slice_get old.filter_req_data i ≡ Some x)
          ⊎ ((i ≡ length old.filter_req_data) × (req ≡ x)) → IsFilterMeant meaning i x
      of_filter meaning same query meant i x (inl before) = meant.filters i x before
      of_filter meaning same query meant i x (inr (there, one)) =
          subst (λ (r : FilterAggReqData). IsFilterMeant meaning i r) one
          (subst (λ (s : Stored). AreMarks (matches (meaning.query_at i)) s req.evaluator)
          (sym same)
          (subst (λ (t : QueryTree). AreMarks (matches t) from.reader.now req.evaluator)
          (sym (ap meaning.query_at there ∙ query)) (marks tree stands)))

  -- the data of a metric was appended
  pub adds-metric : (field : List ℕ) (computed : StatsType) (index : ℕ)
      (new : PerRequestAggSegCtx) → AppendsMetric name field computed index old new
      → AddsData from.reader.now [] []
      (λ meaning ctx. IsMetricAt meaning ctx name computed field index) old new
  adds-metric field computed index new (req, is, here, named, reads, computes) =
      subst (λ (x : PerRequestAggSegCtx). AddsData from.reader.now [] []
      (λ meaning ctx. IsMetricAt meaning ctx name computed field index) old x) (sym is)
      (record {
        kept = record {
          filters = λ i x at. at;
          metrics = stays-append old.stats_metric_req_data (req ∷ []);
          composites = λ i x at. at;
        };
        filters = omega arith;
        composites = omega arith;
        told = λ meaning same queries given meant. (
          record { composites = meant.composites; filters = meant.filters },
          (
            req,
            ap (λ n. slice_get (old.stats_metric_req_data ++ req ∷ []) n) here
                ∙ at-end old.stats_metric_req_data req,
            named,
            reads,
            computes,
          ),
        );
      })

  -- the data of a composite was appended
  pub adds-composite : (composite : CompositeAggregation) (index : ℕ) (new : PerRequestAggSegCtx)
      → AppendsComposite from name composite index old new → IsSound composite
      → AddsData from.reader.now [] (composite.after ∷ [])
      (λ meaning ctx. IsCompositeAt meaning ctx name composite index) old new
  adds-composite composite index new (req, is, here, named, sources, size, fits) sound =
      subst (λ (x : PerRequestAggSegCtx). AddsData from.reader.now [] (composite.after ∷ [])
      (λ meaning ctx. IsCompositeAt meaning ctx name composite index) old x) (sym is)
      (record {
        kept = record {
          filters = λ i x at. at;
          metrics = λ i x at. at;
          composites = stays-append old.composite_req_data (req ∷ []);
        };
        filters = omega arith;
        composites = length-append old.composite_req_data (req ∷ []);
        told = λ meaning same queries given meant. (
          record {
            composites = λ i x at. of_composite meaning same given.0 meant i x
                (in-appended old.composite_req_data req i x at);
            filters = meant.filters;
          },
          (
            req,
            ap (λ n. slice_get (old.composite_req_data ++ req ∷ []) n) here
                ∙ at-end old.composite_req_data req,
            named,
            sources,
            size,
            ap meaning.after_at here ∙ given.0,
          ),
        );
      })
    where
      some : (n : ℕ) → n ≢ 0 → 1 ≤ n
      some n h = grind arith

      few : HasFewSources req.req.now.sources
      few = subst HasFewSources (sym sources) (
        not_empty composite.sources (λ none. sound (refusal.Invalid argument.NoSource) none),
        at_most (length composite.sources) max_sources
            (λ many. sound (refusal.Invalid argument.TooManySources) many),
      )
        where
          not_empty : {X : Type 0} (xs : List X) → ¬ (xs ≡ []) → 1 ≤ length xs
          not_empty [] h = absurd (h refl)
          not_empty (x ∷ xs) h = omega arith

          at_most : (n most : ℕ) → ¬ (most < n) → n ≤ most
          at_most n most h = grind arith

      of_composite : (meaning : Meaning) → meaning.segment ≡ from.reader.now
          → meaning.after_at (length old.composite_req_data) ≡ composite.after
          → IsMeant meaning old → (i : ℕ) (x : CompositeAggReqData)
          → (slice_get old.composite_req_data i ≡ Some x)
          ⊎ ((i ≡ length old.composite_req_data) × (req ≡ x)) → IsCompositeMeant meaning i x
      of_composite meaning same after meant i x (inl before) = meant.composites i x before
      of_composite meaning same after meant i x (inr (there, one)) =
          subst (λ (r : CompositeAggReqData). IsCompositeMeant meaning i r) one
          (record {
            fits = subst (λ (s : Stored). Fits s (meaning.after_at i) req) (sym same)
                (subst (λ (a : Named AfterKey). Fits from.reader.now a req)
                (sym (ap meaning.after_at there ∙ after)) fits);
            sources = few;
            room = λ none. sound (refusal.Invalid argument.ZeroSize) (sym size ∙ none);
          })
