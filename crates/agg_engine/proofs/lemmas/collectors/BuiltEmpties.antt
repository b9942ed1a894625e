-- The empty results of a request stand for no documents under the built request, with its page.
use Rattle.std.proofs.Common.{◌≡◌, ℕ, zero, suc, List, [], ◌∷◌, Bool, true, false, cond, Option}
use Rattle.std.proofs.Common.{None, Some, refl, sym, ap, ◌∙◌, subst}
use Rattle.std.specs.BTreeMap.{is_at}
use Rattle.std.specs.List.Sorted.{IsStrictlySortedBy}
use Rattle.std.specs.Map.{keys_of}
use Rattle.std.proofs.lemmas.List.Elements.{All-map, All-weaker}
use Rattle.std.proofs.lemmas.Map.Made.{keys_of-map_values}
use Rattle.agg_values.specs.Names.{name_cmp}
use Rattle.agg_segment.specs.storage.Document.{Fields}
use Rattle.agg_segment.specs.Query.{matches}
use Rattle.agg_segment.specs.declared.query.QueryTree.{QueryTree}
use Rattle.agg_request_tree.specs.Names.{NamesAscend, NamesAscendTo}
use Rattle.agg_request_tree.specs.Request.{Request, agg_of, below_of, with_builders}
use Rattle.agg_request_tree.specs.Request.{with_builders_in, with_own_builder}
use Rattle.agg_request_tree.specs.declared.aggregation.Aggregation.{Aggregation}
use Rattle.agg_request_tree.specs.declared.aggregation.AggregationVariants as variants
use variants.{AggregationVariants}
use variants.TheVariants.{Filter, Composite, Count, Max, Min, Sum}
use Rattle.agg_request_tree.proofs.RequestTrees.{below-made}
use Rattle.agg_results.specs.intermediate_results.Empty.{empty_by, empty_result, empty_results}
use Rattle.agg_results.specs.intermediate_results.Intermediate.{Held}
use Rattle.agg_results.specs.declared.intermediate_results.results.IntermediateAggregationResults
    as held
use held.{IntermediateAggregationResults}
use Rattle.agg_results.specs.StandsFor.{StandsFor}
use Rattle.agg_results.proofs.Empties.{StandsFor-empty, empty-out}
use Rattle.agg_engine_tree.specs.segment_context.Pages.{paged}
use Rattle.agg_request_tree.specs.ChangedRequest.{changed, request_after, request_changed_at}
use Rattle.agg_request_tree.specs.ChangedRequest.{with_after, with_size}
use Rattle.agg_engine_tree.specs.declared.segment_context.params.Page.{Page}
use Rattle.agg_engine_tree.proofs.lemmas.segment_context.Built.{agg-built, below-built}
use Rattle.agg_engine_tree.proofs.lemmas.segment_context.Levels.{OfEach, by_levels}
use Rattle.agg_engine.specs.collectors.Fruits.{StandForEach, joined}
use Rattle.agg_engine.proofs.lemmas.collectors.BuiltPages.{built-paged}

-- ---- empty results

module _ {B C : Type 0} (made : B → C) where
  own-empty : (agg : AggregationVariants B) (below : Held)
      → empty_by (with_own_builder made agg) below ≡ empty_by agg below
  own-empty (Filter a) below = refl
  own-empty (Composite a) below = refl
  own-empty (Count a) below = refl
  own-empty (Max a) below = refl
  own-empty (Min a) below = refl
  own-empty (Sum a) below = refl

  -- an aggregation's empty result is that of the built one
  abbrev IsEmptyBuilt : Aggregation B → Type 0
  IsEmptyBuilt a = empty_result (with_builders_in made a) ≡ empty_result a

  each-empty : (request : Request B) → OfEach IsEmptyBuilt request
      → empty_results (with_builders made request) ≡ empty_results request
  each-empty [] all = refl
  each-empty (e ∷ request) all =
      λ i. (e.0, all.0 i) ∷ each-empty request all.1 i

  one-empty : (a : Aggregation B) → IsEmptyBuilt a
  one-empty = by_levels IsEmptyBuilt (λ a below.
      empty-out (with_builders_in made a)
      ∙ (λ i. empty_by (agg-built made a i) (empty_results (below-built made a i)))
      ∙ own-empty (agg_of a) (empty_results (with_builders made (below_of a)))
      ∙ ap (empty_by (agg_of a)) (each-empty (below_of a) below)
      ∙ sym (empty-out a))

  empties-built : (request : Request B)
      → empty_results (with_builders made request) ≡ empty_results request
  empties-built [] = refl
  empties-built (e ∷ request) = λ i. (e.0, one-empty e.1 i) ∷ empties-built request i

  -- ---- names

  -- those of the built request ascend
  ascend-built : (depth : ℕ) (request : Request B) → NamesAscendTo depth request
      → NamesAscendTo depth (with_builders made request)
  ascend-built zero request up = tt
  ascend-built (suc depth) request up = (
    subst (IsStrictlySortedBy name_cmp)
        (sym (keys_of-map_values (λ (a : Aggregation B). with_builders_in made a) request)) up.0,
    All-map (λ (e : List ℕ × Aggregation C). NamesAscendTo depth (below_of e.1))
        (λ (e : List ℕ × Aggregation B). (e.0, with_builders_in made e.1)) request
        (All-weaker (λ (e : List ℕ × Aggregation B). NamesAscendTo depth (below_of e.1))
        (λ (e : List ℕ × Aggregation B).
        NamesAscendTo depth (below_of (with_builders_in made e.1)))
        (λ (e : List ℕ × Aggregation B) below.
        subst (NamesAscendTo depth) (sym (below-built made e.1))
        (ascend-built depth (below_of e.1) below)) request up.1),
  )

module _ {B : Type 0} (change : AggregationVariants B → AggregationVariants B) (name : List ℕ) where
  -- an entry as the change leaves it
  abbrev entry_changed : List ℕ × Aggregation B → List ℕ × Aggregation B
  entry_changed e = cond (is_at (name_cmp name) e.0) (e.0, changed change e.1) e

  entry-name : (e : List ℕ × Aggregation B) → (entry_changed e).0 ≡ e.0
  entry-name e = by (is_at (name_cmp name) e.0)
    where
      by : (b : Bool) → let x : List ℕ × Aggregation B = cond b (e.0, changed change e.1) e in
          x.0 ≡ e.0
      by true = refl
      by false = refl

  entry-below : (e : List ℕ × Aggregation B) → below_of (entry_changed e).1 ≡ below_of e.1
  entry-below e = by (is_at (name_cmp name) e.0)
    where
      by : (b : Bool) → let x : List ℕ × Aggregation B = cond b (e.0, changed change e.1) e in
          below_of x.1 ≡ below_of e.1
      by true = below-made (change (agg_of e.1)) (below_of e.1)
      by false = refl

  names-changed : (request : Request B)
      → keys_of (request_changed_at change name request) ≡ keys_of request
  names-changed [] = refl
  names-changed (e ∷ request) = λ i. entry-name e i ∷ names-changed request i

  -- those of a request in which an aggregation is changed ascend
  ascend-changed : (request : Request B) → NamesAscend request
      → NamesAscend (request_changed_at change name request)
  ascend-changed request up zero = tt
  ascend-changed request up (suc depth) = (
    subst (IsStrictlySortedBy name_cmp) (sym (names-changed request)) (up (suc depth)).0,
    All-map (λ (e : List ℕ × Aggregation B). NamesAscendTo depth (below_of e.1)) entry_changed
        request
        (All-weaker (λ (e : List ℕ × Aggregation B). NamesAscendTo depth (below_of e.1))
        (λ (e : List ℕ × Aggregation B). NamesAscendTo depth (below_of (entry_changed e).1))
        (λ (e : List ℕ × Aggregation B) below.
        subst (NamesAscendTo depth) (sym (entry-below e)) below) request (up (suc depth)).1),
  )

ascend-paged : {B : Type 0} (page : Option Page) (request : Request B) → NamesAscend request
    → NamesAscend (paged page request)
ascend-paged None request up = up
ascend-paged (Some page) request up =
    ascend-changed (with_size page.size) page.name (request_after page.name page.after request)
    (ascend-changed (with_after page.after) page.name request up)

-- ---- no fruits

module _ {B : Type 0} (made : B → QueryTree) (page : Option Page) (request : Request B)
    (up : NamesAscend request) where
  empties-stand : StandsFor matches (paged page (with_builders made request)) []
      (empty_results (paged page request))
  empties-stand =
      subst (StandsFor matches (paged page (with_builders made request)) [])
      (ap empty_results (sym (built-paged made page request))
      ∙ empties-built made (paged page request))
      (StandsFor-empty matches (paged page (with_builders made request))
      (ascend-paged page (with_builders made request)
      (λ depth. ascend-built made depth request (up depth))))

  -- of no segments, the empty results stand for the documents
  pub nothing-stands : (fruits : List IntermediateAggregationResults)
      (lists : List (List Fields)) (whole : IntermediateAggregationResults) → fruits ≡ []
      → whole.results ≡ empty_results (paged page request)
      → StandForEach (paged page (with_builders made request)) lists fruits
      → StandsFor matches (paged page (with_builders made request)) (joined lists) whole.results
  nothing-stands fruits lists whole none is all =
      by lists (subst (StandForEach (paged page (with_builders made request)) lists) none all)
    where
      by : (lists : List (List Fields))
          → StandForEach (paged page (with_builders made request)) lists []
          → StandsFor matches (paged page (with_builders made request)) (joined lists)
          whole.results
      by [] all =
          subst (StandsFor matches (paged page (with_builders made request)) []) (sym is)
          empties-stand
      by (documents ∷ lists) all = absurd all
