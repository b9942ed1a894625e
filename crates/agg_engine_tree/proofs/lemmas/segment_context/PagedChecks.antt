-- Faults of requests with the page that is set: what is found so far, aggregation by aggregation.
use Rattle.std.proofs.Common.{◌≡◌, ℕ, List, [], ◌∷◌, ap, arith, refl, subst, sym}
use Rattle.std.specs.Prelude.{Option}
use Rattle.std.specs.List.{All, AllByRecursion, Any}
use Rattle.std.specs.List.Sorted.{IsStrictlySortedBy}
use Rattle.std.specs.Map.{keys_of}
use Rattle.std.proofs.lemmas.List.Elements.{All-append, All-from_recursion, All-nil}
use Rattle.std.proofs.lemmas.List.Elements.{recursion_from_All}
use Rattle.agg_values.specs.Names.{Named, name_cmp}
use Rattle.agg_values.specs.declared.after_key.AfterKey.{AfterKey}
use Rattle.agg_values.specs.declared.request_error.RequestError.{RequestError}
use Rattle.agg_request_tree.specs.Faults.{CompositeHasCause, HasCause, IsSound, IsSoundRequest}
use Rattle.agg_request_tree.specs.Names.{NamesAscend}
use Rattle.agg_request_tree.specs.Request.{Request, agg_of, below_of, composites_in, composites_of}
use Rattle.agg_request_tree.specs.Request.{own_composite}
use Rattle.agg_request_tree.specs.declared.aggregation.Aggregation.{Aggregation}
use Rattle.agg_request_tree.specs.declared.aggregation.AggregationVariants as variants
use variants.{AggregationVariants}
use variants.TheVariants.{Composite}
use Rattle.agg_request_tree.specs.declared.aggregation.CompositeAggregation.{CompositeAggregation}
use Rattle.agg_request_tree.proofs.CheckedRequests as checked
use checked.{Any-back, EachAscends, NamesAscend-whole}
use Rattle.agg_engine_tree.specs.segment_context.Additions.{paged_agg, paged_composite, paged_each}
use Rattle.agg_engine_tree.specs.segment_context.Additions.{paged_in}
use Rattle.agg_engine_tree.specs.segment_context.Pages.{paged}
use Rattle.agg_engine_tree.specs.declared.segment_context.params.Page.{Page}
use Rattle.agg_engine_tree.proofs.lemmas.segment_context.Pages.{below-paged, composites-paged}
use Rattle.agg_engine_tree.proofs.lemmas.segment_context.Pages.{paged-each, with-parts}

module _ {B : Type 0} (page : Option Page) where
  -- ---- one by one

  -- no fault is found before the aggregations that are left
  abbrev pub IsCheckedUpTo : Request B → Request B → Type 0
  IsCheckedUpTo all left = checked.IsCheckedUpTo (paged_each page all) (paged_each page left)

  module _ (all left later : Request B) (name : List ℕ) (a : Aggregation B)
      (h : IsCheckedUpTo all left) (next : left ≡ (name, a) ∷ later) where
    -- one more has no fault
    pub checked-more : All IsSound (composites_in (paged_in page name a))
        → NamesAscend (below_of a) → IsCheckedUpTo all later
    checked-more sound up =
        checked.IsCheckedUpTo-more (paged_each page all) (paged_each page left) name
        (paged_in page name a) (paged_each page later) h (ap (paged_each page) next) sound
        (subst (λ (r : Request B). NamesAscend r) (sym (below-paged page name a)) up)

    -- the refusal of one refuses the request
    pub checked-refused : (refusal : RequestError)
        → Any (λ c. CompositeHasCause c refusal) (composites_in (paged_in page name a))
        → HasCause (paged page all) refusal
    checked-refused refusal has =
        subst (λ (r : Request B). HasCause r refusal) (sym (paged-each page all))
        (checked.IsCheckedUpTo-refused (paged_each page all) (paged_each page left) name
        (paged_in page name a) (paged_each page later) refusal h (ap (paged_each page) next) has)

  -- the names below each aggregation ascend, whatever page is set
  ascend-unpaged : (request : Request B)
      → AllByRecursion (λ e. NamesAscend (below_of e.1)) (paged_each page request)
      → AllByRecursion (λ e. NamesAscend (below_of e.1)) request
  ascend-unpaged [] each = tt
  ascend-unpaged (e ∷ request) each = (
    subst (λ (r : Request B). NamesAscend r) (below-paged page e.0 e.1) each.0,
    ascend-unpaged request each.1,
  )

  module _ (all left : Request B) (h : IsCheckedUpTo all left) (none : left ≡ []) where
    -- all are checked
    pub checked-all : IsSoundRequest (paged page all)
    checked-all =
        subst (λ (r : Request B). IsSoundRequest r) (sym (paged-each page all))
        (checked.IsCheckedUpTo-all (paged_each page all) (paged_each page left) h
        (ap (paged_each page) none))

    pub ascend-all : IsStrictlySortedBy name_cmp (keys_of all) → NamesAscend all
    ascend-all up =
        NamesAscend-whole all up
        (All-from_recursion (λ e. NamesAscend (below_of e.1)) all
        (ascend-unpaged all
        (recursion_from_All (λ e. NamesAscend (below_of e.1)) (paged_each page all)
        (h.names (subst (λ (r : Request B). EachAscends (paged_each page r)) (sym none)
        (All-nil (λ (e : List ℕ × Aggregation B). NamesAscend (below_of e.1))))))))

  -- ---- one aggregation

  module _ (name : List ℕ) (a : Aggregation B) where
    -- an aggregation without a fault of its own, over sound ones
    pub sound-paged : All IsSound (own_composite (paged_agg page name (agg_of a)))
        → IsSoundRequest (below_of a) → All IsSound (composites_in (paged_in page name a))
    sound-paged own below =
        subst (All IsSound) (sym (composites-paged page name a))
        (All-append IsSound (own_composite (paged_agg page name (agg_of a)))
        (composites_of (below_of a)) own below)

    -- a fault below it refuses it
    pub below-refused : (refusal : RequestError) → HasCause (below_of a) refusal
        → Any (λ c. CompositeHasCause c refusal) (composites_in (paged_in page name a))
    below-refused refusal has =
        subst (Any (λ c. CompositeHasCause c refusal)) (sym (composites-paged page name a))
        (Any-back (λ c. CompositeHasCause c refusal)
        (own_composite (paged_agg page name (agg_of a))) (composites_of (below_of a)) has)

  -- the fault of the composite that it is, with the page's parts, is its own
  pub composite-refused : (name : List ℕ) (agg : AggregationVariants B)
      (composite : CompositeAggregation) (size : ℕ) (after : Named AfterKey)
      → agg ≡ Composite composite → size ≡ (paged_composite page name composite).size
      → after ≡ (paged_composite page name composite).after → (refusal : RequestError)
      → CompositeHasCause (record composite { size = size; after = after }) refusal
      → Any (λ c. CompositeHasCause c refusal) (own_composite (paged_agg page name agg))
  composite-refused name agg composite size after is room begins refusal has =
      subst (λ (x : AggregationVariants B).
      Any (λ c. CompositeHasCause c refusal) (own_composite (paged_agg page name x))) (sym is) (
        0,
        paged_composite page name composite,
        omega arith,
        refl,
        subst (λ (c : CompositeAggregation). CompositeHasCause c refusal)
            (with-parts page name composite size after room begins) has,
      )
