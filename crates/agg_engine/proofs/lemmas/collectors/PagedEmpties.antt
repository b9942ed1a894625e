-- The empty results of a request with a page are those of the request, but for the composite of the
-- page's name.
use Rattle.std.proofs.Common.{◌≡◌, List, [], ◌∷◌, ℕ, None, Some, Bool, true, false, cond}
use Rattle.std.proofs.Common.{map, refl, sym, ap, ◌∙◌, subst}
use Rattle.std.specs.BTreeMap.{is_at}
use Rattle.std.specs.List.{AllByRecursion}
use Rattle.std.specs.List.Sorted.{IsStrictlySortedBy}
use Rattle.std.specs.Map.{keys_of}
use Rattle.agg_values.specs.Names.{name_cmp, put, value_of, without}
use Rattle.agg_request_tree.specs.Request.{Request, agg_of, below_of}
use Rattle.agg_request_tree.specs.Source.{rules_of}
use Rattle.agg_request_tree.specs.declared.aggregation.Aggregation.{Aggregation}
use Rattle.agg_request_tree.specs.declared.aggregation.AggregationVariants as variants
use variants.{AggregationVariants}
use variants.TheVariants.{Filter, Composite, Count, Max, Min, Sum}
use Rattle.agg_request_tree.specs.declared.aggregation.CompositeAggregation.{CompositeAggregation}
use Rattle.agg_request_tree.proofs.Lists.{AllByRecursion-weaker}
use Rattle.agg_request_tree.proofs.RequestTrees.{agg-made, below-made}
use Rattle.agg_results.specs.intermediate_results.Empty.{empty_by, empty_result, empty_results}
use Rattle.agg_results.specs.intermediate_results.Intermediate.{as_composite, composite_of}
use Rattle.agg_results.proofs.Empties.{empty-out}
use Rattle.agg_engine_tree.specs.segment_context.Pages.{paged}
use Rattle.agg_request_tree.specs.ChangedRequest.{changed, with_after, with_size}
use Rattle.agg_engine_tree.specs.declared.segment_context.params.Page.{Page}
use Rattle.agg_engine.proofs.lemmas.collectors.NamedEmpties.{AtName, Result, none-found, only-found}
use Rattle.agg_engine.proofs.lemmas.collectors.NamedEmpties.{other_at, put-other, with_other}

-- the empty page of a composite, with a size
abbrev pub empty_of : ℕ → CompositeAggregation → Result
empty_of size c = as_composite (composite_of (rules_of c.sources) size [])

module _ {B : Type 0} (page : Page) where
  -- ---- one aggregation

  -- an aggregation with the page
  abbrev one_paged : Aggregation B → Aggregation B
  one_paged a = changed (with_size page.size) (changed (with_after page.after) a)

  -- what is changed twice asks what it asks after both changes
  agg-paged : (a : Aggregation B)
      → agg_of (one_paged a) ≡ with_size page.size (with_after page.after (agg_of a))
  agg-paged a =
      agg-made (with_size page.size (agg_of (changed (with_after page.after) a)))
      (below_of (changed (with_after page.after) a))
      ∙ ap (with_size page.size) (agg-made (with_after page.after (agg_of a)) (below_of a))

  below-paged : (a : Aggregation B) → below_of (one_paged a) ≡ below_of a
  below-paged a =
      below-made (with_size page.size (agg_of (changed (with_after page.after) a)))
      (below_of (changed (with_after page.after) a))
      ∙ below-made (with_after page.after (agg_of a)) (below_of a)

  -- its empty result
  one-empty : (a : Aggregation B) → empty_result (one_paged a)
      ≡ empty_by (with_size page.size (with_after page.after (agg_of a)))
      (empty_results (below_of a))
  one-empty a =
      empty-out (one_paged a)
      ∙ (λ i. empty_by (agg-paged a i) (empty_results (below-paged a i)))

  -- that of a composite has the page's size
  composite-empty : (a : Aggregation B) (c : CompositeAggregation) → agg_of a ≡ Composite c
      → empty_of page.size c ≡ empty_result (one_paged a)
  composite-empty a c is =
      sym (one-empty a
      ∙ ap (λ (agg : AggregationVariants B). empty_by (with_size page.size
      (with_after page.after agg)) (empty_results (below_of a))) is)

  -- any other has no page
  other-empty : (a : Aggregation B) → ((c : CompositeAggregation) → ¬ (agg_of a ≡ Composite c))
      → empty_result a ≡ empty_result (one_paged a)
  other-empty a other = empty-out a ∙ by (agg_of a) other ∙ sym (one-empty a)
    where
      by : (agg : AggregationVariants B) → ((c : CompositeAggregation) → ¬ (agg ≡ Composite c))
          → empty_by agg (empty_results (below_of a))
          ≡ empty_by (with_size page.size (with_after page.after agg))
          (empty_results (below_of a))
      by (Composite c) other = absurd (other c refl)
      by (Filter a) other = refl
      by (Count a) other = refl
      by (Max a) other = refl
      by (Min a) other = refl
      by (Sum a) other = refl

  -- ---- a request

  -- entries with results, which are the empty ones with the page
  module _ (made : List ℕ × Aggregation B → Result) where
    each-paged : (request : Request B)
        → AllByRecursion (λ e. made e
        ≡ cond (is_at (name_cmp page.name) e.0) (empty_result (one_paged e.1)) (empty_result e.1))
        request
        → map (λ e. (e.0, made e)) request ≡ empty_results (paged (Some page) request)
    each-paged [] all = refl
    each-paged (e ∷ request) all =
        λ i. (ap (λ r. (e.0, r)) all.0 ∙ by (is_at (name_cmp page.name) e.0) refl) i
        ∷ each-paged request all.1 i
      where
        Entry : Type 0
        Entry = List ℕ × Aggregation B

        by : (b : Bool) → is_at (name_cmp page.name) e.0 ≡ b
            → let x : Entry = cond (is_at (name_cmp page.name) e.0)
            (e.0, changed (with_after page.after) e.1) e in
            let y : Entry = cond (is_at (name_cmp page.name) x.0)
            (x.0, changed (with_size page.size) x.1) x in
            let r : List ℕ × Result = (
              e.0,
              cond (is_at (name_cmp page.name) e.0)
                  (empty_result (one_paged e.1)) (empty_result e.1),
            ) in
            let s : List ℕ × Result = (y.0, empty_result y.1) in
            r ≡ s
        by true is = rw (is, is) refl
        by false is = rw (is, is) refl

  -- the result of an entry with the page
  abbrev entry_paged : List ℕ × Aggregation B → Result
  entry_paged e =
      cond (is_at (name_cmp page.name) e.0) (empty_result (one_paged e.1)) (empty_result e.1)

  -- where the empty results of the name's aggregations stay
  stays : (request : Request B)
      → AtName page.name (λ a. empty_result a ≡ empty_result (one_paged a)) request
      → empty_results request ≡ empty_results (paged (Some page) request)
  stays request at =
      each-paged (λ e. empty_result e.1) request
      (AllByRecursion-weaker _ (λ e. empty_result e.1 ≡ entry_paged e)
      (λ e same. by e (is_at (name_cmp page.name) e.0) refl same) request at)
    where
      by : (e : List ℕ × Aggregation B) (b : Bool) → is_at (name_cmp page.name) e.0 ≡ b
          → (is_at (name_cmp page.name) e.0 ≡ true
          → empty_result e.1 ≡ empty_result (one_paged e.1))
          → empty_result e.1 ≡ cond b (empty_result (one_paged e.1)) (empty_result e.1)
      by e true is same = same is
      by e false is same = refl

  -- where another stands in their place
  changes : (request : Request B) (value : Result)
      → AtName page.name (λ a. value ≡ empty_result (one_paged a)) request
      → with_other page.name value request ≡ empty_results (paged (Some page) request)
  changes request value at =
      each-paged (other_at page.name value) request
      (AllByRecursion-weaker _ (λ e. other_at page.name value e ≡ entry_paged e)
      (λ e same. by e (is_at (name_cmp page.name) e.0) refl same) request at)
    where
      by : (e : List ℕ × Aggregation B) (b : Bool) → is_at (name_cmp page.name) e.0 ≡ b
          → (is_at (name_cmp page.name) e.0 ≡ true → value ≡ empty_result (one_paged e.1))
          → cond b value (empty_result e.1)
          ≡ cond b (empty_result (one_paged e.1)) (empty_result e.1)
      by e true is same = same is
      by e false is same = refl

  -- where nothing has the name, all are those of the request
  pub paged-none : (request : Request B) → value_of page.name request ≡ None
      → empty_results request ≡ empty_results (paged (Some page) request)
  paged-none request none =
      stays request
      (none-found page.name (λ a. empty_result a ≡ empty_result (one_paged a)) request none)

  module _ (request : Request B) (a : Aggregation B)
      (up : IsStrictlySortedBy name_cmp (keys_of request))
      (found : value_of page.name request ≡ Some a) where
    -- what holds of the aggregation of the name
    at-name : (P : Aggregation B → Type 0) → P a → AtName page.name P request
    at-name P holds =
        AllByRecursion-weaker
        (λ (e : List ℕ × Aggregation B). is_at (name_cmp page.name) e.0 ≡ true → e.1 ≡ a)
        (λ (e : List ℕ × Aggregation B). is_at (name_cmp page.name) e.0 ≡ true → P e.1)
        (λ e same is. subst P (sym (same is)) holds) request
        (only-found page.name request a up found)

    -- the empty results of a request don't hang on the page where no composite has its name
    pub paged-other : ((c : CompositeAggregation) → ¬ (agg_of a ≡ Composite c))
        → empty_results request ≡ empty_results (paged (Some page) request)
    paged-other other =
        stays request
        (at-name (λ b. empty_result b ≡ empty_result (one_paged b)) (other-empty a other))

    -- the empty page of a composite is put in place of its own
    pub paged-composite : (c : CompositeAggregation) → agg_of a ≡ Composite c
        → put page.name (empty_of page.size c) (without page.name (empty_results request))
        ≡ empty_results (paged (Some page) request)
    paged-composite c is =
        put-other page.name (empty_of page.size c) request a up found
        ∙ changes request (empty_of page.size c)
        (at-name (λ b. empty_of page.size c ≡ empty_result (one_paged b))
        (composite-empty a c is))
