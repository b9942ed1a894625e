-- The names of the request that a page asks ascend where those of its own request do.
use Rattle.std.proofs.Common.{◌≡◌, ℕ, zero, suc, List, [], ◌∷◌, refl, ap, sym, subst}
use Rattle.std.specs.Prelude.{Option}
use Rattle.std.specs.List.Sorted.{IsStrictlySortedBy}
use Rattle.std.specs.Map.{keys_of}
use Rattle.std.proofs.lemmas.List.Elements.{All-map, All-weaker}
use Rattle.std.proofs.lemmas.Map.Made.{keys_of-map_values}
use Rattle.agg_values.specs.Names.{name_cmp}
use Rattle.agg_segment.specs.declared.query.QueryTree.{QueryTree}
use Rattle.agg_request_tree.specs.Names.{NamesAscend, NamesAscendTo}
use Rattle.agg_request_tree.specs.Request.{Request, below_of, with_builders, with_builders_in}
use Rattle.agg_request_tree.specs.declared.aggregation.Aggregation.{Aggregation}
use Rattle.agg_engine_tree.specs.segment_context.Additions.{paged_each, paged_in}
use Rattle.agg_engine_tree.specs.segment_context.Pages.{paged}
use Rattle.agg_engine_tree.specs.declared.segment_context.params.Page.{Page}
use Rattle.agg_engine_tree.proofs.lemmas.segment_context.Built.{below-built}
use Rattle.agg_engine_tree.proofs.lemmas.segment_context.Pages.{below-paged, paged-each}
use Rattle.agg_engine.specs.snapshot_results.Asked.{IsAsked, MayBeAsked}
use Rattle.agg_engine.specs.declared.snapshot_results.context.PageRequest.{PageRequest}

-- with something else in place of each builder
names-built : {B C : Type 0} (made : B → C) (depth : ℕ) (request : Request B)
    → NamesAscendTo depth request → NamesAscendTo depth (with_builders made request)
names-built made zero request names = tt
names-built {B = B} {C = C} made (suc depth) request names = (
  subst (IsStrictlySortedBy name_cmp)
      (sym (keys_of-map_values (λ (a : Aggregation B). with_builders_in made a) request)) names.0,
  All-map (λ (a : List ℕ × Aggregation C). NamesAscendTo depth (below_of a.1))
      (λ (a : List ℕ × Aggregation B). (a.0, with_builders_in made a.1)) request
      (All-weaker (λ (a : List ℕ × Aggregation B). NamesAscendTo depth (below_of a.1))
      (λ (a : List ℕ × Aggregation B).
      NamesAscendTo depth (below_of (with_builders_in made a.1)))
      (λ (a : List ℕ × Aggregation B) own.
      subst (λ (r : Request C). NamesAscendTo depth r) (sym (below-built made a.1))
      (names-built made depth (below_of a.1) own)) request names.1),
)

-- with the page that is set
names-paged : {B : Type 0} (page : Option Page) (depth : ℕ) (request : Request B)
    → NamesAscendTo depth request → NamesAscendTo depth (paged_each page request)
names-paged page zero request names = tt
names-paged {B = B} page (suc depth) request names = (
  subst (IsStrictlySortedBy name_cmp) (sym (same-keys request)) names.0,
  All-map (λ (a : List ℕ × Aggregation B). NamesAscendTo depth (below_of a.1))
      (λ (a : List ℕ × Aggregation B). (a.0, paged_in page a.0 a.1)) request
      (All-weaker (λ (a : List ℕ × Aggregation B). NamesAscendTo depth (below_of a.1))
      (λ (a : List ℕ × Aggregation B). NamesAscendTo depth (below_of (paged_in page a.0 a.1)))
      (λ (a : List ℕ × Aggregation B) own.
      subst (λ (r : Request B). NamesAscendTo depth r) (sym (below-paged page a.0 a.1)) own)
      request names.1),
)
  where
    same-keys : (r : Request B) → keys_of (paged_each page r) ≡ keys_of r
    same-keys [] = refl
    same-keys (a ∷ r) = ap (λ ks. a.0 ∷ ks) (same-keys r)

-- with both
pub names-asked : {B : Type 0} (page : Option Page) (made : B → QueryTree) (request : Request B)
    → NamesAscend request → NamesAscend (paged page (with_builders made request))
names-asked page made request names depth =
    subst (NamesAscendTo depth) (sym (paged-each page (with_builders made request)))
    (names-paged page depth (with_builders made request)
    (names-built made depth request (names depth)))

-- the names of what a page asks
pub asked-ascend : {B : Type 0} (page : PageRequest B) (request : Request QueryTree)
    → MayBeAsked page → IsAsked page request → NamesAscend request
asked-ascend page request may asked =
    subst (λ (r : Request QueryTree). NamesAscend r) (sym asked.is)
    (names-asked page.params.now.page asked.made page.request.now may.names)
