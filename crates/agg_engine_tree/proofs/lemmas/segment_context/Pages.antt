-- Requests with the page that is set.
use Rattle.std.proofs.Common.{◌≡◌, ℕ, List, [], ◌∷◌, ◌++◌, Bool, true, false, cond, Option, None}
use Rattle.std.proofs.Common.{Some, ap, nat_eq, option_map, refl, sym, subst, ◌∙◌}
use Rattle.std.specs.Borrow.{Bor}
use Rattle.std.specs.BTreeMap.{is_at}
use Rattle.std.specs.List.{All}
use Rattle.std.specs.Cmp.Lexicographic.{pointwise, texts_ties}
use Rattle.agg_values.specs.Names.{Named, name_cmp}
use Rattle.agg_values.specs.declared.after_key.AfterKey.{AfterKey}
use Rattle.agg_request_tree.specs.Faults.{IsSound, IsSoundSource}
use Rattle.agg_request_tree.specs.Source.{Sources, after_of}
use Rattle.agg_request_tree.specs.Request.{Request, agg_of, aggregation_of, below_of}
use Rattle.agg_request_tree.specs.Request.{composites_in, composites_of, own_composite}
use Rattle.agg_request_tree.specs.declared.aggregation.Aggregation.{Aggregation}
use Rattle.agg_request_tree.specs.declared.aggregation.AggregationVariants as variants
use variants.{AggregationVariants}
use variants.TheVariants.{Filter, Composite, Count, Max, Min, Sum}
use Rattle.agg_request_tree.specs.declared.aggregation.CompositeAggregation.{CompositeAggregation}
use Rattle.agg_request_tree.proofs.Faults.{IsSound-sources}
use Rattle.agg_request_tree.proofs.RequestTrees.{agg-made, below-made, composites-out}
use Rattle.agg_request_tree.proofs.RequestTrees.{made-of_parts}
use Rattle.agg_engine_tree.specs.segment_context.Additions.{paged_agg, paged_composite, paged_each}
use Rattle.agg_engine_tree.specs.segment_context.Additions.{paged_in}
use Rattle.agg_engine_tree.specs.segment_context.Pages.{paged}
use Rattle.agg_request_tree.specs.ChangedRequest.{changed, with_after, with_size}
use Rattle.agg_engine_tree.specs.declared.segment_context.params.Page.{Page}

-- ---- the page for a composite

module _ (page : Page) (name : List ℕ) (composite : CompositeAggregation) where
  -- the composite with the page
  abbrev pub with_page : CompositeAggregation
  with_page = record composite { size = page.size; after = page.after }

  by_test : (b : Bool) → pointwise nat_eq page.name name ≡ b
      → paged_composite (Some page) name composite ≡ cond b with_page composite
  by_test b is =
      ap (λ (t : Bool). cond t with_page composite) (sym (texts_ties page.name name) ∙ is)

module _ (o : Option (Bor Page)) (name : List ℕ) (composite : CompositeAggregation) where
  abbrev pub IsPaged : CompositeAggregation → Type 0
  IsPaged other = paged_composite (option_map (λ p. p.now) o) name composite ≡ other

  -- the page of its name
  pub page-named : (page : Bor Page) → o ≡ Some page → pointwise nat_eq page.now.name name ≡ true
      → IsPaged (record composite { size = page.now.size; after = page.now.after })
  page-named page is same =
      ap (λ (x : Option (Bor Page)). paged_composite (option_map (λ p. p.now) x) name composite) is
      ∙ by_test page.now name composite true same

  -- the page of another name
  pub page-other : (page : Bor Page) → o ≡ Some page → pointwise nat_eq page.now.name name ≡ false
      → IsPaged composite
  page-other page is differs =
      ap (λ (x : Option (Bor Page)). paged_composite (option_map (λ p. p.now) x) name composite) is
      ∙ by_test page.now name composite false differs

  -- no page
  pub page-none : o ≡ None → IsPaged composite
  page-none is =
      ap (λ (x : Option (Bor Page)). paged_composite (option_map (λ p. p.now) x) name composite) is

-- the sources are those of the composite
pub sources-paged : (o : Option Page) (name : List ℕ) (composite : CompositeAggregation)
    → (paged_composite o name composite).sources ≡ composite.sources
sources-paged None name composite = refl
sources-paged (Some page) name composite = by (is_at (name_cmp page.name) name)
  where
    by : (b : Bool)
        → (cond b (record composite { size = page.size; after = page.after }) composite).sources
        ≡ composite.sources
    by true = refl
    by false = refl

-- the composite with the page's parts, or with its own
pub with-parts : (o : Option Page) (name : List ℕ) (composite : CompositeAggregation) (size : ℕ)
    (after : Named AfterKey) → size ≡ (paged_composite o name composite).size
    → after ≡ (paged_composite o name composite).after
    → record composite { size = size; after = after } ≡ paged_composite o name composite
with-parts o name composite size after room begins =
    λ i. record {
      sources = sym (sources-paged o name composite) i;
      size = room i;
      after = begins i;
    }

-- each source of a sound composite is sound for the page's after key
pub sound-sources : (o : Option Page) (name : List ℕ) (composite : CompositeAggregation)
    (sources : Sources) (after : Named AfterKey) → sources ≡ composite.sources
    → after ≡ (paged_composite o name composite).after
    → IsSound (paged_composite o name composite)
    → All (λ source. IsSoundSource source (after_of after source)) sources
sound-sources o name composite sources after same begins sound =
    subst (λ (ss : Sources). All (λ source. IsSoundSource source (after_of after source)) ss)
    (sources-paged o name composite ∙ sym same)
    (subst (λ (a : Named AfterKey). All (λ source. IsSoundSource source (after_of a source))
    (paged_composite o name composite).sources) (sym begins)
    (IsSound-sources (paged_composite o name composite) sound))

-- ---- the page for a request

module _ {B : Type 0} where
  -- what an aggregation asks with the page that is set, and what is below it
  pub agg-paged : (page : Option Page) (name : List ℕ) (a : Aggregation B)
      → agg_of (paged_in page name a) ≡ paged_agg page name (agg_of a)
  agg-paged page name a = agg-made (paged_agg page name (agg_of a)) (below_of a)

  pub below-paged : (page : Option Page) (name : List ℕ) (a : Aggregation B)
      → below_of (paged_in page name a) ≡ below_of a
  below-paged page name a = below-made (paged_agg page name (agg_of a)) (below_of a)

  -- its composites are its own, with the page, and those below it
  pub composites-paged : (page : Option Page) (name : List ℕ) (a : Aggregation B)
      → composites_in (paged_in page name a)
      ≡ own_composite (paged_agg page name (agg_of a)) ++ composites_of (below_of a)
  composites-paged page name a =
      composites-out (paged_in page name a)
      ∙ (λ i. own_composite (agg-paged page name a i) ++ composites_of (below-paged page name a i))

  agg-unpaged : (name : List ℕ) (agg : AggregationVariants B) → paged_agg None name agg ≡ agg
  agg-unpaged name (Filter filter) = refl
  agg-unpaged name (Composite composite) = refl
  agg-unpaged name (Count metric) = refl
  agg-unpaged name (Max metric) = refl
  agg-unpaged name (Min metric) = refl
  agg-unpaged name (Sum metric) = refl

  -- what stands for an aggregation in a request with a page, by whether it has the page's name
  abbrev entry_by : Page → Bool → List ℕ → Aggregation B → List ℕ × Aggregation B
  entry_by page b name a =
      let e : List ℕ × Aggregation B = cond b (name, changed (with_after page.after) a) (name, a) in
      cond (is_at (name_cmp page.name) e.0) (e.0, changed (with_size page.size) e.1) e

  agg-sized : (page : Page) (agg : AggregationVariants B) (name : List ℕ)
      → is_at (name_cmp page.name) name ≡ true
      → with_size page.size (with_after page.after agg) ≡ paged_agg (Some page) name agg
  agg-sized page (Composite c) name is =
      ap (λ (b : Bool). Composite (cond b (record c { size = page.size; after = page.after }) c))
      (sym is)
  agg-sized page (Filter filter) name is = refl
  agg-sized page (Count metric) name is = refl
  agg-sized page (Max metric) name is = refl
  agg-sized page (Min metric) name is = refl
  agg-sized page (Sum metric) name is = refl

  agg-other : (page : Page) (agg : AggregationVariants B) (name : List ℕ)
      → is_at (name_cmp page.name) name ≡ false → paged_agg (Some page) name agg ≡ agg
  agg-other page (Composite c) name is =
      ap (λ (b : Bool). Composite (cond b (record c { size = page.size; after = page.after }) c)) is
  agg-other page (Filter filter) name is = refl
  agg-other page (Count metric) name is = refl
  agg-other page (Max metric) name is = refl
  agg-other page (Min metric) name is = refl
  agg-other page (Sum metric) name is = refl

  entry-paged : (page : Page) (name : List ℕ) (a : Aggregation B) (b : Bool)
      → is_at (name_cmp page.name) name ≡ b
      → entry_by page b name a ≡ (name, paged_in (Some page) name a)
  entry-paged page name a true is =
      ap (λ (b : Bool). cond b (
        name,
        changed (with_size page.size)
            (changed (with_after page.after) a),
      ) (name, changed (with_after page.after) a)) is
      ∙ (λ i. (
        name,
        aggregation_of
            ((ap (λ g. with_size page.size g)
            (agg-made (with_after page.after (agg_of a)) (below_of a))
            ∙ agg-sized page (agg_of a) name is) i)
            (below-made (with_after page.after (agg_of a)) (below_of a) i),
      ))
  entry-paged page name a false is =
      ap (λ (b : Bool). cond b (name, changed (with_size page.size) a) (name, a)) is
      ∙ ap (λ (x : Aggregation B). (name, x))
      (made-of_parts a (paged_agg (Some page) name (agg_of a)) (below_of a)
      (sym (agg-other page (agg_of a) name is)) refl)

  -- a request with a page has each of its aggregations with the page
  pub paged-each : (page : Option Page) (request : Request B)
      → paged page request ≡ paged_each page request
  paged-each None [] = refl
  paged-each None (e ∷ request) =
      λ i. (
        e.0,
        made-of_parts e.1 (paged_agg None e.0 (agg_of e.1)) (below_of e.1)
            (sym (agg-unpaged e.0 (agg_of e.1))) refl i,
      ) ∷ paged-each None request i
  paged-each (Some page) [] = refl
  paged-each (Some page) (e ∷ request) =
      λ i. entry-paged page e.0 e.1 (is_at (name_cmp page.name) e.0) refl i
      ∷ paged-each (Some page) request i
