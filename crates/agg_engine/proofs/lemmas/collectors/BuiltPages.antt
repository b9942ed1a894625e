-- A page is set before or after something else takes the place of each builder.
use Rattle.std.proofs.Common.{◌≡◌, ℕ, List, [], ◌∷◌, Bool, true, false, cond, Option, None, Some}
use Rattle.std.proofs.Common.{refl, sym, ap, ◌∙◌}
use Rattle.std.specs.BTreeMap.{is_at}
use Rattle.agg_values.specs.Names.{name_cmp}
use Rattle.agg_request_tree.specs.Request.{Request, agg_of, aggregation_of, below_of}
use Rattle.agg_request_tree.specs.Request.{with_builders, with_builders_in, with_own_builder}
use Rattle.agg_request_tree.specs.declared.aggregation.Aggregation.{Aggregation}
use Rattle.agg_request_tree.specs.declared.aggregation.AggregationVariants as variants
use variants.{AggregationVariants}
use variants.TheVariants.{Filter, Composite, Count, Max, Min, Sum}
use Rattle.agg_request_tree.proofs.RequestTrees.{agg-made, below-made}
use Rattle.agg_engine_tree.specs.segment_context.Pages.{paged}
use Rattle.agg_request_tree.specs.ChangedRequest.{changed, request_changed_at, with_after}
use Rattle.agg_request_tree.specs.ChangedRequest.{request_after, with_size}
use Rattle.agg_engine_tree.specs.declared.segment_context.params.Page.{Page}
use Rattle.agg_engine_tree.proofs.lemmas.segment_context.Built.{agg-built, below-built, built-out}

module _ {B C : Type 0} (made : B → C) where
  module _ (f : AggregationVariants B → AggregationVariants B)
      (g : AggregationVariants C → AggregationVariants C)
      (law : (agg : AggregationVariants B)
      → with_own_builder made (f agg) ≡ g (with_own_builder made agg)) (name : List ℕ) where
    one-changed : (a : Aggregation B)
        → with_builders_in made (changed f a) ≡ changed g (with_builders_in made a)
    one-changed a =
        built-out made (changed f a)
        ∙ (λ i. aggregation_of
        (with_own_builder made (agg-made (f (agg_of a)) (below_of a) i))
        (with_builders made (below-made (f (agg_of a)) (below_of a) i)))
        ∙ (λ i. aggregation_of (law (agg_of a) i) (with_builders made (below_of a)))
        ∙ sym (λ i. aggregation_of (g (agg-built made a i)) (below-built made a i))

    -- what has the name is changed before or after
    pub built-changed : (request : Request B)
        → with_builders made (request_changed_at f name request)
        ≡ request_changed_at g name (with_builders made request)
    built-changed [] = refl
    built-changed (e ∷ request) =
        λ i. by (is_at (name_cmp name) e.0) i ∷ built-changed request i
      where
        by : (b : Bool)
            → let x : List ℕ × Aggregation B = cond b (e.0, changed f e.1) e in
            let y : List ℕ × Aggregation C = (x.0, with_builders_in made x.1) in
            let z : List ℕ × Aggregation C = (e.0, with_builders_in made e.1) in
            y ≡ cond b (z.0, changed g z.1) z
        by true = ap (λ (a : Aggregation C). (e.0, a)) (one-changed e.1)
        by false = refl

  size-built : (size : ℕ) (agg : AggregationVariants B)
      → with_own_builder made (with_size size agg) ≡ with_size size (with_own_builder made agg)
  size-built size (Composite c) = refl
  size-built size (Filter a) = refl
  size-built size (Count a) = refl
  size-built size (Max a) = refl
  size-built size (Min a) = refl
  size-built size (Sum a) = refl

  after-built : (page : Page) (agg : AggregationVariants B)
      → with_own_builder made (with_after page.after agg)
      ≡ with_after page.after (with_own_builder made agg)
  after-built page (Composite c) = refl
  after-built page (Filter a) = refl
  after-built page (Count a) = refl
  after-built page (Max a) = refl
  after-built page (Min a) = refl
  after-built page (Sum a) = refl

  -- a page is set before or after
  pub built-paged : (page : Option Page) (request : Request B)
      → with_builders made (paged page request) ≡ paged page (with_builders made request)
  built-paged None request = refl
  built-paged (Some page) request =
      built-changed (with_size page.size) (with_size page.size) (size-built page.size) page.name
      (request_after page.name page.after request)
      ∙ ap (request_changed_at (with_size page.size) page.name)
      (built-changed (with_after page.after) (with_after page.after) (after-built page) page.name
      request)
