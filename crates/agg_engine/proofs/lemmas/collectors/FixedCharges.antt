-- The fixed charge of a request is that with the trees of its builders in their place.
use Rattle.std.proofs.Common.{◌≡◌, ℕ, [], ◌∷◌, Option, ap, refl, sym, ◌∙◌}
use Rattle.std.specs.Prelude.{sum}
use Rattle.agg_request_tree.specs.Request.{Request, listed_of, with_builders, with_own_builder}
use Rattle.agg_request_tree.specs.declared.aggregation.AggregationVariants as variants
use variants.{AggregationVariants}
use variants.TheVariants.{Filter, Composite, Count, Max, Min, Sum}
use Rattle.agg_request_tree.specs.charges.Charges.{fixed_charge, node_charge}
use Rattle.agg_engine_tree.specs.segment_context.Pages.{paged}
use Rattle.agg_engine_tree.specs.declared.segment_context.params.Page.{Page}
use Rattle.agg_engine_tree.proofs.lemmas.segment_context.Built.{listed-built}
use Rattle.agg_engine.proofs.lemmas.collectors.BuiltPages.{built-paged}

module _ {B C : Type 0} (made : B → C) (documents : ℕ) where
  -- that of a node
  node-built : (agg : AggregationVariants B)
      → node_charge documents (with_own_builder made agg) ≡ node_charge documents agg
  node-built (Filter a) = refl
  node-built (Composite a) = refl
  node-built (Count a) = refl
  node-built (Max a) = refl
  node-built (Min a) = refl
  node-built (Sum a) = refl

  -- that of a request
  pub fixed-built : (request : Request B)
      → fixed_charge (with_builders made request) documents ≡ fixed_charge request documents
  fixed-built request =
      ap sum
      (listed-built made (λ (agg : AggregationVariants C). node_charge documents agg ∷ []) request
      ∙ (λ i. listed_of (λ (agg : AggregationVariants B). node-built agg i ∷ []) request))

  -- the fixed charge of a request with its page
  pub fixed-paged : (page : Option Page) (request : Request B)
      → fixed_charge (paged page (with_builders made request)) documents
      ≡ fixed_charge (paged page request) documents
  fixed-paged page request =
      ap (λ (r : Request C). fixed_charge r documents) (sym (built-paged made page request))
      ∙ fixed-built (paged page request)
