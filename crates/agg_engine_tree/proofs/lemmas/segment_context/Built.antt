-- Requests with something else in place of each builder.
use Rattle.std.proofs.Common.{◌≡◌, List, [], ◌∷◌, ◌++◌, ap, refl, sym, ◌∙◌}
use Rattle.agg_request_tree.specs.Request.{Request, agg_of, aggregation_of, below_of, listed_in}
use Rattle.agg_request_tree.specs.Request.{listed_of, with_builders, with_builders_in}
use Rattle.agg_request_tree.specs.Request.{with_own_builder}
use Rattle.agg_request_tree.specs.declared.aggregation.Aggregation.{Aggregation}
use Rattle.agg_request_tree.specs.declared.aggregation.Aggregation.TheFolds as folds
use folds.{fold_out-Aggregation}
use Rattle.agg_request_tree.specs.declared.aggregation.AggregationVariants.{AggregationVariants}
use Rattle.agg_request_tree.proofs.RequestTrees.{agg-made, below-made, listed-out}
use Rattle.agg_engine_tree.proofs.lemmas.segment_context.Levels.{OfEach, by_levels}

module _ {B C : Type 0} (made : B → C) where
  -- one level of an aggregation with something else in place of each builder
  pub built-out : (a : Aggregation B) → with_builders_in made a
      ≡ aggregation_of (with_own_builder made (agg_of a)) (with_builders made (below_of a))
  built-out a =
      fold_out-Aggregation B (Aggregation C)
      (λ x. aggregation_of (with_own_builder made x.agg) x.sub_aggregation) a

  -- what it asks
  pub agg-built : (a : Aggregation B)
      → agg_of (with_builders_in made a) ≡ with_own_builder made (agg_of a)
  agg-built a =
      ap (λ (x : Aggregation C). agg_of x) (built-out a)
      ∙ agg-made (with_own_builder made (agg_of a)) (with_builders made (below_of a))

  -- what is below it
  pub below-built : (a : Aggregation B)
      → below_of (with_builders_in made a) ≡ with_builders made (below_of a)
  below-built a =
      ap (λ (x : Aggregation C). below_of x) (built-out a)
      ∙ below-made (with_own_builder made (agg_of a)) (with_builders made (below_of a))

module _ {B C X : Type 0} (made : B → C) (own : AggregationVariants C → List X) where
  abbrev own_built : AggregationVariants B → List X
  own_built agg = own (with_own_builder made agg)

  abbrev IsListed : Aggregation B → Type 0
  IsListed a = listed_in own (with_builders_in made a) ≡ listed_in own_built a

  each_listed : (request : Request B) → OfEach IsListed request
      → listed_of own (with_builders made request) ≡ listed_of own_built request
  each_listed [] listed = refl
  each_listed (e ∷ request) listed =
      (λ i. listed.0 i ++ each_listed request listed.1 i)

  -- what it lists
  pub listed_in-built : (a : Aggregation B)
      → listed_in own (with_builders_in made a)
      ≡ listed_in (λ agg. own (with_own_builder made agg)) a
  listed_in-built = by_levels IsListed (λ a below.
      listed-out own (with_builders_in made a)
      ∙ (λ i. own (agg-built made a i) ++ listed_of own (below-built made a i))
      ∙ ap (λ xs. own_built (agg_of a) ++ xs) (each_listed (below_of a) below)
      ∙ sym (listed-out own_built a))

  -- what a request lists
  pub listed-built : (request : Request B)
      → listed_of own (with_builders made request)
      ≡ listed_of (λ agg. own (with_own_builder made agg)) request
  listed-built [] = refl
  listed-built (e ∷ request) = λ i. listed_in-built e.1 i ++ listed-built request i
