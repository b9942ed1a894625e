-- What a request lists, one aggregation after another.
use Rattle.std.proofs.Common.{◌≡◌, List, [], ◌∷◌, ◌++◌, ap, append_assoc, refl, sym, ◌∙◌}
use Rattle.std.specs.List.{flat_map}
use Rattle.std.proofs.lemmas.List.Concat.{flat_map-append}
use Rattle.agg_request_tree.specs.Request.{Request, agg_of, below_of, listed_in, listed_of}
use Rattle.agg_request_tree.specs.declared.aggregation.Aggregation.{Aggregation}
use Rattle.agg_request_tree.specs.declared.aggregation.AggregationVariants.{AggregationVariants}
use Rattle.agg_request_tree.proofs.RequestTrees.{listed-out}
use Rattle.agg_engine_tree.proofs.lemmas.segment_context.Levels.{OfEach, by_levels}

-- two requests joined list what both list
pub listed-append : {B X : Type 0} (own : AggregationVariants B → List X) (xs ys : Request B)
    → listed_of own (xs ++ ys) ≡ listed_of own xs ++ listed_of own ys
listed-append own [] ys = refl
listed-append own (x ∷ xs) ys =
    ap (λ r. listed_in own x.1 ++ r) (listed-append own xs ys)
    ∙ sym (append_assoc (listed_in own x.1) (listed_of own xs) (listed_of own ys))

module _ {B X Y : Type 0} (own : AggregationVariants B → List X)
    (other : AggregationVariants B → List Y) (f : X → List Y)
    (law : (agg : AggregationVariants B) → other agg ≡ flat_map f (own agg)) where
  abbrev IsFlat : Aggregation B → Type 0
  IsFlat a = listed_in other a ≡ flat_map f (listed_in own a)

  each_flat : (request : Request B) → OfEach IsFlat request
      → listed_of other request ≡ flat_map f (listed_of own request)
  each_flat [] flat = refl
  each_flat (e ∷ request) flat =
      (λ i. flat.0 i ++ each_flat request flat.1 i)
      ∙ sym (flat_map-append f (listed_in own e.1) (listed_of own request))

  -- what an aggregation lists is that which comes of what it lists otherwise
  pub listed_in-flat : (a : Aggregation B) → listed_in other a ≡ flat_map f (listed_in own a)
  listed_in-flat = by_levels IsFlat (λ a below.
      listed-out other a
      ∙ (λ i. law (agg_of a) i ++ each_flat (below_of a) below i)
      ∙ sym (flat_map-append f (own (agg_of a)) (listed_of own (below_of a)))
      ∙ ap (λ xs. flat_map f xs) (sym (listed-out own a)))

  -- what a request lists is that which comes of what it lists otherwise
  pub listed-flat : (request : Request B)
      → listed_of other request ≡ flat_map f (listed_of own request)
  listed-flat [] = refl
  listed-flat (e ∷ request) =
      (λ i. listed_in-flat e.1 i ++ listed-flat request i)
      ∙ sym (flat_map-append f (listed_in own e.1) (listed_of own request))
