-- Requests level by level: an aggregation and those below it.
use Rattle.std.proofs.Common.{◌≡◌, ℕ, suc, List, [], ◌∷◌, ◌++◌, map, ap, ◌∙◌}
use Rattle.std.proofs.Common.{sym}
use Rattle.std.specs.Prelude.{max}
use Rattle.std.proofs.lemmas.List.Folds.{flat_map-map}
use Rattle.agg_request_tree.specs.Request.{Request, agg_of, aggregation_of, below_of, composites_in}
use Rattle.agg_request_tree.specs.Request.{composites_of}
use Rattle.agg_request_tree.specs.Request.{listed_in, listed_of, listed_step, own_composite}
use Rattle.agg_request_tree.specs.declared.aggregation.Aggregation.{Aggregation}
use Rattle.agg_request_tree.specs.declared.aggregation.Aggregation.TheOpen.{Aggregation-F}
use Rattle.agg_request_tree.specs.declared.aggregation.Aggregation.TheViews as views
use views.{out-roll-Aggregation, roll-out-Aggregation}
use Rattle.agg_request_tree.specs.declared.aggregation.Aggregation.TheFolds as folds
use folds.{fold-Aggregation, fold_out-Aggregation}
use Rattle.agg_request_tree.specs.declared.aggregation.AggregationVariants.{AggregationVariants}
use Rattle.agg_request_tree.specs.declared.aggregation.AggregationVariants.TheVariants.{Composite}
use Rattle.agg_request_tree.specs.declared.aggregation.CompositeAggregation.{CompositeAggregation}

-- ---- the parts of an aggregation

module _ {B : Type 0} where
  -- what an aggregation of these parts asks
  pub agg-made : (agg : AggregationVariants B) (below : Request B)
      → agg_of (aggregation_of agg below) ≡ agg
  agg-made agg below =
      ap (λ a. a.agg) (out-roll-Aggregation B (record { agg = agg; sub_aggregation = below }))

  -- what is below an aggregation of these parts
  pub below-made : (agg : AggregationVariants B) (below : Request B)
      → below_of (aggregation_of agg below) ≡ below
  below-made agg below =
      ap (λ a. a.sub_aggregation)
      (out-roll-Aggregation B (record { agg = agg; sub_aggregation = below }))

  -- an aggregation is that of its parts
  pub made-of_parts : (a : Aggregation B) (agg : AggregationVariants B) (below : Request B)
      → agg_of a ≡ agg → below_of a ≡ below → a ≡ aggregation_of agg below
  made-of_parts a agg below is none =
      sym (roll-out-Aggregation B a) ∙ (λ i. aggregation_of (is i) (none i))

-- ---- what is listed at any depth

-- an aggregation lists its own, and then what those below it list
pub listed-out : {B X : Type 0} (own : AggregationVariants B → List X) (a : Aggregation B)
    → listed_in own a ≡ own (agg_of a) ++ listed_of own (below_of a)
listed-out {B = B} {X = X} own a =
    fold_out-Aggregation B (List X) (listed_step own) a
    ∙ ap (λ below. own (agg_of a) ++ below)
    (flat_map-map (λ (e : List ℕ × List X). e.1)
    (λ (e : List ℕ × Aggregation B). (e.0, listed_in own e.1)) (below_of a))

-- the composites of an aggregation are its own and those below it
pub composites-out : {B : Type 0} (a : Aggregation B)
    → composites_in a ≡ own_composite (agg_of a) ++ composites_of (below_of a)
composites-out = listed-out own_composite

-- an aggregation that is a composite with none below it has no other
pub composites-plain : {B : Type 0} (a : Aggregation B) (composite : CompositeAggregation)
    → agg_of a ≡ Composite composite → below_of a ≡ [] → composites_in a ≡ composite ∷ []
composites-plain a composite is none =
    composites-out a
    ∙ (λ i. own_composite (is i) ++ composites_of (none i))

-- ---- heights

-- the greatest of what is listed
abbrev pub greatest : List (List ℕ × ℕ) → ℕ
greatest [] = 0
greatest (e ∷ es) = max e.1 (greatest es)

-- one above the greatest height below
abbrev pub height_step : {B : Type 0} → Aggregation-F B ℕ → ℕ
height_step a = suc (greatest a.sub_aggregation)

-- how many levels an aggregation has
abbrev pub height : {B : Type 0} → Aggregation B → ℕ
height {B = B} = fold-Aggregation B ℕ height_step

-- how many levels a request has
abbrev pub levels : {B : Type 0} → Request B → ℕ
levels request = greatest (map (λ a. (a.0, height a.1)) request)

-- those below it have one less
pub height-out : {B : Type 0} (a : Aggregation B) → height a ≡ suc (levels (below_of a))
height-out {B = B} a = fold_out-Aggregation B ℕ height_step a
