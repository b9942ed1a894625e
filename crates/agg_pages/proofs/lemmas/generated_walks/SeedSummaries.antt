-- The summary of a seed is one, whatever builders a program has.
use Rattle.std.proofs.Common.{◌≡◌, ◌∙◌, List, [], ◌∷◌, ℕ, Option, codes, ap, subst, sym}
use Rattle.agg_segment.specs.Query.{matches}
use Rattle.agg_segment.specs.declared.query.QueryTree.{QueryTree}
use Rattle.agg_request_tree.specs.BuiltRequest.{built_tree}
use Rattle.agg_request_tree.specs.Request.{Request, aggregation_of, with_builders}
use Rattle.agg_request_tree.specs.Request.{with_builders_in, with_own_builder}
use Rattle.agg_request_tree.specs.declared.aggregation.AggregationVariants.{AggregationVariants}
use Rattle.agg_request_tree.specs.declared.aggregation.AggregationVariants.TheVariants as asks
use Rattle.agg_request_tree.proofs.RequestTrees.{agg-made, below-made}
use Rattle.agg_engine_tree.proofs.lemmas.segment_context.Built.{built-out}
use Rattle.agg_engine.proofs.BuiltWalks.{walk-built}
use Rattle.agg_engine.proofs.OneWalk.{walk-same}
use Rattle.agg_engine.proofs.lemmas.collectors.BuiltTrees.{tree-matches}
use Rattle.agg_engine.specs.Walk.{IsWalk}
use Rattle.agg_engine.specs.declared.walk.Walk.{Walk}
use Rattle.agg_pages.specs.Answer.{IsPlainWalk, IsSummary, matches_in, query_in}
use Rattle.agg_pages.specs.Output.{summary_text}
use Rattle.agg_pages.specs.generator.Generator.{generated}
use Rattle.agg_pages.specs.generator.Request.{count_of_dates, generated_composite}
use Rattle.agg_pages.specs.generator.Request.{generated_request}
use Rattle.agg_pages.specs.input_text.Input.{Input}

module _ {B C : Type 0} (of : B → C) where
  -- an aggregation of these parts, with other builders
  parts-built : (agg : AggregationVariants B) (below : Request B)
      → with_builders_in of (aggregation_of agg below)
      ≡ aggregation_of (with_own_builder of agg) (with_builders of below)
  parts-built agg below =
      built-out of (aggregation_of agg below)
      ∙ (λ i. aggregation_of (with_own_builder of (agg-made agg below i))
      (with_builders of (below-made agg below i)))

  -- the generated request has no builders
  request-built : with_builders of (generated_request {B = B}) ≡ generated_request {B = C}
  request-built =
      ap (λ a. (codes "g", a) ∷ [])
      (parts-built (asks.Composite generated_composite) ((codes "n", count_of_dates) ∷ [])
      ∙ ap (λ a. aggregation_of (asks.Composite generated_composite) ((codes "n", a) ∷ []))
      (parts-built (asks.Count (record { field = codes "d" })) []))

module _ {B : Type 0} (tree_for : B → List (List ℕ) → Option QueryTree) (seed : ℕ) where
  -- the input of the seed, with such builders, and with none
  abbrev of_seed : Input B
  of_seed = generated seed

  abbrev plain : Input QueryTree
  plain = generated seed

  -- its walk is one where trees stand in place of builders
  pub seed-walk : (walk : Walk) → IsPlainWalk tree_for of_seed walk
      → IsWalk matches plain.header.name plain.header.query plain.header.request plain.snapshots
      walk.pages walk.ended
  unfolding generated
  seed-walk walk is =
      subst (λ (r : Request QueryTree).
      IsWalk matches plain.header.name plain.header.query r plain.snapshots walk.pages walk.ended)
      (request-built (built_tree (query_in tree_for of_seed)))
      (walk-built (matches_in tree_for of_seed) (built_tree (query_in tree_for of_seed))
      (tree-matches (query_in tree_for of_seed)) of_seed.header.name of_seed.header.query
      of_seed.header.request of_seed.snapshots walk.pages walk.ended is)

-- two summaries of a seed are the same, whatever builders there are
pub summaries-same : {B C : Type 0} (tree_for : B → List (List ℕ) → Option QueryTree)
    (others_for : C → List (List ℕ) → Option QueryTree) (seed : ℕ) (text other : List ℕ)
    → IsSummary tree_for (generated seed) text → IsSummary others_for (generated seed) other
    → text ≡ other
summaries-same tree_for others_for seed text other (walk, is, said) (next, so, too) =
    let plain : Input QueryTree = generated seed in
    let same = walk-same matches plain.header.name plain.header.query plain.header.request
    plain.snapshots walk.pages next.pages walk.ended next.ended
    (seed-walk tree_for seed walk is) (seed-walk others_for seed next so) in
    said ∙ (λ k. summary_text (record { pages = same.0 k; ended = same.1 k })) ∙ sym too
