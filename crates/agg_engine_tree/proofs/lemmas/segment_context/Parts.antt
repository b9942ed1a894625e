-- Lists in two parts: what holds of each, and the trees that follow.
use Rattle.std.proofs.Common.{◌≡◌, ◌+◌, List, ◌++◌, Some, arith, length, length-append, map, sym}
use Rattle.std.proofs.Common.{subst}
use Rattle.std.specs.List.{All, slice_get}
use Rattle.std.proofs.Math.ListN.{get_or-append}
use Rattle.std.proofs.lemmas.List.{get_or-append-add, length-map, map-append}
use Rattle.agg_segment.specs.declared.query.QueryTree.{QueryTree}
use Rattle.agg_engine_tree.specs.segment_context.Additions.{GivesFrom, TreesFollow}
use Rattle.agg_engine_tree.specs.declared.segment_context.context.PerRequestAggSegCtx.{
  PerRequestAggSegCtx,
}
use Rattle.agg_engine_tree.specs.declared.segment_context.segment.origin.Origin.{Origin}
use Rattle.agg_engine_tree.proofs.lemmas.segment_context.Stays.{gives-parts}

-- what holds of each of two lists together holds of each of both
pub All-parts : {X : Type 0} (P : X → Type 0) (xs ys : List X) → All P (xs ++ ys)
    → All P xs × All P ys
All-parts P xs ys all = (
  λ k d within. subst P (get_or-append xs ys d k within)
      (all k d (omega (arith, length-append xs ys))),
  λ k d within. subst P (get_or-append-add xs ys k d)
      (all (length xs + k) d (omega (arith, length-append xs ys))),
)

module _ (from : Origin) (ctx : PerRequestAggSegCtx) (xs ys : List QueryTree)
    (follows : TreesFollow from ctx (xs ++ ys)) where
  both : GivesFrom (slice_get from.trees.now) (length ctx.filter_req_data) (map (λ t. Some t) xs)
      × GivesFrom (slice_get from.trees.now)
      (length ctx.filter_req_data + length (map (λ t. Some t) xs)) (map (λ t. Some t) ys)
  both =
      gives-parts (slice_get from.trees.now) (length ctx.filter_req_data) (map (λ t. Some t) xs)
      (map (λ t. Some t) ys)
      (subst (λ ts. GivesFrom (slice_get from.trees.now) (length ctx.filter_req_data) ts)
      (map-append (λ t. Some t) xs ys) follows)

  -- the first trees follow
  pub follows-first : TreesFollow from ctx xs
  follows-first = both.0

  -- the other trees follow after the first
  pub follows-next : (below : Origin) (next : PerRequestAggSegCtx)
      → below.trees.now ≡ from.trees.now
      → length next.filter_req_data ≡ length ctx.filter_req_data + length xs
      → TreesFollow below next ys
  follows-next below next same grown =
      let n : length ctx.filter_req_data + length (map (λ t. Some t) xs)
      ≡ length next.filter_req_data =
      omega (arith, length-map xs (λ t. Some t)) in
      subst (λ (trees : List QueryTree). GivesFrom (slice_get trees) (length next.filter_req_data)
      (map (λ t. Some t) ys)) (sym same)
      (subst (λ k. GivesFrom (slice_get from.trees.now) k (map (λ t. Some t) ys)) n both.1)
