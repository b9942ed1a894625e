-- The bytes of trees side by side, one after the other.
use Rattle.std.proofs.Common.{◌≡◌, ◌<◌, ◌≤◌, ◌+◌, ℕ, zero, suc, List, [], ◌∷◌, get_or}
use Rattle.std.proofs.Common.{length, take, sym, ap, ◌∙◌, arith}
use Rattle.agg_engine_tree.specs.declared.segment_context.context.PerRequestAggSegCtx.{
  PerRequestAggSegCtx,
}
use Rattle.agg_engine_tree.specs.collector_tree.Tree.{group_of, held_of}
use Rattle.agg_engine_tree.specs.declared.collector_tree.tree.SegmentCollectorTree.{
  SegmentCollectorTree,
}
use Rattle.agg_engine_tree.specs.held_bytes.HeldBytes.{held_bytes}

module _ (ctx : PerRequestAggSegCtx) where
  -- the bytes of trees side by side
  abbrev pub group_bytes : List SegmentCollectorTree → ℕ
  group_bytes trees = held_bytes ctx (group_of trees)

  -- one more of them
  one-more : (trees : List SegmentCollectorTree) (i : ℕ) (d : SegmentCollectorTree)
      → i < length trees
      → group_bytes (take (i + 1) trees)
      ≡ group_bytes (take i trees) + held_bytes ctx (held_of (get_or trees i d))
  one-more [] i d within = absurd (omega arith)
  one-more (tree ∷ trees) zero d within = omega arith
  one-more (tree ∷ trees) (suc i) d within =
      let e : suc i + 1 ≡ suc (i + 1) = omega arith in
      omega (
        arith,
        ap (λ n. group_bytes (take n (tree ∷ trees))) e,
        one-more trees i d (omega arith),
      )

  -- one more of them, where the tree is read
  pub one-read : (trees : List SegmentCollectorTree) (i : ℕ) (tree : SegmentCollectorTree)
      → i < length trees → tree ≡ get_or trees i tree
      → group_bytes (take (i + 1) trees)
      ≡ group_bytes (take i trees) + held_bytes ctx (held_of tree)
  one-read trees i tree within at =
      one-more trees i tree within
      ∙ ap (λ t. group_bytes (take i trees) + held_bytes ctx (held_of t)) (sym at)

  -- the first of them hold at most what all do
  pub first-most : (trees : List SegmentCollectorTree) (i : ℕ)
      → group_bytes (take i trees) ≤ group_bytes trees
  first-most [] zero = omega arith
  first-most [] (suc i) = omega arith
  first-most (tree ∷ trees) zero = omega arith
  first-most (tree ∷ trees) (suc i) = omega (arith, first-most trees i)
