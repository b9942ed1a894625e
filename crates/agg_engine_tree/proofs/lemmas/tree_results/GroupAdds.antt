-- The results of several nodes side by side are added.
use Rattle.std.proofs.Common.{◌≡◌, ◌<◌, ◌≤◌, ◌+◌, ℕ, zero, suc, List, [], ◌∷◌, ◌++◌, Option, length}
use Rattle.std.proofs.Common.{get_or, map, take, drop, sym, ap, ◌∙◌, subst, arith}
use Rattle.std.specs.declared.alloc.Global.{Global}
use Rattle.std.specs.declared.vec.Vec.{Vec}
use Rattle.std.proofs.lemmas.List.{map-append, take_all, take_more}
use Rattle.agg_results.specs.intermediate_results.Intermediate.{Held as Results}
use Rattle.agg_engine_tree.specs.declared.segment_context.context.PerRequestAggSegCtx.{
  PerRequestAggSegCtx,
}
use Rattle.agg_engine_tree.specs.collector_tree.Tree.{Held, held_of, helds_of}
use Rattle.agg_engine_tree.specs.declared.collector_tree.tree.SegmentCollectorTree as tree
use tree.{SegmentCollectorTree}
use Rattle.agg_engine_tree.specs.tree_results.Results.{Adds, MayAdd}
use Rattle.agg_engine_tree.proofs.lemmas.tree_results.Levels.{held-group}
use Rattle.agg_engine_tree.proofs.lemmas.tree_results.SideBySide.{AddInTurn, add-more, adds-group}
use Rattle.agg_engine_tree.proofs.lemmas.tree_results.SideBySide.{may-next}

-- a list is what is before an element of it, the element, and what is after it
split-at : {X : Type 0} (xs : List X) (i : ℕ) (x : X)
    → i < length xs → x ≡ get_or xs i x
    → xs ≡ take i xs ++ x ∷ drop (suc i) xs
split-at [] i x within read = absurd (omega arith)
split-at (y ∷ xs) zero x within read = ap (λ z. z ∷ xs) (sym read)
split-at (y ∷ xs) (suc i) x within read =
    ap (λ zs. y ∷ zs) (split-at xs i x (omega arith) read)

module _ (ctx : PerRequestAggSegCtx) (node : SegmentCollectorTree) (old : Results)
    (may : MayAdd ctx (held_of node) old) (children : Vec SegmentCollectorTree Global)
    (is : node ≡ tree.Group children) (items : List SegmentCollectorTree)
    (same : items ≡ children.items) (parent : Option ℕ) where
  group_is : held_of node ≡ Held.group (helds_of (map held_of items))
  group_is =
      ap held_of is ∙ held-group children
      ∙ ap (λ xs. Held.group (helds_of (map held_of xs))) (sym same)

  abbrev group_may : MayAdd ctx (Held.group (helds_of (map held_of items))) old
  group_may = subst (λ h. MayAdd ctx h old) group_is may

  -- ---- by what was gone over

  module _ (before : List SegmentCollectorTree) (child : SegmentCollectorTree)
      (after : List SegmentCollectorTree) (split : items ≡ before ++ child ∷ after) (now : Results)
      (added : AddInTurn ctx parent (map held_of before) old now) where
    -- the next one may add its results
    pub following-may : MayAdd ctx (held_of child) now
    following-may =
        may-next ctx parent (map held_of before) (held_of child) (map held_of after) old now
        (subst (λ hs. MayAdd ctx (Held.group (helds_of hs)) old)
        (ap (map held_of) split ∙ map-append held_of before (child ∷ after)) group_may) added

    -- with the next one, one more added its results
    pub following-added : (new : Results) → Adds ctx (held_of child) parent now new
        → AddInTurn ctx parent (map held_of (before ++ child ∷ [])) old new
    following-added new adds =
        subst (λ hs. AddInTurn ctx parent hs old new)
        (sym (map-append held_of before (child ∷ [])))
        (add-more ctx parent (map held_of before) (held_of child) old now new added adds)

  -- in the end all did
  pub whole-added : (gone : List SegmentCollectorTree) → gone ≡ items → (new : Results)
      → AddInTurn ctx parent (map held_of gone) old new → Adds ctx (held_of node) parent old new
  whole-added gone all new added =
      subst (λ h. Adds ctx h parent old new) (sym group_is)
      (adds-group ctx parent (map held_of items) old new group_may.apart
      (subst (λ xs. AddInTurn ctx parent (map held_of xs) old new) all added))

  -- ---- by an index

  module _ (i : ℕ) (child : SegmentCollectorTree) (within : i < length items)
      (read : child ≡ get_or items i child) (now : Results)
      (added : AddInTurn ctx parent (map held_of (take i items)) old now) where
    -- the next one may add its results
    pub next-may : MayAdd ctx (held_of child) now
    next-may =
        following-may (take i items) child (drop (suc i) items)
        (split-at items i child within read) now added

    -- with the next one, so many more added their results
    pub next-added : (new : Results) → Adds ctx (held_of child) parent now new
        → AddInTurn ctx parent (map held_of (take (i + 1) items)) old new
    next-added new adds =
        subst (λ xs. AddInTurn ctx parent (map held_of xs) old new)
        (sym (take_more items i child within ∙ ap (λ x. take i items ++ x ∷ []) (sym read)))
        (following-added (take i items) child (drop (suc i) items)
        (split-at items i child within read) now added new adds)

  -- in the end all did
  pub all-added : (i : ℕ) → length items ≤ i → (new : Results)
      → AddInTurn ctx parent (map held_of (take i items)) old new
      → Adds ctx (held_of node) parent old new
  all-added i past new added = whole-added (take i items) (take_all i items past) new added
