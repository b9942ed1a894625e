-- A tree takes documents, one level at a time.
use Rattle.std.proofs.Common.{◌≡◌, ◌<◌, ◌+◌, ℕ, List, [], ◌∷◌, ◌++◌, Bool, Option, Some, get_or}
use Rattle.std.proofs.Common.{set, take, length, map}
use Rattle.std.proofs.Common.{suc, sym, ap, ◌∙◌, subst, arith, length-set}
use Rattle.std.proofs.lemmas.List.{get_or-set_same, map-append, take-set, take_more}
use Rattle.std.specs.Box.{with_value}
use Rattle.std.specs.declared.boxed.Box.{Box}
use Rattle.std.specs.declared.vec.Vec.{Vec}
use Rattle.std.specs.declared.alloc.Global.{Global}
use Rattle.agg_cache.specs.Waiting.{pairs_of}
use Rattle.agg_cache.specs.declared.cache.Batch.{Batch}
use Rattle.agg_composite.specs.Composite as c
use Rattle.agg_filter.specs.Filter as f
use Rattle.agg_engine_tree.specs.declared.segment_context.context.PerRequestAggSegCtx.{
  PerRequestAggSegCtx,
}
use Rattle.agg_engine_tree.specs.declared.collector_tree.tree.SegmentCollectorTree as declared
use declared.{SegmentCollectorTree as Tree}
use declared.{Composite, Filter, Group}
use Rattle.agg_engine_tree.specs.collector_tree.Step.{HandsOn, TakesAt, depth}
use Rattle.agg_engine_tree.specs.collector_tree.Caches.{Cache}
use Rattle.agg_engine_tree.specs.collector_tree.Refusals.{TakesInRange}
use Rattle.agg_engine_tree.specs.collector_tree.Tree.{Fits, Held, Takes, group_of, held_of}
use Rattle.agg_engine_tree.proofs.lemmas.collector_tree.Groups.{AllTake, all-more}
use Rattle.agg_engine_tree.proofs.lemmas.collector_tree.Levels.{held-composite, held-filter}
use Rattle.agg_engine_tree.proofs.lemmas.collector_tree.Levels.{held-group}

module _ (ctx : PerRequestAggSegCtx) (pairs : List (ℕ × ℕ)) (parents : List ℕ) (all : Bool)
    (old mid new : Tree)
    (field : ℕ) (child box : Box Tree Global) (given : Option (List Batch)) (down : List Batch)
    (some : given ≡ Some down) (same : box ≡ child) (steps steps_mid steps_now : ℕ)
    (below : Takes ctx (pairs_of down) all (held_of box.value) (held_of new) steps_mid steps_now)
  where
    -- a composite, and then the tree below it
    pub handed-composite : (collector : c.Composite Cache) → mid ≡ Composite field collector child
        → TakesAt ctx pairs parents all (held_of old) given (held_of mid) steps steps_mid
        → Takes ctx pairs all (held_of old)
        (held_of (Composite field collector (with_value box new)))
        steps steps_now
    handed-composite collector is at =
        let here = subst (λ h. TakesAt ctx pairs parents all (held_of old) given h steps steps_mid)
        (ap held_of is ∙ held-composite field collector child) at in
        let now = subst (λ g. TakesAt ctx pairs parents all (held_of old) g
        (Held.composite field collector (held_of child.value)) steps steps_mid) some here in
        rw (held-composite field collector (with_value box new))
        (now.1.takes (held_of new) steps_now
        (subst
        (λ (b : Box Tree Global). Takes ctx (pairs_of down) all (held_of b.value) (held_of new)
        steps_mid steps_now) same below))

    -- a filter, and then the tree below it
    pub handed-filter : (collector : f.Filter Cache) → mid ≡ Filter field collector child
        → TakesAt ctx pairs parents all (held_of old) given (held_of mid) steps steps_mid
        → Takes ctx pairs all (held_of old) (held_of (Filter field collector (with_value box new)))
        steps steps_now
    handed-filter collector is at =
        let here = subst (λ h. TakesAt ctx pairs parents all (held_of old) given h steps steps_mid)
        (ap held_of is ∙ held-filter field collector child) at in
        let now = subst (λ g. TakesAt ctx pairs parents all (held_of old) g
        (Held.filter field collector (held_of child.value)) steps steps_mid) some here in
        rw (held-filter field collector (with_value box new))
        (now.1.takes (held_of new) steps_now
        (subst
        (λ (b : Box Tree Global). Takes ctx (pairs_of down) all (held_of b.value) (held_of new)
        steps_mid steps_now) same below))

-- ---- what is handed down

module _ (ctx : PerRequestAggSegCtx) (pairs : List (ℕ × ℕ)) (parents : List ℕ) (all : Bool)
    (old mid : Tree) (field : ℕ) (child : Box Tree Global) (given : Option (List Batch))
    (down batches : List Batch) (some : given ≡ Some down) (same : batches ≡ down)
    (below : Tree) (read : below ≡ child.value) (steps steps_mid : ℕ)
    (at : TakesAt ctx pairs parents all (held_of old) given (held_of mid) steps steps_mid)
    {Checked : Type 0} (range : Checked → TakesInRange ctx pairs (held_of old)) where
  -- a tree below a node is less deep, may take batches, and in range where starts are checked
  abbrev pub MayTakeBelow : Type 0
  MayTakeBelow =
      (depth (held_of old) ≡ suc (depth (held_of below)))
      × (Fits ctx (held_of below)
      × (Checked → TakesInRange ctx (pairs_of batches) (held_of below)))

  -- what a node that hands on has below it may take what it hands on
  may-take : (now : Held → Held)
      → (depth (held_of old) ≡ suc (depth (held_of child.value)))
      × HandsOn ctx pairs parents all (held_of old) down (held_of child.value) now steps steps_mid
      → MayTakeBelow
  may-take now (deep, on) =
      rw (read, same) (deep, (on.below, λ checked. on.in_range (range checked)))

  -- what is below a composite may take what this hands on
  pub below-composite : (collector : c.Composite Cache) → mid ≡ Composite field collector child
      → MayTakeBelow
  below-composite collector is =
      may-take (Held.composite field collector)
      (subst (λ g. TakesAt ctx pairs parents all (held_of old) g
      (Held.composite field collector (held_of child.value)) steps steps_mid) some
      (subst (λ h. TakesAt ctx pairs parents all (held_of old) given h steps steps_mid)
      (ap held_of is ∙ held-composite field collector child) at))

  -- so for a filter
  pub below-filter : (collector : f.Filter Cache) → mid ≡ Filter field collector child
      → MayTakeBelow
  below-filter collector is =
      may-take (Held.filter field collector)
      (subst (λ g. TakesAt ctx pairs parents all (held_of old) g
      (Held.filter field collector (held_of child.value)) steps steps_mid) some
      (subst (λ h. TakesAt ctx pairs parents all (held_of old) given h steps steps_mid)
      (ap held_of is ∙ held-filter field collector child) at))

-- several trees take what all do
pub same-group : (ctx : PerRequestAggSegCtx) (pairs : List (ℕ × ℕ)) (parents : List ℕ)
    (all : Bool) (old mid : Tree) (children : Vec Tree Global) (given : Option (List Batch))
    (steps steps_mid : ℕ) → mid ≡ Group children
    → TakesAt ctx pairs parents all (held_of old) given (held_of mid) steps steps_mid
    → held_of old ≡ group_of children.items
same-group ctx pairs parents all old mid children given steps steps_mid is at =
    (subst (λ h. TakesAt ctx pairs parents all (held_of old) given h steps steps_mid)
    (ap held_of is ∙ held-group children) at).0

-- ---- several

-- the trees up to an index, one more
held-more : (trees : List Tree) (i : ℕ) (t : Tree) → i < length trees → t ≡ get_or trees i t
    → map held_of (take (i + 1) trees) ≡ map held_of (take i trees) ++ held_of t ∷ []
held-more trees i t l is =
    ap (map held_of) (take_more trees i t l)
    ∙ map-append held_of (take i trees) (get_or trees i t ∷ [])
    ∙ ap (λ n. map held_of (take i trees) ++ held_of n ∷ []) (sym is)

-- those before an index, and the one that is put there
pub held-next : (trees : List Tree) (i : ℕ) (new : Tree) → i < length trees
    → map held_of (take (i + 1) (set trees i new)) ≡ map held_of (take i trees) ++ held_of new ∷ []
held-next trees i new l =
    let inside : i < length (set trees i new) = omega (arith, l, length-set trees i new) in
    let here : new ≡ get_or (set trees i new) i new = sym (get_or-set_same trees i new new l) in
    held-more (set trees i new) i new inside here
    ∙ ap (λ ts. map held_of ts ++ held_of new ∷ []) (take-set trees i new)

pub all-next : (ctx : PerRequestAggSegCtx) (pairs : List (ℕ × ℕ)) (all : Bool)
    (olds nows : List Tree) (i : ℕ) (node new : Tree) (steps mid steps_now : ℕ) → i < length olds
    → length nows ≡ length olds → node ≡ get_or olds i node
    → AllTake ctx pairs all (map held_of (take i olds)) (map held_of (take i nows)) steps mid
    → Takes ctx pairs all (held_of node) (held_of new) mid steps_now
    → AllTake ctx pairs all (map held_of (take (i + 1) olds))
    (map held_of (take (i + 1) (set nows i new))) steps steps_now
all-next ctx pairs all olds nows i node new steps mid steps_now l long is each t =
    rw (held-more olds i node l is, held-next nows i new (omega (arith, l, long)))
    (all-more ctx pairs all (map held_of (take i olds)) (map held_of (take i nows)) (held_of node)
    (held_of new) steps mid steps_now each t)
