use mathlib.Core.List.{Mem, not-mem-nil}
use Rattle.std.proofs.Common.{◌≡◌, ◌<◌, ◌≤◌, ◌+◌, ℕ, List, ◌∷◌, [], true, false, get_or, length}
use Rattle.std.proofs.Common.{map}
use Rattle.std.proofs.Common.{take, drop, append-nil, length-set, refl, sym, ap, ◌∙◌, subst, arith}
use Rattle.std.specs.Prelude.{IfErr, IsTrue, not}
use Rattle.std.proofs.Math.Dec.{eqb}
use Rattle.std.specs.declared.alloc.Global.{Global}
use Rattle.std.specs.declared.vec.Vec.{Vec}
use Rattle.std.proofs.lemmas.List.{get_or-set_other, take_all}
use Rattle.std.proofs.lemmas.List.Elements.{All-nil}
use Rattle.std.proofs.lemmas.Result.{IfErr-weaker, on_ok_weaker}
use Rattle.agg_cache.specs.Waiting.{pairs_of, under}
use Rattle.agg_engine_tree.specs.declared.collector_tree.tree.SegmentCollectorTree.{
  SegmentCollectorTree as Tree,
}
use Rattle.agg_engine_tree.specs.declared.collector_tree.tree.SegmentCollectorTree.TheViews.{
  outs-Composite,
}
use Rattle.agg_engine_tree.specs.declared.collector_tree.tree.SegmentCollectorTree.TheViews.{
  outs-Filter,
}
use Rattle.agg_engine_tree.specs.collector_tree.Bound.{TakesMost}
use Rattle.agg_engine_tree.specs.collector_tree.Refusals.{IsRefused, TakesInRange}
use Rattle.agg_engine_tree.specs.collector_tree.Step.{depth, depths}
use Rattle.agg_engine_tree.specs.collector_tree.Call.{is_flush, pairs_in, parents_in}
use Rattle.agg_engine_tree.specs.collector_tree.Tree.{Fits, Held, Takes, group_of, held_of}
use Rattle.agg_engine_tree.specs.collector_tree.Tree.{helds_of}
use Rattle.agg_engine_tree.proofs.lemmas.collector_tree.Batches.{bucket_of, pairs_of-more}
use Rattle.agg_engine_tree.proofs.lemmas.collector_tree.Batches.{pairs_of-split}
use Rattle.agg_engine_tree.proofs.lemmas.collector_tree.Groups.{AllTake, group-takes}
use Rattle.agg_engine_tree.proofs.lemmas.collector_tree.HandedTrees.{all-next, handed-composite}
use Rattle.agg_engine_tree.proofs.lemmas.collector_tree.HandedTrees.{below-composite, below-filter}
use Rattle.agg_engine_tree.proofs.lemmas.collector_tree.HandedTrees.{handed-filter, same-group}
use Rattle.agg_engine_tree.proofs.lemmas.collector_tree.InRangeTrees.{each-in_range}
use Rattle.agg_engine_tree.proofs.lemmas.collector_tree.LaterParts.{later-in_range, later-most}
use Rattle.agg_engine_tree.proofs.lemmas.collector_tree.LaterParts.{later-refused}
use Rattle.agg_engine_tree.proofs.lemmas.collector_tree.Levels.{fits-each, less-deep, same-depth}
use Rattle.agg_engine_tree.proofs.lemmas.collector_tree.MostGroups.{some-most}
use Rattle.agg_engine_tree.proofs.lemmas.collector_tree.MostSteps.{takes-most}
use Rattle.agg_engine_tree.proofs.lemmas.collector_tree.PassedErrors.{error-passed}
use Rattle.agg_engine_tree.proofs.lemmas.collector_tree.RefusedFilters.{group-refused}
use Rattle.agg_engine_tree.proofs.lemmas.collector_tree.TakenParts.{taken-all, takes-both}
use Rattle.agg_engine_tree.proofs.lemmas.collector_tree.TakenParts.{takes-none}
use Rattle.agg_engine_tree.proofs.collector_tree.handing.+hand.Goals as goal

-- a number holds no loan
no-loan : (loans : List ℕ) (a : ℕ) → Mem a [] → Mem a loans
no-loan loans a mem = absurd (not-mem-nil mem)

pub hand-hand_batches-requires : goal.hand-hand_batches-requires
hand-hand_batches-requires g t c κs within =
    let x = c.in-Composite in
    let (deep, asked) = below-composite c.args.ctx.now (pairs_in c.args.call)
    (parents_in c.args.call) (is_flush c.args.call) c.args.node.now c.take_at.new.node x.field-0
    x.child c.in_ok-down.down c.in-Some.down c.as_slice.result.now c.in-Some.is c.as_slice.ensures
    c.deref_mut.result.now (c.deref_mut.ensures.value ∙ ap (λ b. b.value) x.child-is)
    c.args.steps.now c.take_at.new.steps c.in_ok-down.ensures.ok c.requires.range x.field-1
    x.is in
    (omega (arith, deep, c.decreases), (within, (no-loan _, (c.requires.meant, asked))))

pub hand-hand_batches-requires-in-Filter : goal.hand-hand_batches-requires-in-Filter
hand-hand_batches-requires-in-Filter g t c κs within =
    let x = c.in-Filter in
    let (deep, asked) = below-filter c.args.ctx.now (pairs_in c.args.call)
    (parents_in c.args.call) (is_flush c.args.call) c.args.node.now c.take_at.new.node x.field-0
    x.child c.in_ok-down.down c.in-Some-down.down c.as_slice-in-Filter.result.now c.in-Some-down.is
    c.as_slice-in-Filter.ensures c.deref_mut-in-Filter.result.now
    (c.deref_mut-in-Filter.ensures.value ∙ ap (λ b. b.value) x.child-is)
    c.args.steps.now c.take_at.new.steps c.in_ok-down.ensures.ok c.requires.range x.field-1
    x.is in
    (omega (arith, deep, c.decreases), (within, (no-loan _, (c.requires.meant, asked))))

pub hand-hand_all-requires : goal.hand-hand_all-requires
hand-hand_all-requires g t c κs within =
    let x = c.in-Group in
    let ctx = c.args.ctx.now in
    let pairs = pairs_in c.args.call in
    let same = same-group ctx pairs (parents_in c.args.call) (is_flush c.args.call) c.args.node.now
    c.take_at.new.node x.children c.in_ok-down.down c.args.steps.now c.take_at.new.steps x.is
    c.in_ok-down.ensures.ok
    ∙ ap (λ (ks : Vec Tree Global). group_of ks.items) (sym x.children-is) in
    let asked = subst (λ (h : Held). Fits ctx h
    × (IsTrue (not (eqb g.row.STARTS_CHECKED 0)) → TakesInRange ctx pairs h)) same
    (c.requires.fits, c.requires.range) in
    (omega (arith, ap depth same, c.decreases), (within, (no-loan _, (c.requires.meant, asked))))

pub hand-returns-in-Some-clause-ok : goal.hand-returns-in-Some-clause-ok
hand-returns-in-Some-clause-ok g t c =
    let x = c.in-Composite in
    let ctx = c.args.ctx.now in
    let pairs = pairs_in c.args.call in
    let all = is_flush c.args.call in
    let mid = c.take_at.new.steps in
    let now = c.hand_batches.new.steps in
    rw (x.is, outs-Composite x.field-0 x.field-1 x.child) (on_ok_weaker c.hand_batches.result
    (λ done. handed-composite ctx pairs (parents_in c.args.call) all c.args.node.now
    c.take_at.new.node c.hand_batches.new.node
    x.field-0 x.child x.child c.in_ok-down.down c.in-Some.down c.in-Some.is refl c.args.steps.now
    mid
    now
    (subst (λ n. Takes ctx (pairs_of c.in-Some.down) all (held_of n)
    (held_of c.hand_batches.new.node) mid now)
    (c.deref_mut.ensures.value ∙ ap (λ b. b.value) x.child-is)
    (subst (λ bs. Takes ctx (pairs_of bs) all (held_of c.deref_mut.result.now)
    (held_of c.hand_batches.new.node) mid now) c.as_slice.ensures
    (subst (λ f. Takes ctx (pairs_of c.as_slice.result.now) f (held_of c.deref_mut.result.now)
    (held_of c.hand_batches.new.node) mid now) c.is_flush.ensures done)))
    x.field-1 x.is c.in_ok-down.ensures.ok) c.hand_batches.ensures.ok)

pub hand-returns-in-Some-down-clause-ok : goal.hand-returns-in-Some-down-clause-ok
hand-returns-in-Some-down-clause-ok g t c =
    let x = c.in-Filter in
    let ctx = c.args.ctx.now in
    let pairs = pairs_in c.args.call in
    let all = is_flush c.args.call in
    let down = c.in-Some-down.down in
    let mid = c.take_at.new.steps in
    let new = c.hand_batches-in-Filter.new.node in
    let now = c.hand_batches-in-Filter.new.steps in
    rw (x.is, outs-Filter x.field-0 x.field-1 x.child) (on_ok_weaker c.hand_batches-in-Filter.result
    (λ done. handed-filter ctx pairs (parents_in c.args.call) all c.args.node.now
    c.take_at.new.node new
    x.field-0 x.child x.child c.in_ok-down.down down c.in-Some-down.is refl c.args.steps.now mid
    now
    (subst (λ n. Takes ctx (pairs_of down) all (held_of n) (held_of new) mid now)
    (c.deref_mut-in-Filter.ensures.value ∙ ap (λ b. b.value) x.child-is)
    (subst (λ bs. Takes ctx (pairs_of bs) all (held_of c.deref_mut-in-Filter.result.now)
    (held_of new) mid now) c.as_slice-in-Filter.ensures
    (subst (λ f. Takes ctx (pairs_of c.as_slice-in-Filter.result.now) f
    (held_of c.deref_mut-in-Filter.result.now) (held_of new) mid now)
    c.is_flush-in-Filter.ensures done)))
    x.field-1 x.is c.in_ok-down.ensures.ok) c.hand_batches-in-Filter.ensures.ok)

pub hand_all-hand-requires : goal.hand_all-hand-requires
hand_all-hand-requires g t c κs within =
    let l = c.loop-i in
    let i = l.i in
    let xs = c.args.children.now.items in
    let left = l.invariant.unvisited in
    let node = c.index_mut.result.now in
    let inside : i < length xs = omega (arith, c.loop-i-test.true, left.0) in
    let read : node ≡ get_or xs i node = c.index_mut.ensures.value ∙ left.1 i node (omega arith) in
    let less : depth (held_of node) < depths (helds_of (map held_of xs)) =
    subst (λ n. depth (held_of n) < depths (helds_of (map held_of xs))) (sym read)
    (less-deep xs i node inside) in (
      omega (arith, less, c.decreases),
      (
        within,
        (
          no-loan _,
          (
            c.requires.meant,
            (
              subst (λ n. Fits c.args.ctx.now (held_of n)) (sym read)
                  (fits-each c.args.ctx.now xs c.requires.fits i node inside),
              λ checked.
                  subst (λ n. TakesInRange c.args.ctx.now (pairs_in c.args.call) (held_of n))
                  (sym read)
                  (each-in_range c.args.ctx.now (pairs_in c.args.call) xs
                  (c.requires.range checked) i node inside),
            ),
          ),
        ),
      ),
    )

pub hand_all-returns-in_err-hand-clause-refused : goal.hand_all-returns-in_err-hand-clause-refused
hand_all-returns-in_err-hand-clause-refused g t c =
    let ctx = c.args.ctx.now in
    let pairs = pairs_in c.args.call in
    let parents = parents_in c.args.call in
    let l = c.loop-i in
    let i = l.i in
    let xs = c.args.children.now.items in
    let left = l.invariant.unvisited in
    let node = c.index_mut.result.now in
    let error = c.in_err-hand.field-0.0 in
    let inside : i < length xs = omega (arith, c.loop-i-test.true, left.0) in
    let read : node ≡ get_or xs i node = c.index_mut.ensures.value ∙ left.1 i node (omega arith) in
    error-passed (λ r. IfErr r (IsRefused ctx pairs parents (group_of xs))) c.from_residual.result
    error c.from_residual.ensures.1
    (group-refused ctx pairs parents xs i node inside error
    (subst (λ n. IsRefused ctx pairs parents (held_of n) error) read c.in_err-hand.ensures.refused))

pub hand_all-loop-i-preserved : goal.hand_all-loop-i-preserved
hand_all-loop-i-preserved g t c =
    let l = c.loop-i in
    let i = l.i in
    let xs = c.args.children.now.items in
    let left = l.invariant.unvisited in
    let node = c.index_mut.result.now in
    let new = c.hand.new.node in
    let inside : i < length xs = omega (arith, c.loop-i-test.true, left.0) in
    let read : node ≡ get_or xs i node = c.index_mut.ensures.value ∙ left.1 i node (omega arith) in
    record {
      unvisited = (
        length-set l.children.items i new ∙ left.0,
        λ k d later.
            get_or-set_other l.children.items i k new d (omega arith) ∙ left.1 k d (omega arith),
      );
      took = all-next c.args.ctx.now (pairs_in c.args.call) (is_flush c.args.call) xs
          l.children.items i node new c.args.steps.now l.steps c.hand.new.steps inside left.0 read
          l.invariant.took c.in_ok-hand.ensures.ok;
      later = omega (arith, l.invariant.later, c.hand.ensures.later);
    }

pub hand_all-returns-clause-ok : goal.hand_all-returns-clause-ok
hand_all-returns-clause-ok g t c =
    let l = c.loop-i in
    let xs = c.args.children.now.items in
    let ys = l.children.items in
    let left = l.invariant.unvisited in
    let past : length xs ≤ l.i = omega (arith, c.loop-i-test.false, left.0) in
    group-takes c.args.ctx.now (pairs_in c.args.call) (is_flush c.args.call) (map held_of xs)
    (map held_of ys) c.args.steps.now l.steps
    (subst (λ os. AllTake c.args.ctx.now (pairs_in c.args.call) (is_flush c.args.call)
    (map held_of os) (map held_of ys) c.args.steps.now l.steps) (take_all l.i xs past)
    (subst (λ ns. AllTake c.args.ctx.now (pairs_in c.args.call) (is_flush c.args.call)
    (map held_of (take l.i xs)) (map held_of ns) c.args.steps.now l.steps)
    (take_all l.i ys (omega (arith, past, left.0))) l.invariant.took))

pub hand_all-returns-in_err-hand-clause-most : goal.hand_all-returns-in_err-hand-clause-most
hand_all-returns-in_err-hand-clause-most g t c =
    let l = c.loop-i in
    let i = l.i in
    let xs = c.args.children.now.items in
    let left = l.invariant.unvisited in
    let node = c.index_mut.result.now in
    let inside : i < length xs = omega (arith, c.loop-i-test.true, left.0) in
    let read : node ≡ get_or xs i node = c.index_mut.ensures.value ∙ left.1 i node (omega arith) in
    some-most c.args.ctx.now (pairs_in c.args.call) (is_flush c.args.call) xs i node inside
    c.requires.fits (map held_of (take i l.children.items)) c.args.steps.now l.steps
    c.hand.new.steps l.invariant.took
    (subst (λ n. TakesMost c.args.ctx.now (pairs_in c.args.call) (held_of n) l.steps
    c.hand.new.steps) read c.hand.ensures.most)

pub hand_all-returns-in_err-hand-clause-later : goal.hand_all-returns-in_err-hand-clause-later
hand_all-returns-in_err-hand-clause-later g t c =
    omega (arith, c.loop-i.invariant.later, c.hand.ensures.later)

pub hand_all-returns-clause-most : goal.hand_all-returns-clause-most
hand_all-returns-clause-most g t c =
    takes-most c.args.ctx.now (pairs_in c.args.call) (is_flush c.args.call)
    (group_of c.args.children.now.items) (group_of c.loop-i.children.items) c.args.steps.now
    c.loop-i.steps c.requires.fits (hand_all-returns-clause-ok g t c)

-- ---- batches

pub hand_batches-hand-requires : goal.hand_batches-hand-requires
hand_batches-hand-requires g t c κs within =
    let ctx = c.args.ctx.now in
    let bs = c.args.batches.now in
    let b = c.batch-item.result in
    let l = c.loop-batch in
    let i = l.batch-index in
    let old = held_of c.args.node.now in
    let took = l.invariant.took in
    let same = same-depth old (held_of l.node) took.nodes in (
      omega (arith, same, c.decreases),
      (
        within,
        (
          no-loan _,
          (
            c.requires.meant,
            (
              took.fits c.requires.fits,
              λ checked.
                  subst (λ docs. TakesInRange ctx (under b.bucket_id docs) (held_of l.node))
                  (sym c.as_slice.ensures)
                  (later-in_range ctx (pairs_of (take i bs)) (under b.bucket_id b.docs)
                  (pairs_of (drop (i + 1) bs)) old (held_of l.node) c.args.steps.now l.steps took
                  (subst (λ pairs. TakesInRange ctx pairs old)
                  (pairs_of-split bs i b c.loop-batch-test.true c.batch-item.is)
                  (c.requires.range checked))),
            ),
          ),
        ),
      ),
    )

pub hand_batches-returns-in_err-hand-clause-refused :
    goal.hand_batches-returns-in_err-hand-clause-refused
hand_batches-returns-in_err-hand-clause-refused g t c =
    let ctx = c.args.ctx.now in
    let bs = c.args.batches.now in
    let b = c.batch-item.result in
    let l = c.loop-batch in
    let i = l.batch-index in
    let old = held_of c.args.node.now in
    let parents = map (λ batch. batch.bucket_id) bs in
    let error = c.in_err-hand.field-0.0 in
    error-passed (λ r. IfErr r (IsRefused ctx (pairs_of bs) parents old)) c.from_residual.result
    error c.from_residual.ensures.1
    (subst (λ pairs. IsRefused ctx pairs parents old error)
    (sym (pairs_of-split bs i b c.loop-batch-test.true c.batch-item.is))
    (later-refused ctx (pairs_of (take i bs)) (under b.bucket_id b.docs)
    (pairs_of (drop (i + 1) bs)) old (held_of l.node) c.args.steps.now l.steps l.invariant.took
    (b.bucket_id ∷ []) parents
    (bucket_of (λ parent. parent < 4294967295) bs i b c.loop-batch-test.true c.batch-item.is)
    error
    (subst (λ docs. IsRefused ctx (under b.bucket_id docs) (b.bucket_id ∷ []) (held_of l.node)
    error) c.as_slice.ensures c.in_err-hand.ensures.refused)))

pub hand_batches-returns-in_err-hand-clause-most : goal.hand_batches-returns-in_err-hand-clause-most
hand_batches-returns-in_err-hand-clause-most g t c =
    let ctx = c.args.ctx.now in
    let bs = c.args.batches.now in
    let b = c.batch-item.result in
    let l = c.loop-batch in
    let i = l.batch-index in
    let old = held_of c.args.node.now in
    subst (λ pairs. TakesMost ctx pairs old c.args.steps.now c.hand.new.steps)
    (sym (pairs_of-split bs i b c.loop-batch-test.true c.batch-item.is))
    (later-most ctx (pairs_of (take i bs)) (under b.bucket_id b.docs)
    (pairs_of (drop (i + 1) bs)) old (held_of l.node) c.args.steps.now l.steps l.invariant.took
    c.hand.new.steps
    (subst (λ docs. TakesMost ctx (under b.bucket_id docs) (held_of l.node) l.steps
    c.hand.new.steps) c.as_slice.ensures c.hand.ensures.most))

pub hand_batches-returns-in_err-hand-clause-later :
    goal.hand_batches-returns-in_err-hand-clause-later
hand_batches-returns-in_err-hand-clause-later g t c =
    omega (arith, c.loop-batch.invariant.later, c.hand.ensures.later)

pub hand_batches-loop-batch-init : goal.hand_batches-loop-batch-init
hand_batches-loop-batch-init g t c = record {
  took = takes-none c.args.ctx.now (held_of c.args.node.now) c.args.steps.now;
  later = omega arith;
}

pub hand_batches-loop-batch-preserved : goal.hand_batches-loop-batch-preserved
hand_batches-loop-batch-preserved g t c =
    let ctx = c.args.ctx.now in
    let bs = c.args.batches.now in
    let b = c.batch-item.result in
    let l = c.loop-batch in
    let i = l.batch-index in
    let old = held_of c.args.node.now in
    let new = held_of c.hand.new.node in
    record {
      took = subst (λ pairs. Takes ctx pairs false old new c.args.steps.now c.hand.new.steps)
          (pairs_of-more bs i b c.loop-batch-test.true c.batch-item.is)
          (takes-both ctx (pairs_of (take i bs)) (under b.bucket_id b.docs) old (held_of l.node)
          c.args.steps.now l.steps l.invariant.took false new c.hand.new.steps
          (subst (λ docs. Takes ctx (under b.bucket_id docs) false (held_of l.node) new l.steps
          c.hand.new.steps) c.as_slice.ensures c.in_ok-hand.ensures.ok));
      later = omega (arith, l.invariant.later, c.hand.ensures.later);
    }

-- ---- after all batches

pub hand_batches-hand-requires-2 : goal.hand_batches-hand-requires-2
hand_batches-hand-requires-2 g t c κs within =
    let ctx = c.args.ctx.now in
    let bs = c.args.batches.now in
    let l = c.loop-batch in
    let old = held_of c.args.node.now in
    let took = l.invariant.took in
    let all = taken-all ctx bs l.batch-index c.loop-batch-test.false old (held_of l.node)
    c.args.steps.now l.steps took in
    let same = same-depth old (held_of l.node) took.nodes in (
      omega (arith, same, c.decreases),
      (
        within,
        (
          no-loan _,
          (
            c.requires.meant,
            (
              took.fits c.requires.fits,
              λ checked.
                  later-in_range ctx (pairs_of bs) [] [] old (held_of l.node) c.args.steps.now
                  l.steps all
                  (subst (λ pairs. TakesInRange ctx pairs old) (sym (append-nil (pairs_of bs)))
                  (c.requires.range checked)),
            ),
          ),
        ),
      ),
    )

pub hand_batches-returns-then-not-flush-clause-most :
    goal.hand_batches-returns-then-not-flush-clause-most
hand_batches-returns-then-not-flush-clause-most g t c =
    let ctx = c.args.ctx.now in
    let bs = c.args.batches.now in
    let l = c.loop-batch in
    let old = held_of c.args.node.now in
    takes-most ctx (pairs_of bs) false old (held_of l.node) c.args.steps.now l.steps c.requires.fits
    (taken-all ctx bs l.batch-index c.loop-batch-test.false old (held_of l.node) c.args.steps.now
    l.steps l.invariant.took)

pub hand_batches-returns-clause-ok : goal.hand_batches-returns-clause-ok
hand_batches-returns-clause-ok g t c =
    let ctx = c.args.ctx.now in
    let bs = c.args.batches.now in
    let l = c.loop-batch in
    let old = held_of c.args.node.now in
    let new = held_of c.hand-2.new.node in
    let took = taken-all ctx bs l.batch-index c.loop-batch-test.false old (held_of l.node)
    c.args.steps.now l.steps l.invariant.took in
    on_ok_weaker c.hand-2.result (λ done.
    subst (λ f. Takes ctx (pairs_of bs) f old new c.args.steps.now c.hand-2.new.steps)
    (sym c.if-not-flush.false)
    (subst (λ pairs. Takes ctx pairs true old new c.args.steps.now c.hand-2.new.steps)
    (append-nil (pairs_of bs))
    (takes-both ctx (pairs_of bs) [] old (held_of l.node) c.args.steps.now l.steps took true new
    c.hand-2.new.steps done))) c.hand-2.ensures.ok

pub hand_batches-returns-clause-refused : goal.hand_batches-returns-clause-refused
hand_batches-returns-clause-refused g t c =
    let ctx = c.args.ctx.now in
    let bs = c.args.batches.now in
    let l = c.loop-batch in
    let old = held_of c.args.node.now in
    let parents = map (λ batch. batch.bucket_id) bs in
    let took = taken-all ctx bs l.batch-index c.loop-batch-test.false old (held_of l.node)
    c.args.steps.now l.steps l.invariant.took in
    IfErr-weaker c.hand-2.result (IsRefused ctx [] [] (held_of l.node))
    (IsRefused ctx (pairs_of bs) parents old) (λ error refused.
    subst (λ pairs. IsRefused ctx pairs parents old error) (append-nil (pairs_of bs))
    (later-refused ctx (pairs_of bs) [] [] old (held_of l.node) c.args.steps.now l.steps took []
    parents (λ low. All-nil (λ parent. parent < 4294967295)) error refused))
    c.hand-2.ensures.refused

pub hand_batches-returns-clause-most : goal.hand_batches-returns-clause-most
hand_batches-returns-clause-most g t c =
    let ctx = c.args.ctx.now in
    let bs = c.args.batches.now in
    let l = c.loop-batch in
    let old = held_of c.args.node.now in
    let took = taken-all ctx bs l.batch-index c.loop-batch-test.false old (held_of l.node)
    c.args.steps.now l.steps l.invariant.took in
    subst (λ pairs. TakesMost ctx pairs old c.args.steps.now c.hand-2.new.steps)
    (append-nil (pairs_of bs))
    (later-most ctx (pairs_of bs) [] [] old (held_of l.node) c.args.steps.now l.steps took
    c.hand-2.new.steps c.hand-2.ensures.most)
