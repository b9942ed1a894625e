-- Lists of entries, entry by entry.
use Rattle.std.proofs.Common.{◌++◌, ◌∷◌, [], length, sym, ap, ◌∙◌, subst, arith}
use Rattle.agg_values.proofs.TupleOrder.{tuple_order-total}
use Rattle.agg_values.specs.KeyOrder.{tuple_order}
use Rattle.agg_results.specs.metric_results.Merges.{Merges}
use Rattle.agg_results.specs.declared.metric_results.error.MergeError.TheVariants.{Mismatch}
use Rattle.agg_results.proofs.lemmas.metric_results.Exits.{error-kept}
use Rattle.agg_results.specs.intermediate_results.Intermediate.{TupleEntry}
use Rattle.agg_results.specs.intermediate_results.Outcome.{BelowDiffer, DoneUnless, EntriesPass}
use Rattle.agg_results.proofs.lemmas.intermediate_results.AscendingLists.{both_differ, heads}
use Rattle.agg_results.proofs.lemmas.intermediate_results.AscendingLists.{next_both, next_left}
use Rattle.agg_results.proofs.lemmas.intermediate_results.AscendingLists.{next_right}
use Rattle.agg_results.proofs.lemmas.intermediate_results.AscendingLists as entries
use Rattle.agg_results.proofs.intermediate_results.+merging.Goals as goal

pub left-smaller : goal.merging::merge_ascending-loop-order-smaller-in-Continue-branch-2
left-smaller t c =
    let at = c.in-Some.ensures.some in
    let moved = c.in_ok-move_first-in-Less.ensures at.0 at.2 at.4 in
    omega (arith, ap length at.4, ap length moved.1)

pub left-preserved : goal.merging::merge_ascending-loop-order-preserved-in-Continue-branch-2
left-preserved t c =
    let at = c.in-Some.ensures.some in
    let moved = c.in_ok-move_first-in-Less.ensures at.0 at.2 at.4 in
    next_left (tuple_order c.args.orders.now) (tuple_order-total c.args.orders.now)
    c.args.left.items c.args.right.items c.args.passed.now at.0 at.1 at.2 at.3
    c.loop-order.whole.items c.loop-order.passed c.loop-order.left.items c.loop-order.right.items
    at.4 at.5 c.loop-order.invariant
    c.move_first.new.from.items c.move_first.new.whole.items moved.1 moved.0
    (at.6 ∙ c.in-Less.is)

pub right-smaller : goal.merging::merge_ascending-loop-order-smaller-in-Continue-branch-3
right-smaller t c =
    let at = c.in-Some.ensures.some in
    let moved = c.in_ok-move_first-in-Greater.ensures at.1 at.3 at.5 in
    omega (arith, ap length at.5, ap length moved.1)

pub right-preserved : goal.merging::merge_ascending-loop-order-preserved-in-Continue-branch-3
right-preserved t c =
    let at = c.in-Some.ensures.some in
    let moved = c.in_ok-move_first-in-Greater.ensures at.1 at.3 at.5 in
    next_right (tuple_order c.args.orders.now) (tuple_order-total c.args.orders.now)
    c.args.left.items c.args.right.items c.args.passed.now at.0 at.1 at.2 at.3
    c.loop-order.whole.items c.loop-order.passed c.loop-order.left.items c.loop-order.right.items
    at.4 at.5 c.loop-order.invariant
    c.move_first-in-Greater.new.from.items c.move_first-in-Greater.new.whole.items moved.1 moved.0
    (at.6 ∙ c.in-Greater.is)

pub both-smaller : goal.merging::merge_ascending-loop-order-smaller
both-smaller t c =
    let at = c.in-Some.ensures.some in
    let moved = c.in_ok-move_both-in-Equal.ensures.merged at.0 at.1 at.2 at.3 at.4 at.5 in
    omega (arith, ap length at.4, ap length at.5, ap length moved.3, ap length moved.4)

pub both-preserved : goal.merging::merge_ascending-loop-order-preserved
both-preserved t c =
    let at = c.in-Some.ensures.some in
    let moved = c.in_ok-move_both-in-Equal.ensures.merged at.0 at.1 at.2 at.3 at.4 at.5 in
    next_both (tuple_order c.args.orders.now) (tuple_order-total c.args.orders.now)
    c.args.left.items c.args.right.items c.args.passed.now at.0 at.1 at.2 at.3
    c.loop-order.whole.items c.loop-order.passed c.loop-order.left.items c.loop-order.right.items
    at.4 at.5 c.loop-order.invariant
    moved.0 c.move_both.new.passed c.move_both.new.left.items c.move_both.new.right.items
    c.move_both.new.whole.items moved.3 moved.4 moved.1 (at.6 ∙ c.in-Equal.is)
    (c.in_ok-move_both-in-Equal.ensures.ok at.0 at.1 at.2 at.3 at.4 at.5) moved.2

pub mismatch : goal.merging::merge_ascending-returns-in_err-move_both-in-Equal-clause-mismatch
mismatch t c =
    λ is.
    let at = c.in-Some.ensures.some in
    let was = error-kept c.from_residual-in_err-move_both-in-Equal.result
    c.in_err-move_both-in-Equal.field-0.0 Mismatch
    c.from_residual-in_err-move_both-in-Equal.ensures.1 is in
    both_differ (tuple_order c.args.orders.now) (tuple_order-total c.args.orders.now)
    c.args.left.items c.args.right.items c.args.passed.now at.0 at.1 at.2 at.3
    c.loop-order.whole.items c.loop-order.passed c.loop-order.left.items c.loop-order.right.items
    at.4 at.5 c.loop-order.invariant
    (at.6 ∙ c.in-Equal.is)
    (c.in_err-move_both-in-Equal.ensures.mismatch was at.0 at.1 at.2 at.3 at.4 at.5)

pub merged : goal.merging::merge_ascending-returns-clause-merged
merged t c =
    entries.all_joined (tuple_order c.args.orders.now) (tuple_order-total c.args.orders.now)
    c.args.left.items c.args.right.items c.args.passed.now c.loop-order.left.items
    c.loop-order.right.items
    c.loop-order.whole.items c.loop-order.passed c.loop-order.invariant c.in_default.ensures.none
    c.move_all-2.new.whole.items
    (c.in_ok-move_all-2.ensures
    ∙ ap (λ es. es ++ c.loop-order.right.items) c.in_ok-move_all.ensures)

pub both-ok : goal.merging::move_both-returns-clause-ok
both-ok t c =
    λ e f es fs is_left is_right.
    let a = heads e (c.in-Some.key, c.in-Some.entry) es c.pop_front.new.self.items
    (sym is_left ∙ c.in-Some.ensures.items) in
    let b = heads f (c.in-Some-pop_front.field-0-0, c.in-Some-pop_front.other) fs
    c.pop_front-2.new.self.items (sym is_right ∙ c.in-Some-pop_front.ensures.items) in
    subst (λ (x : TupleEntry). Merges c.args.passed.now c.merge_all.new.passed
    (BelowDiffer x.1 f.1) (EntriesPass x.1 f.1)) (sym a.0)
    (subst (λ (y : TupleEntry). Merges c.args.passed.now c.merge_all.new.passed
    (BelowDiffer c.in-Some.entry y.1) (EntriesPass c.in-Some.entry y.1)) (sym b.0)
    c.in_ok-merge_all.ensures.ok)

pub both-merged : goal.merging::move_both-returns-clause-merged
both-merged t c =
    λ e f es fs is_left is_right.
    let a = heads e (c.in-Some.key, c.in-Some.entry) es c.pop_front.new.self.items
    (sym is_left ∙ c.in-Some.ensures.items) in
    let b = heads f (c.in-Some-pop_front.field-0-0, c.in-Some-pop_front.other) fs
    c.pop_front-2.new.self.items (sym is_right ∙ c.in-Some-pop_front.ensures.items) in (
      c.merge_all.new.self,
      c.in_ok-push.ensures.items
          ∙ ap (λ k. c.args.whole.now.items ++ (k, c.merge_all.new.self) ∷ [])
          (sym (ap (λ (x : TupleEntry). x.0) a.0)),
      subst (λ (x : TupleEntry). DoneUnless c.merge_all.new.passed x.1 f.1 c.merge_all.new.self)
          (sym a.0)
          (subst (λ (y : TupleEntry). DoneUnless c.merge_all.new.passed c.in-Some.entry y.1
          c.merge_all.new.self) (sym b.0) c.in_ok-merge_all.ensures.merged),
      sym a.1,
      sym b.1,
    )
