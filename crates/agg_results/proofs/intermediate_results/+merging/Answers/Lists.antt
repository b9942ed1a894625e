-- Lists of entries that don't overlap, and those that do.
use Rattle.std.proofs.Common.{ℕ, refl, sym, subst}
use Rattle.agg_values.proofs.TupleOrder.{tuple_order-total}
use Rattle.agg_values.specs.KeyOrder.{tuple_order}
use Rattle.agg_results.proofs.lemmas.metric_results.Outcomes.{merges-none}
use Rattle.agg_results.specs.intermediate_results.Merging.{JoinEntries}
use Rattle.agg_results.specs.intermediate_results.Outcome.{AreBelow, BelowDiffer, DoneUnless}
use Rattle.agg_results.specs.intermediate_results.Outcome.{EntriesPass}
use Rattle.agg_results.proofs.lemmas.intermediate_results.BelowLists.{above-untied, below-same}
use Rattle.agg_results.proofs.lemmas.intermediate_results.BelowLists.{below-untied, join-left}
use Rattle.agg_results.proofs.lemmas.intermediate_results.BelowLists.{join-right}
use Rattle.agg_results.proofs.intermediate_results.+merging.Goals as goal
use Rattle.agg_results.proofs.intermediate_results.+merging.Goals.{
  merging::merge_lists-In_ok-joined,
}
use Rattle.agg_results.proofs.intermediate_results.+merging.Goals.{
  merging::merge_lists-In_ok-joined-2,
}

-- the left is below the right
left-below : (t : ℕ) (c : merging::merge_lists-In_ok-joined t)
    → AreBelow (tuple_order c.args.orders.now) c.args.left.items c.args.right.items
left-below t c =
    let rules = c.args.orders.now in
    below-same (tuple_order rules) (tuple_order-total rules) c.args.left.items c.args.right.items
    c.deref.result.now c.deref-2.result.now c.deref.ensures.value c.deref-2.ensures.value
    (c.is_below.ensures c.if-is_below.true)

-- the right is below the left
right-below : (t : ℕ) (c : merging::merge_lists-In_ok-joined-2 t)
    → AreBelow (tuple_order c.args.orders.now) c.args.right.items c.args.left.items
right-below t c =
    let rules = c.args.orders.now in
    below-same (tuple_order rules) (tuple_order-total rules) c.args.right.items c.args.left.items
    c.deref-3.result.now c.deref-4.result.now c.deref-3.ensures.value c.deref-4.ensures.value
    (c.is_below-2.ensures c.if-is_below-2.true)

pub right-ok : goal.merging::merge_lists-returns-then-is_below-clause-ok
right-ok t c =
    let rules = c.args.orders.now in
    let below = left-below t
    (goal.at.merging::merge_lists-returns-then-is_below-clause-ok t c).In_ok-joined in
    merges-none _ _ _ _ refl
    (below-untied (tuple_order rules) (tuple_order-total rules) BelowDiffer c.args.left.items
    c.args.right.items below)
    (below-untied (tuple_order rules) (tuple_order-total rules) EntriesPass c.args.left.items
    c.args.right.items below)

pub right-merged : goal.merging::merge_lists-returns-then-is_below-clause-merged
right-merged t c =
    let rules = c.args.orders.now in
    let below = left-below t
    (goal.at.merging::merge_lists-returns-then-is_below-clause-merged t c).In_ok-joined in
    subst (JoinEntries (tuple_order rules) (DoneUnless c.args.passed.now) c.args.left.items
    c.args.right.items) (sym c.in_ok-joined.ensures)
    (join-right (tuple_order rules) (tuple_order-total rules) (DoneUnless c.args.passed.now)
    c.args.left.items c.args.right.items below)

pub left-ok : goal.merging::merge_lists-returns-then-is_below-2-clause-ok
left-ok t c =
    let rules = c.args.orders.now in
    let below = right-below t
    (goal.at.merging::merge_lists-returns-then-is_below-2-clause-ok t c).In_ok-joined-2 in
    merges-none _ _ _ _ refl
    (above-untied (tuple_order rules) (tuple_order-total rules) BelowDiffer c.args.left.items
    c.args.right.items below)
    (above-untied (tuple_order rules) (tuple_order-total rules) EntriesPass c.args.left.items
    c.args.right.items below)

pub left-merged : goal.merging::merge_lists-returns-then-is_below-2-clause-merged
left-merged t c =
    let rules = c.args.orders.now in
    let below = right-below t
    (goal.at.merging::merge_lists-returns-then-is_below-2-clause-merged t c).In_ok-joined-2 in
    subst (JoinEntries (tuple_order rules) (DoneUnless c.args.passed.now) c.args.left.items
    c.args.right.items) (sym c.in_ok-joined-2.ensures)
    (join-left (tuple_order rules) (tuple_order-total rules) (DoneUnless c.args.passed.now)
    c.args.left.items c.args.right.items below)

pub ok : goal.merging::merge_lists-returns-clause-ok
ok t c =
    rw (sym c.from_vec.ensures.items)
    (rw (sym c.from_vec-2.ensures.items) c.merge_ascending.ensures.ok)

pub merged : goal.merging::merge_lists-returns-clause-merged
merged t c =
    rw (sym c.from_vec.ensures.items)
    (rw (sym c.from_vec-2.ensures.items) c.merge_ascending.ensures.merged)
