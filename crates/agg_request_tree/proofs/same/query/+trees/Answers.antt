use Rattle.std.proofs.Common.{rules, arith, drop, length, ◌≤◌, ◌+◌, ◌∷◌, ap, sym, ◌∙◌}
use Rattle.std.proofs.lemmas.List.{drop_all, drop_more, nil_from_length}
use Rattle.agg_request_tree.proofs.Pairs.{none-compared, one-ended, one-same, other-left}
use Rattle.agg_request_tree.proofs.same.query.+trees.Goals as goal

pub are_same_trees-loop-tree-init : goal.are_same_trees-loop-tree-init
are_same_trees-loop-tree-init t c =
    none-compared c.args.trees.now c.args.others.now c.as_slice-tree-items.result.now
    c.iter-others.result.rest.now c.as_slice-tree-items.ensures
    (c.iter-others.ensures.rest ∙ c.as_slice.ensures)

pub are_same_trees-returns-in_default : goal.are_same_trees-returns-in_default
are_same_trees-returns-in_default t c =
    let items = c.as_slice-tree-items.result.now in
    let i = c.loop-tree.tree-index in
    let more = drop_more items i c.tree-item.result c.loop-tree-test.true in
    other-left c.args.trees.now c.args.others.now (drop i items) c.loop-tree.others.rest.now
    c.loop-tree.invariant
    (λ same. absurd (search (rules, more, c.in_default.ensures.steps.0, same)))

pub are_same_trees-returns-then-not-is_same_tree :
    goal.are_same_trees-returns-then-not-is_same_tree
are_same_trees-returns-then-not-is_same_tree t c =
    let items = c.as_slice-tree-items.result.now in
    let i = c.loop-tree.tree-index in
    let more = drop_more items i c.tree-item.result c.loop-tree-test.true in
    other-left c.args.trees.now c.args.others.now (drop i items) c.loop-tree.others.rest.now
    c.loop-tree.invariant (λ same. absurd (search (rules, more, c.in-Some.ensures.steps, same)))

pub are_same_trees-loop-tree-preserved : goal.are_same_trees-loop-tree-preserved
are_same_trees-loop-tree-preserved t c =
    let items = c.as_slice-tree-items.result.now in
    let i = c.loop-tree.tree-index in
    let more = drop_more items i c.tree-item.result c.loop-tree-test.true in
    one-same c.args.trees.now c.args.others.now (drop i items) c.loop-tree.others.rest.now
    c.tree-item.result c.in-Some.other.now (drop (i + 1) items) c.next.new.self.rest.now
    c.loop-tree.invariant (more ∙ ap (λ x. x ∷ drop (i + 1) items) (sym c.tree-item.is))
    c.in-Some.ensures.steps (search rules)

pub are_same_trees-returns : goal.are_same_trees-returns
are_same_trees-returns t c =
    let items = c.as_slice-tree-items.result.now in
    let rest = c.loop-tree.others.rest.now in
    let past : length items ≤ c.loop-tree.tree-index = omega (arith, c.loop-tree-test.false) in
    one-ended c.args.trees.now c.args.others.now (drop c.loop-tree.tree-index items) rest
    c.next-2.result c.is_none.result c.loop-tree.invariant
    (drop_all c.loop-tree.tree-index items past) c.is_none.ensures c.next-2.ensures.steps
    (λ ended. nil_from_length rest ended.0) (λ x more none. absurd (cc (more, none)))
