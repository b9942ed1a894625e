use Rattle.std.proofs.Common.{◌≡◌, Some, None, ap, sym, ◌∙◌}
use Rattle.std.specs.List.{find}
use Rattle.std.proofs.lemmas.List.{take_all}
use Rattle.agg_engine_tree.specs.segment_context.Views.{children_of, is_named}
use Rattle.agg_engine_tree.proofs.lemmas.segment_context.Views.{child-found, find-here, find-more}
use Rattle.agg_engine_tree.proofs.segment_context.node.AggRefNode.get_sub_agg.Goals as goal
use Rattle.agg_engine_tree.proofs.segment_context.node.AggRefNode.get_sub_agg.Goals.{Then-has_name}

-- the child is the first of its name
here : (c : Then-has_name) → Some c.child-item.result
    ≡ find (is_named c.args.pr.now c.args.name.now) (children_of c.args.self.now)
here c =
    sym (find-here (is_named c.args.pr.now c.args.name.now) c.as_slice-child-items.result.now
    c.loop-child.child-index c.child-item.result c.loop-child.invariant c.loop-child-test.true
    c.child-item.is (sym c.has_name.ensures ∙ c.if-has_name.true))
    ∙ ap (λ xs. find (is_named c.args.pr.now c.args.name.now) xs) c.as_slice-child-items.ensures

pub returns-then-has_name-clause-first : goal.returns-then-has_name-clause-first
returns-then-has_name-clause-first c = here c

pub returns-then-has_name-clause-request : goal.returns-then-has_name-clause-request
returns-then-has_name-clause-request c = λ meaning own a.
    child-found meaning c.args.pr.now c.args.name.now own a c.args.self.now
    (Some c.child-item.result) (here c)

pub loop-child-preserved : goal.loop-child-preserved
loop-child-preserved c =
    find-more (is_named c.args.pr.now c.args.name.now) c.as_slice-child-items.result.now
    c.loop-child.child-index c.child-item.result c.loop-child.invariant c.loop-child-test.true
    c.child-item.is (sym c.has_name.ensures ∙ c.if-has_name.false)

pub returns-clause-request : goal.returns-clause-request
returns-clause-request c = λ meaning own a.
    let none : None ≡ find (is_named c.args.pr.now c.args.name.now)
    (children_of c.args.self.now) =
    sym (ap (λ xs. find (is_named c.args.pr.now c.args.name.now) xs)
    (sym c.as_slice-child-items.ensures
    ∙ sym (take_all c.loop-child.child-index c.as_slice-child-items.result.now
    c.loop-child-test.false)) ∙ c.loop-child.invariant) in
    child-found meaning c.args.pr.now c.args.name.now own a c.args.self.now None none
