use Rattle.std.proofs.Common.{rules, ◌∙◌}
use Rattle.agg_request_tree.proofs.Pairs.{none-compared, one-ended, one-same, other-left}
use Rattle.agg_request_tree.proofs.same.composite.are_same_keys.Goals as goal

pub loop-entry-init : goal.loop-entry-init
loop-entry-init c =
    none-compared c.args.after.now c.args.other.now c.into_iter-entry-iterator.result
    c.iter-others.result
    (c.into_iter-entry-iterator.ensures.into_iter_gives ∙ c.iter-entry-items.ensures.entries)
    c.iter-others.ensures.entries

pub returns-in_default : goal.returns-in_default
returns-in_default c =
    other-left c.args.after.now c.args.other.now c.loop-entry.entry-iterator c.loop-entry.others
    c.loop-entry.invariant
    (λ same. absurd (search (rules, c.in_default.ensures.steps.0, c.in-Some.ensures.steps, same)))

pub returns-then-ne : goal.returns-then-ne
returns-then-ne c =
    other-left c.args.after.now c.args.other.now c.loop-entry.entry-iterator c.loop-entry.others
    c.loop-entry.invariant
    (λ same. absurd (search (rules, c.in-Some.ensures.steps, c.in-Some-next.ensures.steps, same)))

pub loop-entry-preserved : goal.loop-entry-preserved
loop-entry-preserved c =
    one-same c.args.after.now c.args.other.now c.loop-entry.entry-iterator c.loop-entry.others
    (c.in-Some.entry.0.now, c.in-Some.entry.1.now)
    (c.in-Some-next.other.0.now, c.in-Some-next.other.1.now) c.next.new.self
    c.next-in-loop-entry.new.self c.loop-entry.invariant c.in-Some.ensures.steps
    c.in-Some-next.ensures.steps (search rules)

pub returns : goal.returns
returns c =
    one-ended c.args.after.now c.args.other.now c.loop-entry.entry-iterator c.loop-entry.others
    c.next-2.result c.is_none.result c.loop-entry.invariant c.in-None.ensures.steps.0
    c.is_none.ensures c.next-2.ensures.steps (λ ended. ended.0)
    (λ x more none. absurd (cc (more, none)))
