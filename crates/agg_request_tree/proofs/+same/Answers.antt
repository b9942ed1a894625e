use Rattle.std.proofs.Common.{rules, refl, ap, not, true≢false, ◌∙◌}
use Rattle.std.specs.Cmp.Lexicographic.{bytes_decides}
use Rattle.agg_request_tree.proofs.SameRequests.{all-compared, all-left, apart, first-apart}
use Rattle.agg_request_tree.proofs.SameRequests.{none-left}
use Rattle.agg_request_tree.proofs.SameRequests.{one-more, same-out}
use Rattle.agg_request_tree.proofs.+same.Goals as goal

pub aggregation::Aggregation::same_as-returns-then-is_same_kind :
    goal.aggregation::Aggregation::same_as-returns-then-is_same_kind
aggregation::Aggregation::same_as-returns-then-is_same_kind g t c =
    same-out c.args.self.now c.args.other.now c.are_same.result (search rules)
    c.are_same.ensures

pub same::are_same-loop-name-init : goal.same::are_same-loop-name-init
same::are_same-loop-name-init g t c =
    all-left c.args.request.now c.args.other.now c.into_iter-name-iterator.result
    c.iter-others.result
    (c.into_iter-name-iterator.ensures.into_iter_gives ∙ c.iter-name-items.ensures.entries)
    c.iter-others.ensures.entries

pub same::are_same-returns-in_default : goal.same::are_same-returns-in_default
same::are_same-returns-in_default g t c =
    apart c.args.request.now c.args.other.now c.loop-name.name-iterator c.loop-name.others
    c.loop-name.invariant
    (none-left c.loop-name.name-iterator c.loop-name.others c.in-Some.name.now
    c.in-Some.aggregation.now c.next.new.self c.in-Some.ensures.steps
    c.in_default.ensures.steps.0)

pub same::are_same-returns-then-ne : goal.same::are_same-returns-then-ne
same::are_same-returns-then-ne g t c =
    apart c.args.request.now c.args.other.now c.loop-name.name-iterator c.loop-name.others
    c.loop-name.invariant
    (first-apart c.loop-name.name-iterator c.loop-name.others c.in-Some.name.now
    c.in-Some-next.other_name.now c.in-Some.aggregation.now c.in-Some-next.other_aggregation.now
    c.next.new.self c.next-in-loop-name.new.self c.in-Some.ensures.steps
    c.in-Some-next.ensures.steps
    (λ same. true≢false (c.if-ne.ensures
    ∙ ap not ((bytes_decides c.in-Some.name.now c.in-Some-next.other_name.now).1 same.0))))

pub same::are_same-returns-then-not-same_as : goal.same::are_same-returns-then-not-same_as
same::are_same-returns-then-not-same_as g t c =
    apart c.args.request.now c.args.other.now c.loop-name.name-iterator c.loop-name.others
    c.loop-name.invariant
    (first-apart c.loop-name.name-iterator c.loop-name.others c.in-Some.name.now
    c.in-Some-next.other_name.now c.in-Some.aggregation.now c.in-Some-next.other_aggregation.now
    c.next.new.self c.next-in-loop-name.new.self c.in-Some.ensures.steps
    c.in-Some-next.ensures.steps (λ same. absurd (cc (c.if-not-same_as.ensures.1 same.1))))

pub same::are_same-loop-name-preserved : goal.same::are_same-loop-name-preserved
same::are_same-loop-name-preserved g t c =
    one-more c.args.request.now c.args.other.now c.loop-name.name-iterator c.loop-name.others
    c.in-Some.name.now c.in-Some-next.other_name.now c.in-Some.aggregation.now
    c.in-Some-next.other_aggregation.now c.next.new.self c.next-in-loop-name.new.self
    c.loop-name.invariant c.in-Some.ensures.steps c.in-Some-next.ensures.steps (search rules)
    (c.if-not-same_as.ensures.0 refl)

pub same::are_same-returns : goal.same::are_same-returns
same::are_same-returns g t c =
    all-compared c.args.request.now c.args.other.now c.loop-name.name-iterator
    c.loop-name.others c.next-2.result c.is_none.result c.loop-name.invariant
    c.in-None.ensures.steps.0 c.is_none.ensures c.next-2.ensures.steps (λ ended. ended.0)
    (λ x more none. absurd (cc (more, none)))
