use Rattle.std.proofs.Common.{◌≡◌, ◌+◌, ◌^◌, ◌≤◌, ◌∙◌, sym, subst, true, false, get_or, add-one}
use Rattle.std.proofs.Common.{arith, rules}
use Rattle.std.specs.Ordering.{is_eq, is_lt}
use Rattle.std.proofs.lemmas.Fn.{always_returns_same}
use Rattle.std.proofs.lemmas.List.Sorted.{ranks_by}
use Rattle.agg_heap_map.proofs.InsertionTurns.{tied}
use Rattle.agg_composite.proofs.lemmas.tuple_counts.CountSums.{two-within}
use Rattle.agg_composite.proofs.lemmas.tuple_counts.GroupSteps.{AreGrouped, grouped-again}
use Rattle.agg_composite.proofs.lemmas.tuple_counts.GroupSteps.{grouped-all, grouped-first}
use Rattle.agg_composite.proofs.lemmas.tuple_counts.GroupSteps.{grouped-joined, grouped-next}
use Rattle.agg_composite.proofs.lemmas.tuple_counts.GroupSteps.{same-next}
use Rattle.agg_composite.proofs.tuple_counts.grouped.grouped.Goals as goal

pub loop-next-init : goal.loop-next-init
loop-next-init g c =
    let R = g.S.Ord.cmp in
    let met = g.met.S in
    let sorted = c.sort_unstable_by.ensures.sorted (λ a b. is_lt (R a.0 b.0))
    (ranks_by met.Ord.total (λ e. e.0))
    (always_returns_same _ _ _ (λ a r f called. search rules)) in
    rw (c.new-groups.ensures.items, c.into_iter-next-iterator.ensures.into_iter_gives)
    (grouped-first R met.Ord.total c.args.counts.items c.requires.exact
    c.sort_unstable_by.new.self.items c.sort_unstable_by.ensures.permutation
    (λ k d within.
    subst (λ i. is_lt (R (get_or c.sort_unstable_by.new.self.items i d).0
    (get_or c.sort_unstable_by.new.self.items k d).0) ≡ false) (add-one k)
    (sorted k d (omega arith) (omega (arith, within)))) c.in-Some.tuple
    c.in-Some.count c.next.new.self (sym c.new-rest.ensures ∙ c.in-Some.ensures.steps))

pub loop-next-preserved-then-eq : goal.loop-next-preserved-then-eq
loop-next-preserved-then-eq g c =
    let R = g.S.Ord.cmp in
    let met = g.met.S in
    let here = c.loop-next in
    let all = c.args.counts.items in
    let next = c.in-Some-2.next in
    let left = c.next-in-loop-next.new.self in
    let equal : is_eq (R next here.tuple) ≡ true =
    sym (met.Ord.matches_eq next here.tuple) ∙ sym c.eq.ensures ∙ c.if-eq.true in
    let more : c.in_ok-count.count ≡ here.count + c.in-Some-2.more = search rules in
    subst (λ n. AreGrouped R met.Ord.total all here.groups.items here.tuple n left) (sym more)
    (grouped-joined R met.Ord.total all here.groups.items here.tuple here.count here.next-iterator
    here.invariant next c.in-Some-2.more left c.in-Some-2.ensures.steps c.requires.exact
    (tied (R next here.tuple) equal))

pub loop-next-preserved : goal.loop-next-preserved
loop-next-preserved g c =
    let R = g.S.Ord.cmp in
    let met = g.met.S in
    let here = c.loop-next in
    let next = c.in-Some-2.next in
    let left = c.next-in-loop-next.new.self in
    let apart : is_eq (R next here.tuple) ≡ false =
    sym (met.Ord.matches_eq next here.tuple) ∙ sym c.eq.ensures ∙ c.if-eq.false in
    rw (
      c.in_ok-push.ensures.items,
      c.replace.ensures.value,
      c.replace.ensures.after,
      c.replace-else-eq.ensures.value,
      c.replace-else-eq.ensures.after,
    )
    (grouped-next R met.Ord.total c.args.counts.items here.groups.items here.tuple here.count
    here.next-iterator here.invariant next c.in-Some-2.more left c.in-Some-2.ensures.steps apart)

pub returns-clause-ok : goal.returns-clause-ok
returns-clause-ok g c =
    c.in_ok-push-2.ensures.items
    ∙ grouped-all g.S.Ord.cmp g.met.S.Ord.total c.args.counts.items c.loop-next.groups.items
    c.loop-next.tuple c.loop-next.count c.loop-next.next-iterator c.loop-next.invariant
    c.in-None.ensures.steps.0

pub returns-clause-again : goal.returns-clause-again
returns-clause-again g c =
    rw c.in_ok-push-2.ensures.items
    (grouped-again g.S.Ord.cmp g.met.S.Ord.total c.args.counts.items c.loop-next.groups.items
    c.loop-next.tuple c.loop-next.count c.loop-next.next-iterator c.loop-next.invariant)

pub returns-in_err-count-clause-too_many : goal.returns-in_err-count-clause-too_many
returns-in_err-count-clause-too_many g c =
    let R = g.S.Ord.cmp in
    let here = c.loop-next in
    let over : 2 ^ 64 ≤ here.count + c.in-Some-2.more = search rules in
    let within = two-within R c.args.counts.items here.groups.items c.next-in-loop-next.new.self
    here.tuple c.in-Some-2.next here.count c.in-Some-2.more
    (same-next R g.met.S.Ord.total c.args.counts.items here.groups.items here.tuple here.count
    here.next-iterator here.invariant c.in-Some-2.next c.in-Some-2.more
    c.next-in-loop-next.new.self c.in-Some-2.ensures.steps) in
    λ e. omega (arith, over, within)
