use Rattle.std.proofs.Common.{◌≡◌, ◌++◌, ap}
use Rattle.agg_values.proofs.AscendingKeys.{copied-more}
use Rattle.agg_values.proofs.after_key.copied_after_key.Goals as goal
use Rattle.agg_values.proofs.after_key.copied_after_key.Goals.{In_ok-insert}

-- one entry more is copied
more : (c : In_ok-insert) → c.args.after.now ≡ c.insert.new.self ++ c.next.new.self
more c =
    copied-more c.args.after.now c.loop-source.copy c.loop-source.source-iterator c.next.new.self
    c.insert.new.self c.in-Some.source.now c.in_ok-try_clone.field-0 c.in-Some.key.now
    (record { 0 = c.in_ok-try_clone-2.field-0 }) c.iter-source-items.ensures.ascending
    c.loop-source.invariant c.in-Some.ensures.steps c.in_ok-insert.ensures.ok
    c.in_ok-try_clone.ensures (ap (λ k. record { 0 = k }) c.in_ok-try_clone-2.ensures)

pub loop-source-preserved-in_ok-insert : goal.loop-source-preserved-in_ok-insert
loop-source-preserved-in_ok-insert c =
    more (goal.at.loop-source-preserved-in_ok-insert c).In_ok-insert

pub loop-source-preserved-in_ok-insert-2 : goal.loop-source-preserved-in_ok-insert-2
loop-source-preserved-in_ok-insert-2 c =
    more (goal.at.loop-source-preserved-in_ok-insert-2 c).In_ok-insert

pub loop-source-preserved : goal.loop-source-preserved
loop-source-preserved c = more (goal.at.loop-source-preserved c).In_ok-insert
