use Rattle.std.proofs.Common.{◌≡◌, ◌-◌, ◌+◌, ℕ, get_or, vec_len}
use Rattle.agg_segment.proofs.gatherings.make_known.Given as goal

abbrev pub decreases-loop-last : goal.decreases-loop-last
decreases-loop-last l = (l.field + 1) - vec_len l.last

abbrev pub invariant-loop-last : goal.invariant-loop-last
invariant-loop-last l = (other : ℕ) → get_or l.last.items other 0
    ≡ get_or l.initial.last.items other 0
