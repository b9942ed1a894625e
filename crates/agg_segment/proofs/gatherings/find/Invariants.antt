use Rattle.std.proofs.Common.{◌≡◌, ◌<◌, ◌≤◌, ◌-◌, ℕ, length, get_or}
use Rattle.agg_segment.specs.Gatherings.{IsColumnOf}
use Rattle.agg_segment.specs.declared.gatherings.Gathering.{Gathering}
use Rattle.agg_segment.proofs.gatherings.find.Given as goal

abbrev pub decreases-loop-head : goal.decreases-loop-head
decreases-loop-head l = l.head

abbrev pub invariant-loop-head : goal.invariant-loop-head
invariant-loop-head l = record {
  within : l.head ≤ length l.columns;
  is : (g : Gathering) → 0 < l.head → (get_or l.columns (l.head - 1) g).field ≡ l.field;
  none : (k : ℕ) (g : Gathering) → l.head ≤ k → k < length l.columns
      → IsColumnOf l.field l.class (get_or l.columns k g) → ⊥;
}
