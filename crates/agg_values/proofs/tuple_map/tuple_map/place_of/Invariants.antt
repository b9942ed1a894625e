use Rattle.std.proofs.Common.{◌≡◌, ◌-◌, ◌<◌, ◌≤◌, length, Less, Greater}
use Rattle.std.specs.List.{AllWithin}
use Rattle.agg_values.specs.KeyOrder.{tuple_order}
use Rattle.agg_values.proofs.tuple_map.tuple_map.place_of.Given as goal

abbrev pub decreases-loop-low : goal.decreases-loop-low
decreases-loop-low g l = l.high - l.low

abbrev pub invariant-loop-low : goal.invariant-loop-low
invariant-loop-low g l = record {
  up : l.low ≤ l.high;
  within : l.high ≤ length l.entries;
  probed : l.low ≤ l.probe;
  inside : l.low < l.high → l.probe < l.high;
  lower : AllWithin (λ e. tuple_order l.orders e.0 l.key ≡ Less) l.entries 0 l.low;
  higher : AllWithin (λ e. tuple_order l.orders e.0 l.key ≡ Greater) l.entries l.high
      (length l.entries);
}
