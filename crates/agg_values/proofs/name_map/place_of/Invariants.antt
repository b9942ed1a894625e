use Rattle.std.proofs.Common.{◌≡◌, ◌-◌, ◌≤◌, length, Less, Greater}
use Rattle.std.specs.List.{AllWithin}
use Rattle.agg_values.specs.Names.{name_cmp}
use Rattle.agg_values.proofs.name_map.place_of.Given as goal

abbrev pub decreases-loop-low : goal.decreases-loop-low
decreases-loop-low g l = l.high - l.low

abbrev pub invariant-loop-low : goal.invariant-loop-low
invariant-loop-low g l = record {
  up : l.low ≤ l.high;
  within : l.high ≤ length l.entries;
  lower : AllWithin (λ e. name_cmp e.0 l.name ≡ Less) l.entries 0 l.low;
  higher : AllWithin (λ e. name_cmp e.0 l.name ≡ Greater) l.entries l.high (length l.entries);
}
