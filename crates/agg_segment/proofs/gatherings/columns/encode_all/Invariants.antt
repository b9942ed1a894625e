use Rattle.std.proofs.Common.{◌≡◌, ◌++◌, length, map, vec_len}
use Rattle.std.specs.Prelude.{flat_map, reverse}
use Rattle.std.specs.List.{All}
use Rattle.agg_segment.specs.storage.Columns.{column_cells}
use Rattle.agg_segment.specs.Gatherings.{raws, raw_placed, AreWide, gathering_classes}
use Rattle.agg_segment.specs.Gatherings.{column_classes}
use Rattle.agg_segment.specs.storage.GatheredNumbers.{IsRaw}
use Rattle.agg_segment.proofs.gatherings.columns.encode_all.Given as goal

abbrev pub decreases-loop-gathering : goal.decreases-loop-gathering
decreases-loop-gathering l = vec_len l.gatherings

abbrev pub invariant-loop-gathering : goal.invariant-loop-gathering
invariant-loop-gathering l = record {
  each : length l.ordinals.items ≡ length l.texts;
  cells : map (raw_placed l.signs l.texts l.addresses) (raws l.gatherings.items)
      ++ flat_map column_cells (reverse l.columns.items)
      ≡ map (raw_placed l.signs l.texts l.addresses) (raws l.fn.gatherings.items);
  classes : gathering_classes l.gatherings.items ++ column_classes (reverse l.columns.items)
      ≡ gathering_classes l.fn.gatherings.items;
  kept : All (λ r. IsRaw (length l.texts) (length l.addresses) r.class r.number)
      (raws l.gatherings.items);
  wide : AreWide l.signs l.gatherings.items;
}
