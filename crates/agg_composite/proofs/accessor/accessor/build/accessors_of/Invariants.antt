use Rattle.std.proofs.Common.{◌≡◌, take}
use Rattle.std.specs.List.{All}
use Rattle.agg_composite.specs.accessor.Accessors.{IsAccessorOf, columns_read}
use Rattle.agg_composite.specs.accessor.Lanes.{columns_of}
use Rattle.agg_composite.proofs.accessor.accessor.build.accessors_of.Given as goal

abbrev pub invariant-loop-column : goal.invariant-loop-column
invariant-loop-column l = record {
  columns : columns_of l.accessors.items
      ≡ columns_read l.source (take l.column-index l.columns);
  each : All (IsAccessorOf l.source) l.accessors.items;
}
