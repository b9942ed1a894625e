use Rattle.std.proofs.Common.{◌≡◌, ◌++◌, ◌∷◌, [], map, take}
use Rattle.peslumok_front.specs.declared.tables.columns.TableColumn.TheVariants.{Count}
use Rattle.peslumok_front.specs.front.Columns.{key_column, metric_column}
use Rattle.peslumok_front.proofs.front.columns.all_columns.Given as goal

-- the columns of the sources so far
abbrev pub invariant-loop-by : goal.invariant-loop-by
invariant-loop-by l =
    l.columns ≡ map (key_column l.grouping.types) (take l.by-index l.grouping.by.items)

-- the columns of the sources and the count, and those of the metrics so far
abbrev pub invariant-loop-metric : goal.invariant-loop-metric
invariant-loop-metric l =
    l.columns
    ≡ (map (key_column l.grouping.types) l.grouping.by.items ++ Count ∷ [])
    ++ map (metric_column l.grouping.types) (take l.metric-index l.grouping.metrics.items)
