-- What columns show.
use Rattle.std.specs.Prelude.{ℕ, List, Bool, true, false, codes}
use Rattle.peslumok_front.specs.declared.tables.columns.TableColumn.{TableColumn}
use Rattle.peslumok_front.specs.declared.tables.columns.TableColumn.TheVariants as column

-- what stands above a column
abbrev pub header_of : TableColumn → List ℕ
header_of (column.Key name of) = name
header_of column.Count = codes "count"
header_of (column.Metric name of) = name

-- whether a column shows a key
abbrev pub is_key : TableColumn → Bool
is_key (column.Key name of) = true
is_key column.Count = false
is_key (column.Metric name of) = false
