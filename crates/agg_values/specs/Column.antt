-- The classes of keys, and their ranks.
use Rattle.std.specs.Prelude.{ℕ, Option, Some, None}
use Rattle.std.specs.Option.{option_map_or}
use Rattle.agg_values.specs.declared.column.ColumnPaginationOrder.{ColumnPaginationOrder}
use Rattle.agg_values.specs.declared.column.ColumnPaginationOrder.TheVariants as class
use Rattle.agg_values.specs.TypedKey.{CompositeIntermediateKey}
use Rattle.agg_values.specs.TypedKey.key as key
use Rattle.agg_values.specs.declared.composite_key.CompositeKey.{CompositeKey}
use Rattle.agg_values.specs.declared.composite_key.CompositeKey.TheVariants as shown

-- the class of a key; Null has none
abbrev pub class_of : CompositeIntermediateKey → Option ColumnPaginationOrder
class_of (key.Bool b) = Some class.Bool
class_of (key.Str text) = Some class.Str
class_of (key.I64 n) = Some class.Numeric
class_of (key.U64 n) = Some class.Numeric
class_of (key.IpAddr address) = Some class.IpAddr
class_of (key.DateTime ns) = Some class.DateTime
class_of key.Null = None

-- the rank of a class
abbrev pub order_rank : ColumnPaginationOrder → ℕ
order_rank class.Bool = 1
order_rank class.Str = 2
order_rank class.Numeric = 3
order_rank class.IpAddr = 4
order_rank class.DateTime = 5

-- the rank of a key's class; Null has none, and stands at 0
abbrev pub class_rank : CompositeIntermediateKey → ℕ
class_rank key = option_map_or order_rank (class_of key) 0

-- the class of a shown key; Null has none
abbrev pub shown_class_of : CompositeKey → Option ColumnPaginationOrder
shown_class_of (shown.Bool b) = Some class.Bool
shown_class_of (shown.Str text) = Some class.Str
shown_class_of (shown.I64 n) = Some class.Numeric
shown_class_of (shown.U64 n) = Some class.Numeric
shown_class_of shown.Null = None
