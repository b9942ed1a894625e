-- The classes of columns beside those of keys.
use Rattle.std.specs.Prelude.{◌≡◌, Bool, ⊤}
use Rattle.std.specs.Ordering.{is_lt}
use Rattle.agg_values.specs.Column.{class_rank}
use Rattle.agg_values.specs.TypedKey.{CompositeIntermediateKey}
use Rattle.agg_values.specs.declared.typed_key.CompositeIntermediateKey.TheVariants as key
use Rattle.agg_values.specs.declared.order.Order.{Order}
use Rattle.agg_segment.specs.storage.Columns.{keys_rank}
use Rattle.agg_segment.specs.declared.storage.keys.ColumnKeys.{ColumnKeys}
use Rattle.agg_composite.specs.accessor.Lanes.{class_order}

-- whether a column's keys come before a key by their class, in the requested order
abbrev pub is_of_class_before : Order → CompositeIntermediateKey → ColumnKeys → Bool
is_of_class_before order k keys = is_lt (class_order order (keys_rank keys) (class_rank k))

-- a key is a whole number or Null
abbrev pub IsNumberOrNull : CompositeIntermediateKey → Type 0
IsNumberOrNull (key.I64 n) = ⊤
IsNumberOrNull (key.U64 n) = ⊤
IsNumberOrNull key.Null = ⊤
IsNumberOrNull _ = ⊥

-- a column's keys are of the class of a key
abbrev pub HasClassOf : ColumnKeys → CompositeIntermediateKey → Type 0
HasClassOf keys k = keys_rank keys ≡ class_rank k
