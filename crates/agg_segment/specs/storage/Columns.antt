-- Columns of numbers, and the keys that they stand for.
use Rattle.std.specs.Prelude.{◌≡◌, ◌==◌, ◌<◌, ◌≤◌, ◌^◌, pos, ◌-ℤ◌, ℕ}
use Rattle.std.specs.Prelude.{List, [], AllPairs, map, filter, length, flat_map}
use Rattle.std.specs.List.{All, Contains}
use Rattle.std.specs.Map.{values_of}
use Rattle.std.specs.Ordering.{nat_cmp}
use Rattle.agg_values.specs.Column.{order_rank}
use Rattle.agg_values.specs.KeyOrder.{ascending_order}
use Rattle.agg_values.specs.TypedKey.{typed_number}
use Rattle.agg_values.specs.declared.address.Address.{Address}
use Rattle.agg_values.specs.declared.column.ColumnPaginationOrder.{ColumnPaginationOrder}
use Rattle.agg_values.specs.declared.column.ColumnPaginationOrder.TheVariants as class
use Rattle.agg_values.specs.TypedKey.{CompositeIntermediateKey}
use Rattle.agg_values.specs.declared.typed_key.CompositeIntermediateKey.TheVariants as key
use Rattle.agg_segment.specs.storage.Cells.{Placed}
use Rattle.agg_segment.specs.SegmentLimits.{sign_of}
use Rattle.agg_segment.specs.storage.Dictionary.{text_at, address_at}
use Rattle.agg_segment.specs.declared.storage.keys.ColumnKeys.{ColumnKeys}
use Rattle.agg_segment.specs.declared.storage.keys.ColumnKeys.TheVariants.{Bools, Texts, Signed}
use Rattle.agg_segment.specs.declared.storage.keys.ColumnKeys.TheVariants.{Unsigned, Addresses}
use Rattle.agg_segment.specs.declared.storage.keys.ColumnKeys.TheVariants.{Dates}
use Rattle.agg_segment.specs.declared.storage.hit.ColumnType.{ColumnType}
use Rattle.agg_segment.specs.declared.storage.hit.ColumnType.TheVariants as kind
use Rattle.agg_segment.specs.declared.storage.sign.Sign.TheVariants.{Large}

-- a column: the number of its field, what its numbers stand for, and each document's in order
pub record StoredColumn : Type 0 where
  pub field : ℕ
  pub keys : ColumnKeys
  pub cells : List (ℕ × ℕ)

-- the key that a number stands for
abbrev pub encoded_key : ColumnKeys → ℕ → CompositeIntermediateKey
encoded_key Bools n = key.Bool (n == 1)
encoded_key (Texts texts) n = key.Str (text_at texts n)
encoded_key Signed n = key.I64 (pos n -ℤ pos (2 ^ 63))
encoded_key Unsigned n = typed_number (pos n)
encoded_key (Addresses addresses) n = key.IpAddr (address_at addresses n)
encoded_key Dates n = key.DateTime (pos n -ℤ pos (2 ^ 63))

-- the numbers that stand for a key
abbrev pub StandsForKey : ColumnKeys → ℕ → Type 0
StandsForKey Bools n = n < 2
StandsForKey (Texts texts) n = n < length texts
StandsForKey (Addresses addresses) n = n < length addresses
StandsForKey _ n = n < 2 ^ 64

-- the keys that numbers stand for compare as the numbers do
abbrev pub AreInKeyOrder : ColumnKeys → Type 0
AreInKeyOrder keys =
    (left right : ℕ) → StandsForKey keys left → StandsForKey keys right
    → ascending_order (encoded_key keys left) (encoded_key keys right) ≡ nat_cmp left right

-- the type of a column
abbrev pub type_of : ColumnKeys → ColumnType
type_of Bools = kind.Bool
type_of (Texts texts) = kind.Str
type_of Signed = kind.I64
type_of Unsigned = kind.U64
type_of (Addresses addresses) = kind.IpAddr
type_of Dates = kind.DateTime

-- the class of the keys of a column of a type
abbrev pub type_class : ColumnType → ColumnPaginationOrder
type_class kind.Bool = class.Bool
type_class kind.Str = class.Str
type_class kind.I64 = class.Numeric
type_class kind.U64 = class.Numeric
type_class kind.IpAddr = class.IpAddr
type_class kind.DateTime = class.DateTime

-- the rank of the class of its keys
abbrev pub keys_rank : ColumnKeys → ℕ
keys_rank keys = order_rank (type_class (type_of keys))

-- the numbers of a document
abbrev pub numbers_at : List (ℕ × ℕ) → ℕ → List ℕ
numbers_at cells doc = values_of (filter (λ c. c.0 == doc) cells)

-- the keys of a document in a column
abbrev pub column_keys : StoredColumn → ℕ → List CompositeIntermediateKey
column_keys column doc = map (encoded_key column.keys) (numbers_at column.cells doc)

-- the keys of a document in all columns of a field
abbrev pub all_keys : List StoredColumn → ℕ → List CompositeIntermediateKey
all_keys columns doc = flat_map (λ column. column_keys column doc) columns

-- what the numbers of a column stand for
abbrev pub column_cells : StoredColumn → List Placed
column_cells column =
    map (λ c. record { field = column.field; doc = c.0; key = encoded_key column.keys c.1 })
    column.cells

-- the texts of a column of texts
abbrev pub texts_of : ColumnKeys → List (List ℕ)
texts_of (Texts texts) = texts
texts_of _ = []

-- the texts that ordinals stand for in a column of texts
abbrev pub named_texts : ColumnKeys → List ℕ → List (List ℕ)
named_texts keys ordinals = map (text_at (texts_of keys)) ordinals

-- the addresses of a column of addresses
abbrev pub addresses_of : ColumnKeys → List Address
addresses_of (Addresses addresses) = addresses
addresses_of _ = []

-- each number stands for a key
abbrev pub StandForKeys : StoredColumn → Type 0
StandForKeys column = All (λ c. StandsForKey column.keys c.1) column.cells

-- a column that is unsigned has a number above those of an i64
abbrev pub IsWideForCause : StoredColumn → Type 0
IsWideForCause column =
    column.keys ≡ Unsigned → Contains (map (λ p. sign_of p.key) (column_cells column)) Large

-- what is true of a column: each number stands for a key, and the type is no wider than needed
abbrev pub IsColumn : StoredColumn → Type 0
IsColumn column = StandForKeys column × IsWideForCause column

-- a column before another: of a field before, or of the same and a class before
abbrev pub IsColumnBefore : StoredColumn → StoredColumn → Type 0
IsColumnBefore c d = (c.field ≤ d.field) × (c.field ≡ d.field → keys_rank c.keys < keys_rank d.keys)

-- columns by field and class, one for each
abbrev pub AreInOrder : List StoredColumn → Type 0
AreInOrder columns = AllPairs IsColumnBefore columns

-- columns by class, one for each
abbrev pub ClassesAscend : List StoredColumn → Type 0
ClassesAscend columns = AllPairs (λ c d. keys_rank c.keys < keys_rank d.keys) columns
