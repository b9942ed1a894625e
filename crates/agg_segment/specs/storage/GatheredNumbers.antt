-- Numbers as they are gathered, and what a column can encode of them.
use Rattle.std.specs.Prelude.{◌==◌, ◌<◌, ◌+◌, ◌^◌, ◌-ℤ◌, pos}
use Rattle.std.specs.Prelude.{ℕ, List, length, map, if◌then◌else◌, nat_lt}
use Rattle.std.specs.List.{Contains}
use Rattle.agg_values.specs.declared.address.Address.{Address}
use Rattle.agg_values.specs.declared.column.ColumnPaginationOrder.{ColumnPaginationOrder}
use Rattle.agg_values.specs.declared.column.ColumnPaginationOrder.TheVariants as class
use Rattle.agg_values.specs.TypedKey.{CompositeIntermediateKey}
use Rattle.agg_values.specs.declared.typed_key.CompositeIntermediateKey.TheVariants as key
use Rattle.agg_segment.specs.storage.Dictionary.{text_at, address_at, HasOrdinal}
use Rattle.agg_segment.specs.declared.storage.keys.ColumnKeys.{ColumnKeys}
use Rattle.agg_segment.specs.declared.storage.keys.ColumnKeys.TheVariants.{Bools, Texts, Addresses}
use Rattle.agg_segment.specs.declared.storage.hit.ColumnType.{ColumnType}
use Rattle.agg_segment.specs.declared.storage.hit.ColumnType.TheVariants as kind
use Rattle.agg_segment.specs.declared.storage.sign.Sign.{Sign}
use Rattle.agg_segment.specs.declared.storage.sign.Sign.TheVariants.{Small, Negative, Large}

-- the key that a number stands for: a text's and an address's is its place
abbrev pub raw_key : List (List ℕ) → List Address → ColumnType → ℕ → CompositeIntermediateKey
raw_key texts addresses kind.Bool n = key.Bool (n == 1)
raw_key texts addresses kind.Str n = key.Str (text_at texts n)
raw_key texts addresses kind.I64 n = key.I64 (pos n -ℤ pos (2 ^ 63))
raw_key texts addresses kind.U64 n =
    if nat_lt n (2 ^ 63) then key.U64 (n + 2 ^ 63) else key.I64 (pos n -ℤ pos (2 ^ 63))
raw_key texts addresses kind.IpAddr n = key.IpAddr (address_at addresses n)
raw_key texts addresses kind.DateTime n = key.DateTime (pos n -ℤ pos (2 ^ 63))

-- the type of a column of a class, whose field has a sign
abbrev pub kind_of : Sign → ColumnPaginationOrder → ColumnType
kind_of sign class.Bool = kind.Bool
kind_of sign class.Str = kind.Str
kind_of Large class.Numeric = kind.U64
kind_of Small class.Numeric = kind.I64
kind_of Negative class.Numeric = kind.I64
kind_of sign class.IpAddr = kind.IpAddr
kind_of sign class.DateTime = kind.DateTime

-- the numbers that a class may have, of so many texts and addresses
abbrev pub IsRaw : ℕ → ℕ → ColumnPaginationOrder → ℕ → Type 0
IsRaw texts addresses class.Bool n = n < 2
IsRaw texts addresses class.Str n = n < texts
IsRaw texts addresses class.Numeric n = n < 2 ^ 64
IsRaw texts addresses class.IpAddr n = n < addresses
IsRaw texts addresses class.DateTime n = n < 2 ^ 64

-- documents with the keys of their numbers
abbrev pub keyed_rows
    : (ℕ → CompositeIntermediateKey) → List (ℕ × ℕ) → List (ℕ × CompositeIntermediateKey)
keyed_rows key_of rows = map {B = ℕ × CompositeIntermediateKey} (λ r. (r.0, key_of r.1)) rows

-- a number that a column may have one for: a text's place has its ordinal, an address is listed
abbrev pub IsEncodable
    : List (List ℕ) → List ℕ → List Address → ColumnKeys → ℕ → Type 0
IsEncodable texts ordinals addresses Bools n = n < 2
IsEncodable texts ordinals addresses (Texts dictionary) n =
    (n < length ordinals) × HasOrdinal texts dictionary ordinals n
IsEncodable texts ordinals addresses (Addresses list) n =
    (n < length addresses) × Contains list (address_at addresses n)
IsEncodable texts ordinals addresses _ n = n < 2 ^ 64
