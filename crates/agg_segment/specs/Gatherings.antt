-- Numbers of fields and classes, while more may come.
use Rattle.std.specs.Prelude.{◌≡◌, ◌≢◌, ◌==◌, ◌&&◌, ◌<◌, ◌≤◌, ◌-◌, ◌^◌}
use Rattle.std.specs.Prelude.{ℕ, Bool, List, ◌++◌, length, get_or, map, filter, flat_map}
use Rattle.std.specs.Prelude.{nat_lt}
use Rattle.std.specs.List.{All, AllPairs, Contains}
use Rattle.std.specs.Map.{values_of}
use Rattle.std.specs.Ordering.{nat_cmp, ordering_then}
use Rattle.std.specs.declared.cmp.Ordering.{Ordering}
use Rattle.agg_values.specs.declared.address.Address.{Address}
use Rattle.agg_values.specs.declared.column.ColumnPaginationOrder.{ColumnPaginationOrder}
use Rattle.agg_values.specs.declared.column.ColumnPaginationOrder.TheVariants as class
use Rattle.agg_segment.specs.storage.Cells.{Placed}
use Rattle.agg_values.specs.Column.{order_rank}
use Rattle.agg_segment.specs.storage.Columns.{StoredColumn, keys_rank}
use Rattle.agg_segment.specs.storage.GatheredNumbers.{raw_key, kind_of}
use Rattle.agg_segment.specs.declared.gatherings.Gathering.{Gathering}
use Rattle.agg_segment.specs.declared.storage.run.RunKind.{RunKind}
use Rattle.agg_segment.specs.declared.storage.sign.Sign.{Sign}
use Rattle.agg_segment.specs.declared.storage.sign.Sign.TheVariants.{Small, Large}

-- a number of a document, in the column of a field and a class
pub record Raw : Type 0 where
  pub field : ℕ
  pub class : ColumnPaginationOrder
  pub doc : ℕ
  pub number : ℕ

-- the numbers of a column
abbrev pub column_raws : Gathering → List Raw
column_raws column =
    map (λ r. record { field = column.field; class = column.class; doc = r.0; number = r.1 })
    column.rows

-- the numbers of columns
abbrev pub raws : List Gathering → List Raw
raws columns = flat_map column_raws columns

-- whether a number is of a field, a class and a document
abbrev pub is_raw_of : ℕ → ℕ → ℕ → Raw → Bool
is_raw_of field rank doc r = (r.field == field) && (order_rank r.class == rank) && (r.doc == doc)

-- the numbers of each field, class and document are the same, and in the same order
abbrev pub AreAlike : List Raw → List Raw → Type 0
AreAlike xs ys =
    (field rank doc : ℕ)
    → filter (is_raw_of field rank doc) xs ≡ filter (is_raw_of field rank doc) ys

-- a column without the numbers of a document and of those after it
abbrev pub forgotten : ℕ → Gathering → Gathering
forgotten doc column = record {
  field = column.field;
  class = column.class;
  before = column.before;
  rows = filter (λ r. nat_lt r.0 doc) column.rows;
}

-- a number is of the column of a field and a class
abbrev pub IsOfColumn : ℕ → ColumnPaginationOrder → Raw → Type 0
IsOfColumn field class r = (r.field ≡ field) × (r.class ≡ class)

-- numbers are put after the others of their column
pub record ArePutInto (old : List Raw) (field : ℕ) (class : ColumnPaginationOrder)
    (rs new : List Raw)
    : Type 0 where
  pub before : List Raw
  pub after : List Raw
  pub was : old ≡ before ++ after
  pub is : new ≡ before ++ (rs ++ after)
  pub own : All (IsOfColumn field class) rs
  pub apart : All (λ r. IsOfColumn field class r → ⊥) after

-- what a number of the open document becomes
abbrev pub raw_of : ℕ → RunKind → ℕ → Raw
raw_of doc kind n = record { field = kind.field; class = kind.class; doc = doc; number = n }

-- a head is the place after that of a field's last column before a bound, 0 where there is none
pub record IsLast (columns : List Gathering) (field head bound : ℕ) : Type 0 where
  pub within : head ≤ bound
  pub none : (k : ℕ) (g : Gathering) → head ≤ k → k < bound → (get_or columns k g).field ≢ field
  pub is : (g : Gathering) → 0 < head → (get_or columns (head - 1) g).field ≡ field

-- each field leads to its columns, the last one first, and no two are of one field and class
pub record AreLinked (last : List ℕ) (columns : List Gathering) : Type 0 where
  pub heads : (field : ℕ) → IsLast columns field (get_or last field 0) (length columns)
  pub nexts : (k : ℕ) (g : Gathering) → k < length columns
      → IsLast columns (get_or columns k g).field (get_or columns k g).before k
  pub apart : AllPairs (λ g h. g.field ≡ h.field → g.class ≡ h.class → ⊥) columns

-- a column is of a field and a class
abbrev pub IsColumnOf : ℕ → ColumnPaginationOrder → Gathering → Type 0
IsColumnOf field class column = (column.field ≡ field) × (column.class ≡ class)

-- whether a column is of a field and the rank of a class
abbrev pub is_column : ℕ → ℕ → Gathering → Bool
is_column field rank column = (column.field == field) && (order_rank column.class == rank)

-- what a number stands for
abbrev pub raw_placed : List Sign → List (List ℕ) → List Address → Raw → Placed
raw_placed signs texts addresses r = record {
  field = r.field;
  doc = r.doc;
  key = raw_key texts addresses (kind_of (get_or signs r.field Small) r.class) r.number;
}

-- how columns stand by their fields, and those of one field by their classes
abbrev pub column_cmp : Gathering → Gathering → Ordering
column_cmp c d =
    ordering_then (nat_cmp c.field d.field) (nat_cmp (order_rank c.class) (order_rank d.class))

-- columns by field and class
abbrev pub AreSorted : List Gathering → Type 0
AreSorted columns =
    (i j : ℕ) (d : Gathering) → i ≤ j → j < length columns
    → ((get_or columns i d).field ≤ (get_or columns j d).field)
    × ((get_or columns i d).field ≡ (get_or columns j d).field
    → order_rank (get_or columns i d).class ≤ order_rank (get_or columns j d).class)

-- a column of numbers whose field has one above those of an i64 has such a number: those are below
-- 2 ^ 63, since 2 ^ 63 is taken off
abbrev pub IsWide : Sign → Gathering → Type 0
IsWide sign column =
    sign ≡ Large → column.class ≡ class.Numeric
    → (n : ℕ) × Contains (values_of column.rows) n × (n < 2 ^ 63)

-- so it is for all columns
abbrev pub AreWide : List Sign → List Gathering → Type 0
AreWide signs columns = All (λ g. IsWide (get_or signs g.field Small) g) columns

-- the fields and classes of gathered columns
abbrev pub gathering_classes : List Gathering → List (ℕ × ℕ)
gathering_classes columns = map {B = ℕ × ℕ} (λ g. (g.field, order_rank g.class)) columns

-- the fields and classes of columns that are encoded
abbrev pub column_classes : List StoredColumn → List (ℕ × ℕ)
column_classes columns = map {B = ℕ × ℕ} (λ c. (c.field, keys_rank c.keys)) columns
