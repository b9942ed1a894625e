-- The values of the open document: numbers in runs of one field, class and sign.
use Rattle.std.specs.Prelude.{◌≡◌, ◌<◌, ℕ, List, [], length, map, replicate, flat_map}
use Rattle.std.specs.List.{All, zip}
use Rattle.agg_values.specs.declared.address.Address.{Address}
use Rattle.agg_values.specs.declared.column.ColumnPaginationOrder.{ColumnPaginationOrder}
use Rattle.agg_values.specs.TypedKey.{CompositeIntermediateKey}
use Rattle.agg_segment.specs.storage.Cells.{Placed}
use Rattle.agg_segment.specs.storage.GatheredNumbers.{raw_key, kind_of, IsRaw}
use Rattle.agg_segment.specs.SegmentLimits.{sign_of}
use Rattle.agg_segment.specs.declared.storage.run.Run.{Run}
use Rattle.agg_segment.specs.declared.storage.run.RunKind.{RunKind}
use Rattle.agg_segment.specs.declared.storage.sign.Sign.{Sign}

-- a key in the field of a number
pub record FieldKey : Type 0 where
  pub field : ℕ
  pub key : CompositeIntermediateKey

-- the keys of a document in order, and the texts and addresses that they name
pub record Logged : Type 0 where
  pub texts : List (List ℕ)
  pub addresses : List Address
  pub keys : List FieldKey

-- a key of a document
abbrev pub in_document : ℕ → FieldKey → Placed
in_document doc k = record { field = k.field; doc = doc; key = k.key }

-- the keys of a document of this number
abbrev pub open_cells : ℕ → Logged → List Placed
open_cells doc log = map (in_document doc) log.keys

-- the kind of each number
abbrev pub kinds : List Run → List RunKind
kinds runs = flat_map (λ run. replicate run.count run.kind) runs

-- numbers with their kinds
abbrev pub noted : List Run → List ℕ → List (RunKind × ℕ)
noted runs numbers = zip (kinds runs) numbers

-- the key that a number of a sign and a class stands for
abbrev pub kept_key
    : List (List ℕ) → List Address → Sign → ColumnPaginationOrder → ℕ → CompositeIntermediateKey
kept_key texts addresses sign class n = raw_key texts addresses (kind_of sign class) n

-- the key that a number stands for in its field
abbrev pub noted_key : List (List ℕ) → List Address → RunKind × ℕ → FieldKey
noted_key texts addresses note = record {
  field = note.0.field;
  key = kept_key texts addresses note.0.sign note.0.class note.1;
}

-- a number is one that its class may have, and its key has its sign
abbrev pub IsKept : ℕ → ℕ → Sign → ColumnPaginationOrder → ℕ → Type 0
IsKept texts addresses sign class n =
    IsRaw texts addresses class n × (sign_of (kept_key [] [] sign class n) ≡ sign)

-- so it is for a number with its kind
abbrev pub IsNoted : ℕ → ℕ → RunKind × ℕ → Type 0
IsNoted texts addresses note = IsKept texts addresses note.0.sign note.0.class note.1

-- no run is empty
abbrev pub AreNonEmpty : List Run → Type 0
AreNonEmpty runs = All (λ run. 0 < run.count) runs

-- each number is of one of the runs, and is one of its kind
pub record AreRuns (texts addresses : ℕ) (runs : List Run) (numbers : List ℕ) : Type 0 where
  pub some : AreNonEmpty runs
  pub fit : length (kinds runs) ≡ length numbers
  pub kept : All (IsNoted texts addresses) (noted runs numbers)
