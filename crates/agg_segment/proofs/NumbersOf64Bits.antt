-- The numbers of what was gathered are of 64 bits, and so are those of a segment's documents.
use Rattle.std.proofs.Common.{◌≡◌, ◌<◌, ◌+◌, ◌^◌, ℕ, List, [], length, map, get_or, refl, subst}
use Rattle.std.proofs.Common.{sym, true, false, None, Some, arith}
use Rattle.std.specs.Prelude.{Bool, Option, filter, flat_map, nat_abs, nat_lt, pos, ◌-ℤ◌}
use Rattle.std.specs.Prelude.{if◌then◌else◌}
use Rattle.std.specs.Option.{option_map_or}
use Rattle.std.specs.List.{All, range_with_len}
use Rattle.std.proofs.lemmas.Bool.Decides.{nat_tests}
use Rattle.std.proofs.lemmas.Int.{ints}
use Rattle.std.proofs.lemmas.List.Elements.{All-filter, All-map, All-nil, All-weaker}
use Rattle.std.proofs.lemmas.List.Sorted.{All-permutation, IsPermutation-sym}
use Rattle.agg_values.specs.declared.address.Address.{Address}
use Rattle.agg_values.specs.declared.column.ColumnPaginationOrder.{ColumnPaginationOrder}
use Rattle.agg_values.specs.declared.column.ColumnPaginationOrder.TheVariants as class
use Rattle.agg_values.specs.declared.typed_key.CompositeIntermediateKey.TheVariants as key
use Rattle.agg_segment.specs.storage.Cells.{Placed, is_at, keys_at, number_of}
use Rattle.agg_segment.specs.storage.Columns.{column_cells}
use Rattle.agg_segment.specs.storage.Document.{HasNumbersOf64Bits, IsOf64Bits, by_class}
use Rattle.agg_segment.specs.storage.GatheredNumbers.{raw_key, IsRaw, kind_of}
use Rattle.agg_segment.specs.declared.storage.sign.Sign.{Sign}
use Rattle.agg_segment.specs.declared.storage.sign.Sign.TheVariants.{Small, Negative, Large}
use Rattle.agg_segment.proofs.lemmas.storage.Classes.{by_class_moves}
use Rattle.agg_segment.specs.Gatherings.{Raw, raw_placed}
use Rattle.agg_segment.specs.Segment.{Stored, document_at, documents_of}

-- ---- one number

shifted-64 : (n : ℕ) → n < 2 ^ 64 → nat_abs (pos n -ℤ pos (2 ^ 63)) < 2 ^ 64
shifted-64 n low = omega (arith, ints)

wide-64 : (n : ℕ) → n < 2 ^ 64 → (b : Bool) → nat_lt n (2 ^ 63) ≡ b
    → IsOf64Bits (if b then key.U64 (n + 2 ^ 63) else key.I64 (pos n -ℤ pos (2 ^ 63)))
wide-64 n low true is = grind (arith, nat_tests)
wide-64 n low false is = shifted-64 n low

raw-64 : (texts : List (List ℕ)) (addresses : List Address) (sign : Sign)
    (c : ColumnPaginationOrder) (n : ℕ) → IsRaw (length texts) (length addresses) c n
    → IsOf64Bits (raw_key texts addresses (kind_of sign c) n)
raw-64 texts addresses sign class.Bool n raw = tt
raw-64 texts addresses sign class.Str n raw = tt
raw-64 texts addresses Large class.Numeric n raw = wide-64 n raw (nat_lt n (2 ^ 63)) refl
raw-64 texts addresses Small class.Numeric n raw = shifted-64 n raw
raw-64 texts addresses Negative class.Numeric n raw = shifted-64 n raw
raw-64 texts addresses sign class.IpAddr n raw = tt
raw-64 texts addresses sign class.DateTime n raw = shifted-64 n raw

-- ---- the documents of a segment

-- a key at its place is of 64 bits
abbrev IsPlacedOf64Bits : Placed → Type 0
IsPlacedOf64Bits p = IsOf64Bits p.key

module _ (signs : List Sign) (texts : List (List ℕ)) (addresses : List Address) (rs : List Raw)
    (kept : All (λ r. IsRaw (length texts) (length addresses) r.class r.number) rs) where
  placed-64 : All IsPlacedOf64Bits (map (raw_placed signs texts addresses) rs)
  placed-64 =
      All-map IsPlacedOf64Bits (raw_placed signs texts addresses) rs
      (All-weaker (λ (r : Raw). IsRaw (length texts) (length addresses) r.class r.number)
      (λ r. IsPlacedOf64Bits (raw_placed signs texts addresses r))
      (λ r raw. raw-64 texts addresses (get_or signs r.field Small) r.class r.number raw) rs kept)

  keys-64 : (field doc : ℕ)
      → All IsOf64Bits (by_class (keys_at (map (raw_placed signs texts addresses) rs) field doc))
  keys-64 field doc =
      let cells = map (raw_placed signs texts addresses) rs in
      let keys = keys_at cells field doc in
      All-permutation IsOf64Bits keys (by_class keys)
      (IsPermutation-sym (by_class keys) keys (by_class_moves keys))
      (All-map IsOf64Bits (λ (p : Placed). p.key) (filter (is_at field doc) cells)
      (All-filter (is_at field doc) IsPlacedOf64Bits cells placed-64))

  -- where the columns of a segment hold what was gathered, the numbers of its documents are of 64
  -- bits
  pub built-64 : (segment : Stored) → ((field doc : ℕ)
      → keys_at (flat_map column_cells segment.columns) field doc
      ≡ by_class (keys_at (map (raw_placed signs texts addresses) rs) field doc))
      → All HasNumbersOf64Bits (documents_of segment)
  built-64 segment same =
      All-map HasNumbersOf64Bits (document_at segment) (range_with_len 0 segment.count)
      (λ k d within field. by_number (get_or (range_with_len 0 segment.count) k d)
      (number_of segment.names field))
    where
      by_number : (doc : ℕ) (o : Option ℕ) → All IsOf64Bits
          (option_map_or (λ f. keys_at (flat_map column_cells segment.columns) f doc) o [])
      by_number doc None = All-nil IsOf64Bits
      by_number doc (Some f) = subst (All IsOf64Bits) (sym (same f doc)) (keys-64 f doc)
