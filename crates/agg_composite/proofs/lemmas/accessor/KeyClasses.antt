-- The keys of a column are of the column's class, and canonical.
use Rattle.std.proofs.Common.{◌≡◌, ℕ, ◌<◌, ◌^◌, Bool, true, false, cond, ℤ, pos, refl, arith}
use Rattle.std.proofs.lemmas.Int.{ints}
use Rattle.std.specs.Prelude.{int_lt, unsigned_abs}
use Rattle.agg_values.specs.Column.{class_rank}
use Rattle.agg_values.specs.TypedKey.{IsCanonical}
use Rattle.agg_values.specs.TypedKey.key.{I64, U64}
use Rattle.agg_segment.specs.storage.Columns.{encoded_key, keys_rank}
use Rattle.agg_segment.specs.declared.storage.keys.ColumnKeys.{ColumnKeys}
use Rattle.agg_segment.specs.declared.storage.keys.ColumnKeys.TheVariants.{Bools, Texts, Signed}
use Rattle.agg_segment.specs.declared.storage.keys.ColumnKeys.TheVariants.{Unsigned, Addresses}
use Rattle.agg_segment.specs.declared.storage.keys.ColumnKeys.TheVariants.{Dates}

-- some class has the rank
pub some_rank : (keys : ColumnKeys) → 0 < keys_rank keys
some_rank Bools = omega arith
some_rank (Texts texts) = omega arith
some_rank Signed = omega arith
some_rank Unsigned = omega arith
some_rank (Addresses addresses) = omega arith
some_rank Dates = omega arith

number_rank : (n : ℤ) (m : ℕ) (b : Bool) → class_rank (cond b (I64 n) (U64 m)) ≡ 3
number_rank n m true = refl
number_rank n m false = refl

-- a key is of its column's class
pub encoded-rank : (keys : ColumnKeys) (n : ℕ) → class_rank (encoded_key keys n) ≡ keys_rank keys
encoded-rank Bools n = refl
encoded-rank (Texts texts) n = refl
encoded-rank Signed n = refl
encoded-rank Unsigned n =
    number_rank (pos n) (unsigned_abs (pos n)) (int_lt (pos n) (pos (2 ^ 63)))
encoded-rank (Addresses addresses) n = refl
encoded-rank Dates n = refl

typed-canonical : (n : ℕ) (b : Bool) → int_lt (pos n) (pos (2 ^ 63)) ≡ b
    → IsCanonical (cond b (I64 (pos n)) (U64 (unsigned_abs (pos n))))
typed-canonical n true is = grind (arith, ints)
typed-canonical n false is = grind (arith, ints)

-- a key is canonical
pub encoded-canonical : (keys : ColumnKeys) (n : ℕ) → n < 2 ^ 64 → IsCanonical (encoded_key keys n)
encoded-canonical Bools n l = tt
encoded-canonical (Texts texts) n l = tt
encoded-canonical Signed n l = grind (arith, ints)
encoded-canonical Unsigned n l = typed-canonical n (int_lt (pos n) (pos (2 ^ 63))) refl
encoded-canonical (Addresses addresses) n l = tt
encoded-canonical Dates n l = tt
