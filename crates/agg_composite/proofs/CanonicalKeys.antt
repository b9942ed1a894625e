-- The keys that numbers of columns stand for are canonical.
use Rattle.std.proofs.Common.{◌≡◌, ℕ, ◌<◌, ◌^◌, pos, Bool, true, false, cond, nat_lt, refl}
use Rattle.std.proofs.Common.{ap, ◌∙◌, arith}
use Rattle.std.specs.Prelude.{◌-ℤ◌, int_lt, unsigned_abs}
use Rattle.std.proofs.lemmas.Bool.Decides.{nat_tests}
use Rattle.std.proofs.lemmas.Int.{ints}
use Rattle.agg_values.specs.TypedKey.{canonical_key}
use Rattle.agg_values.specs.TypedKey.key.{I64, U64}
use Rattle.agg_segment.specs.storage.Columns.{encoded_key}
use Rattle.agg_segment.specs.declared.storage.keys.ColumnKeys.{ColumnKeys}
use Rattle.agg_segment.specs.declared.storage.keys.ColumnKeys.TheVariants.{Bools, Texts, Signed}
use Rattle.agg_segment.specs.declared.storage.keys.ColumnKeys.TheVariants.{Unsigned, Addresses}
use Rattle.agg_segment.specs.declared.storage.keys.ColumnKeys.TheVariants.{Dates}

below : (n : ℕ) → n < 2 ^ 64 → int_lt (pos n -ℤ pos (2 ^ 63)) (pos (2 ^ 63)) ≡ true
below n fits = grind (arith, ints, nat_tests)

same-test : (n : ℕ) → nat_lt n (2 ^ 63) ≡ int_lt (pos n) (pos (2 ^ 63))
same-test n = grind (arith, ints, nat_tests)

unsigned : (n : ℕ) (b : Bool) → int_lt (pos n) (pos (2 ^ 63)) ≡ b
    → canonical_key (cond b (I64 (pos n)) (U64 n)) ≡ cond b (I64 (pos n)) (U64 n)
unsigned n true e = ap (λ b. cond b (I64 (pos n)) (U64 n)) e
unsigned n false e = ap (λ b. cond b (I64 (pos n)) (U64 n)) (same-test n ∙ e)

pub canonical : (keys : ColumnKeys) (n : ℕ) → n < 2 ^ 64
    → canonical_key (encoded_key keys n) ≡ encoded_key keys n
canonical Bools n fits = refl
canonical (Texts texts) n fits = refl
canonical Signed n fits =
    ap (λ b. cond b (I64 (pos n -ℤ pos (2 ^ 63))) (U64 (unsigned_abs (pos n -ℤ pos (2 ^ 63)))))
    (below n fits)
canonical Unsigned n fits = unsigned n (int_lt (pos n) (pos (2 ^ 63))) refl
canonical (Addresses addresses) n fits = refl
canonical Dates n fits = refl
