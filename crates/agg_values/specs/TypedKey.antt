-- Typed keys: a value with its type, or Null.
use Rattle.std.specs.Prelude.{ℕ, ◌^◌, ◌≤◌, ◌<ℤ◌, ℤ, pos, unsigned_abs, int_lt, List, []}
use Rattle.std.specs.Prelude.{if◌then◌else◌, ⊤}
use Rattle.agg_values.specs.declared.typed_key.CompositeIntermediateKey as typed
pub use typed.{CompositeIntermediateKey}
pub use typed.TheVariants as key
use key.{Bool as Truth, Str, I64, U64, DateTime, IpAddr, Null}

-- the number of a key: false is 0 and true is 1, a date is its nanoseconds; 0 for the other classes
abbrev pub truth_or_number : CompositeIntermediateKey → ℤ
truth_or_number Null = pos 0
truth_or_number (Truth b) = pos (if b then 1 else 0)
truth_or_number (Str text) = pos 0
truth_or_number (I64 n) = n
truth_or_number (U64 n) = pos n
truth_or_number (IpAddr a) = pos 0
truth_or_number (DateTime ns) = ns

-- the address of a key, 0 for the other classes
abbrev pub address_of : CompositeIntermediateKey → ℕ
address_of (IpAddr a) = a.0
address_of _ = 0

-- the text of a key, empty for the other classes
abbrev pub text_of : CompositeIntermediateKey → List ℕ
text_of (Str text) = text
text_of _ = []

-- the typed key of a number: an I64 where it fits one, else a U64
abbrev pub typed_number : ℤ → CompositeIntermediateKey
typed_number n = if int_lt n (pos (2 ^ 63)) then I64 n else U64 (unsigned_abs n)

-- the same value, with a number as an I64 where it fits one
abbrev pub canonical_key : CompositeIntermediateKey → CompositeIntermediateKey
canonical_key (I64 n) = typed_number n
canonical_key (U64 n) = typed_number (pos n)
canonical_key key = key

-- a U64 is one that no I64 can be, and an I64 is below 2 ^ 63; the other bounds of the numbers are
-- their types' own, and aren't repeated here
abbrev pub IsCanonical : CompositeIntermediateKey → Type 0
IsCanonical (U64 n) = 2 ^ 63 ≤ n
IsCanonical (I64 n) = n <ℤ pos (2 ^ 63)
IsCanonical _ = ⊤
