-- The keys that a source gives for values, and the starts that it divides them into.
use Rattle.std.proofs.Common.{◌≡◌, ◌^◌, ◌++◌, ℕ, ℤ, pos, List, [], ◌∷◌, Bool, true, false}
use Rattle.std.proofs.Common.{cond, Option, None, Some, nat_lt, map, refl, sym, ap, ◌∙◌, arith}
use Rattle.std.proofs.Common.{subst}
use Rattle.std.specs.Int.{w64}
use Rattle.std.specs.List.{AllByRecursion, cons_option}
use Rattle.std.specs.Prelude.{FitsSigned, MatchOption, filter_map, int_lt, option_map, unsigned_abs}
use Rattle.std.specs.Prelude.{⊤}
use Rattle.std.proofs.lemmas.Bool.Decides.{nat_tests}
use Rattle.std.proofs.lemmas.Int.{ints}
use Rattle.std.proofs.lemmas.List.{map-append}
use Rattle.std.proofs.lemmas.List.Elements.{filter_map-append}
use Rattle.agg_values.specs.TypedKey.{CompositeIntermediateKey, canonical_key, typed_number}
use Rattle.agg_values.specs.declared.typed_key.CompositeIntermediateKey.TheVariants as key
use Rattle.agg_calendar.specs.Start.{fixed_start}
use Rattle.agg_request_tree.specs.Ranges.{IsInRange}
use Rattle.agg_request_tree.specs.Source.{counted_number, date_of, division_of, keys_in, start_by}
use Rattle.agg_request_tree.specs.Source.{start_in}
use Rattle.agg_request_tree.specs.declared.source.CompositeAggregationSource as kind
use kind.{CompositeAggregationSource}
use kind.TheVariants.{DateHistogram, Histogram, Terms}
use Rattle.agg_composite.specs.accessor.Accessors.{starts_in}

-- ---- canonical keys

unsigned-counted : (n : ℕ) (b : Bool)
    → counted_number (cond b (key.I64 (pos n)) (key.U64 n)) ≡ Some (pos n)
unsigned-counted n true = refl
unsigned-counted n false = refl

signed-counted : (n : ℤ) (b : Bool) → int_lt n (pos (2 ^ 63)) ≡ b
    → counted_number (cond b (key.I64 n) (key.U64 (unsigned_abs n))) ≡ Some n
signed-counted n true is = refl
signed-counted n false is =
    let same : pos (unsigned_abs n) ≡ n = grind (arith, ints) in ap (λ m. Some m) same

-- a key counts as its canonical one does
counted-canonical : (k : CompositeIntermediateKey)
    → counted_number (canonical_key k) ≡ counted_number k
counted-canonical (key.I64 n) = signed-counted n (int_lt n (pos (2 ^ 63))) refl
counted-canonical (key.U64 n) = unsigned-counted n (nat_lt n (2 ^ 63))
counted-canonical _ = refl

number-dateless : (n : ℤ) (m : ℕ) (b : Bool) → date_of (cond b (key.I64 n) (key.U64 m)) ≡ None
number-dateless n m true = refl
number-dateless n m false = refl

-- a key has the date of its canonical one
date-canonical : (k : CompositeIntermediateKey) → date_of (canonical_key k) ≡ date_of k
date-canonical (key.I64 n) = number-dateless n (unsigned_abs n) (int_lt n (pos (2 ^ 63)))
date-canonical (key.U64 n) = number-dateless (pos n) n (nat_lt n (2 ^ 63))
date-canonical _ = refl

-- a value starts where its canonical key does
start-canonical : (source : CompositeAggregationSource) (k : CompositeIntermediateKey)
    → start_in source (canonical_key k) ≡ start_in source k
start-canonical (Terms s) k = refl
start-canonical (Histogram s) k =
    ap (option_map (fixed_start s.interval)) (counted-canonical k)
start-canonical (DateHistogram s) k =
    ap (option_map (start_by (division_of s))) (date-canonical k)

-- canonical values have the same starts
pub starts-canonical : (source : CompositeAggregationSource) (xs : List CompositeIntermediateKey)
    → starts_in source (map canonical_key xs) ≡ starts_in source xs
starts-canonical source [] = refl
starts-canonical source (x ∷ xs) =
    λ i. cons_option (start-canonical source x i) (starts-canonical source xs i)

typed-canonical : (n : ℤ) (b : Bool) → int_lt n (pos (2 ^ 63)) ≡ b
    → canonical_key (cond b (key.I64 n) (key.U64 (unsigned_abs n)))
    ≡ cond b (key.I64 n) (key.U64 (unsigned_abs n))
typed-canonical n true is = ap (λ b. cond b (key.I64 n) (key.U64 (unsigned_abs n))) is
typed-canonical n false is =
    let large : nat_lt (unsigned_abs n) (2 ^ 63) ≡ false = grind (arith, ints, nat_tests) in
    ap (λ b. cond b (key.I64 (pos (unsigned_abs n))) (key.U64 (unsigned_abs n))) large

numbers-canonical : (ns : List ℤ) → map canonical_key (map typed_number ns) ≡ map typed_number ns
numbers-canonical [] = refl
numbers-canonical (n ∷ ns) =
    λ i. typed-canonical n (int_lt n (pos (2 ^ 63))) refl i ∷ numbers-canonical ns i

dates-canonical : (ns : List ℤ) → map canonical_key (map key.DateTime ns) ≡ map key.DateTime ns
dates-canonical [] = refl
dates-canonical (n ∷ ns) = ap (λ ks. key.DateTime n ∷ ks) (dates-canonical ns)

-- ---- keys

-- values in two parts
pub keys_in-append : (source : CompositeAggregationSource) (xs ys : List CompositeIntermediateKey)
    → keys_in source (xs ++ ys) ≡ keys_in source xs ++ keys_in source ys
keys_in-append (Terms s) xs ys = refl
keys_in-append (Histogram s) xs ys =
    let start = start_in (Histogram s) in
    ap (map typed_number) (filter_map-append start xs ys)
    ∙ map-append typed_number (filter_map start xs) (filter_map start ys)
keys_in-append (DateHistogram s) xs ys =
    let start = start_in (DateHistogram s) in
    ap (map key.DateTime) (filter_map-append start xs ys)
    ∙ map-append key.DateTime (filter_map start xs) (filter_map start ys)

-- for canonical values the canonical keys
pub keys_in-canonical : (source : CompositeAggregationSource) (xs : List CompositeIntermediateKey)
    → keys_in source (map canonical_key xs) ≡ map canonical_key (keys_in source xs)
keys_in-canonical (Terms s) xs = refl
keys_in-canonical (Histogram s) xs =
    ap (map typed_number) (starts-canonical (Histogram s) xs)
    ∙ sym (numbers-canonical (starts_in (Histogram s) xs))
keys_in-canonical (DateHistogram s) xs =
    ap (map key.DateTime) (starts-canonical (DateHistogram s) xs)
    ∙ sym (dates-canonical (starts_in (DateHistogram s) xs))

-- ---- ranges

-- a start lies within i64
abbrev Fits : ℤ → Type 0
Fits n = FitsSigned w64 n

-- values are in range where their starts are
pub range-starts : (source : CompositeAggregationSource) (xs : List CompositeIntermediateKey)
    → AllByRecursion (IsInRange source) xs → AllByRecursion Fits (starts_in source xs)
range-starts source [] all = tt
range-starts source (x ∷ xs) all =
    one-more (start_in source x) all.0 (range-starts source xs all.1)
  where
    one-more : (o : Option ℤ) → MatchOption o ⊤ Fits → AllByRecursion Fits (starts_in source xs)
        → AllByRecursion Fits (cons_option o (starts_in source xs))
    one-more None fits rest = rest
    one-more (Some n) fits rest = (fits, rest)

pub starts-range : (source : CompositeAggregationSource) (xs : List CompositeIntermediateKey)
    → AllByRecursion Fits (starts_in source xs) → AllByRecursion (IsInRange source) xs
starts-range source [] all = tt
starts-range source (x ∷ xs) all =
    let both = one-less (start_in source x) all in (both.0, starts-range source xs both.1)
  where
    one-less : (o : Option ℤ) → AllByRecursion Fits (cons_option o (starts_in source xs))
        → MatchOption o ⊤ Fits × AllByRecursion Fits (starts_in source xs)
    one-less None rest = (tt, rest)
    one-less (Some n) rest = rest

-- values with the same starts as others in range
pub range-alike : (source : CompositeAggregationSource) (xs ys : List CompositeIntermediateKey)
    → starts_in source xs ≡ starts_in source ys → AllByRecursion (IsInRange source) ys
    → AllByRecursion (IsInRange source) xs
range-alike source xs ys same all =
    starts-range source xs (subst (AllByRecursion Fits) (sym same) (range-starts source ys all))
