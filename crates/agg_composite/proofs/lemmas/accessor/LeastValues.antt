-- Least values, beside the numbers of columns and beside canonical keys.
use Rattle.std.proofs.Common.{◌≡◌, ◌<◌, ◌≤◌, ◌+◌, ◌++◌, ◌^◌, ℕ, zero, suc, ℤ, pos, List, []}
use Rattle.std.proofs.Common.{◌∷◌, Bool, true, false}
use Rattle.std.proofs.Common.{cond, not, Option, None, Some, Less, Equal, Greater, is_lt}
use Rattle.std.proofs.Common.{filter, get_or, length, map, take, refl, sym, ap, ◌∙◌, subst, arith}
use Rattle.std.specs.List.{All, AllByRecursion}
use Rattle.std.specs.Prelude.{◌==◌, int_lt, nat_lt, unsigned_abs}
use Rattle.std.proofs.lemmas.Bool.Decides.{nat_tests}
use Rattle.std.proofs.lemmas.Int.{ints}
use Rattle.std.proofs.lemmas.List.{take_all, take_more}
use Rattle.std.proofs.lemmas.List.Elements.{recursion_from_All}
use Rattle.std.proofs.lemmas.Slice.Zip.{all_zipped_more}
use Rattle.agg_values.specs.KeyOrder.{key_order}
use Rattle.agg_values.specs.TypedKey.{CompositeIntermediateKey, canonical_key}
use Rattle.agg_values.specs.declared.typed_key.CompositeIntermediateKey.TheVariants as key
use Rattle.agg_values.specs.declared.order.Order.TheVariants.{Asc}
use Rattle.agg_values.specs.declared.order.MissingOrder.TheVariants.{Default}
use Rattle.agg_segment.specs.storage.Columns.{StandsForKey, encoded_key}
use Rattle.agg_segment.specs.declared.storage.keys.ColumnKeys.{ColumnKeys}
use Rattle.agg_request_tree.specs.Source.{is_from, min_of}
use Rattle.agg_request_tree.specs.declared.source.CompositeAggregationSource as kind
use kind.{CompositeAggregationSource}
use Rattle.agg_composite.specs.accessor.AfterKey.{is_above, projected_side}
use Rattle.agg_composite.specs.accessor.Least.{AreLeastIn, IsLeastIn, is_number_from}
use Rattle.agg_composite.specs.accessor.Least.{least_at, numbers_from}
use Rattle.agg_composite.specs.declared.accessor.accessor.CompositeAccessor.{CompositeAccessor}
use Rattle.agg_composite.specs.declared.accessor.accessor.CompositeSourceAccessors.{
  CompositeSourceAccessors,
}
use Rattle.agg_composite.specs.declared.accessor.after_key.PrecomputedAfterKey.{PrecomputedAfterKey}
use Rattle.agg_composite.specs.declared.accessor.after_key.PrecomputedAfterKey.TheVariants.{Exact}
use Rattle.agg_composite.specs.declared.accessor.after_key.PrecomputedAfterKey.TheVariants.{Next}
use Rattle.agg_composite.specs.declared.accessor.after_key.PrecomputedAfterKey.TheVariants.{
  AfterLast,
}

-- ---- places

sided : (b : Bool) → is_lt (cond b Less Greater) ≡ b
sided true = refl
sided false = refl

-- a number comes before a place where the place is above it
before-above : (place : PrecomputedAfterKey) (n : ℕ)
    → is_lt (projected_side Asc place n) ≡ is_above place n
before-above (Exact after) n = by_test (after == n) refl
  where
    by_test : (b : Bool) → (after == n) ≡ b
        → is_lt (cond b Equal (cond (nat_lt n after) Less Greater)) ≡ nat_lt n after
    by_test true same = grind (arith, nat_tests)
    by_test false other = sided (nat_lt n after)
before-above (Next after) n = sided (nat_lt n after)
before-above AfterLast n = refl

-- the place of a key among the numbers of a column is that of a least value
pub place-least : (keys : ColumnKeys) (k : CompositeIntermediateKey) (place : PrecomputedAfterKey)
    → ((number : ℕ) → StandsForKey keys number
    → projected_side Asc place number ≡ key_order Asc Default (encoded_key keys number) k)
    → IsLeastIn keys (Some k) place
place-least keys k place sides number stands =
    ap not (sym (before-above place number) ∙ ap is_lt (sides number stands))

-- no number is below 0
from_start : (n : ℕ) → is_number_from (Next 0) n ≡ true
from_start n = grind (arith, nat_tests)

pub numbers-from_start : (xs : List ℕ) → numbers_from (Next 0) xs ≡ xs
numbers-from_start [] = refl
numbers-from_start (x ∷ xs) =
    ap (λ b. cond b (x ∷ numbers_from (Next 0) xs) (numbers_from (Next 0) xs)) (from_start x)
    ∙ ap (λ ys. x ∷ ys) (numbers-from_start xs)

zipped-least : (k : CompositeIntermediateKey) (accessors : List CompositeAccessor)
    (places : List PrecomputedAfterKey) → AreLeastIn (Some k) accessors places
    → (i : ℕ) (d : CompositeAccessor) → i < length accessors
    → IsLeastIn (get_or accessors i d).column.now.keys (Some k) (least_at places i)
zipped-least k [] places all i d l = absurd (omega (arith, l))
zipped-least k (a ∷ accessors) [] all i d l = absurd all
zipped-least k (a ∷ accessors) (place ∷ places) all zero d l = all.0
zipped-least k (a ∷ accessors) (place ∷ places) all (suc i) d l =
    zipped-least k accessors places all.1 i d (omega (arith, l))

-- the place for the accessor at an index is that of the least value
pub least-at : (min : Option CompositeIntermediateKey) (accessors : List CompositeAccessor)
    (places : List PrecomputedAfterKey) → AreLeastIn min accessors places
    → (i : ℕ) (d : CompositeAccessor) → i < length accessors
    → IsLeastIn (get_or accessors i d).column.now.keys min (least_at places i)
least-at None accessors places none i d l =
    subst (λ ps. IsLeastIn (get_or accessors i d).column.now.keys None (least_at ps i)) (sym none)
    (λ number stands. from_start number)
least-at (Some k) accessors places all i d l = zipped-least k accessors places all i d l

-- places of a least value are those of a source that has it
pub least-of : (source : CompositeAggregationSource) (accessors : List CompositeAccessor)
    (places : List PrecomputedAfterKey) {xs : List CompositeAccessor}
    {min : Option CompositeIntermediateKey} → xs ≡ accessors → min ≡ min_of source
    → AreLeastIn min xs places → AreLeastIn (min_of source) accessors places
least-of source accessors places same is all =
    subst (λ (p : Option CompositeIntermediateKey × List CompositeAccessor).
    AreLeastIn p.0 p.1 places) (λ x. (is x, same x)) all

-- the place of a least value is one, for the accessor and the place that are found at an index
pub least-here : (min : Option CompositeIntermediateKey) (a : CompositeSourceAccessors)
    (xs : List CompositeAccessor) (i : ℕ) (accessor : CompositeAccessor)
    (place : PrecomputedAfterKey) → AreLeastIn min a.accessors a.min → xs ≡ a.accessors
    → i < length xs → accessor ≡ get_or xs i accessor → place ≡ least_at a.min i
    → IsLeastIn accessor.column.now.keys min place
least-here min a xs i accessor place all same l is place_is =
    subst (λ (p : CompositeAccessor × PrecomputedAfterKey). IsLeastIn p.0.column.now.keys min p.1)
    (λ x. (sym is x, sym place_is x))
    (least-at min xs a.min (subst (λ ys. AreLeastIn min ys a.min) (sym same) all) i accessor l)

-- places of one more accessor
pub least-more : (k : CompositeIntermediateKey) (accessors : List CompositeAccessor) (i : ℕ)
    (accessor : CompositeAccessor) (places : List PrecomputedAfterKey)
    (place : PrecomputedAfterKey) (now : List PrecomputedAfterKey) → i < length accessors
    → accessor ≡ get_or accessors i accessor → now ≡ places ++ place ∷ []
    → AreLeastIn (Some k) (take i accessors) places
    → IsLeastIn accessor.column.now.keys (Some k) place
    → AreLeastIn (Some k) (take (i + 1) accessors) now
least-more k accessors i accessor places place now l is now_is so_far here =
    let one : take (i + 1) accessors ≡ take i accessors ++ accessor ∷ [] =
    take_more accessors i accessor l ∙ ap (λ x. take i accessors ++ x ∷ []) (sym is) in
    subst (λ (p : List CompositeAccessor × List PrecomputedAfterKey). AreLeastIn (Some k) p.0 p.1)
    (λ x. (sym one x, sym now_is x))
    (all_zipped_more (λ (a : CompositeAccessor) (p : PrecomputedAfterKey).
    IsLeastIn a.column.now.keys (Some k) p) (take i accessors) places accessor place so_far here)

-- places of all accessors
pub least-whole : (k : CompositeIntermediateKey) (accessors : List CompositeAccessor) (i : ℕ)
    (places given : List PrecomputedAfterKey) → length accessors ≤ i → given ≡ places
    → AreLeastIn (Some k) (take i accessors) places → AreLeastIn (Some k) accessors given
least-whole k accessors i places given past is all =
    subst (λ (p : List CompositeAccessor × List PrecomputedAfterKey). AreLeastIn (Some k) p.0 p.1)
    (λ x. (take_all i accessors past x, sym is x)) all

-- ---- numbers

module _ (keys : ColumnKeys) (min : Option CompositeIntermediateKey) (place : PrecomputedAfterKey)
    (least : IsLeastIn keys min place) where
  kept-keys : (n : ℕ) (ns : List ℕ)
      → filter (is_from min) (map (encoded_key keys) ns)
      ≡ map (encoded_key keys) (numbers_from place ns)
      → (b : Bool)
      → cond b (encoded_key keys n ∷ filter (is_from min) (map (encoded_key keys) ns))
      (filter (is_from min) (map (encoded_key keys) ns))
      ≡ map (encoded_key keys) (cond b (n ∷ numbers_from place ns) (numbers_from place ns))
  kept-keys n ns rest true = ap (λ ks. encoded_key keys n ∷ ks) rest
  kept-keys n ns rest false = rest

  keys-from_each : (ns : List ℕ) → AllByRecursion (StandsForKey keys) ns
      → filter (is_from min) (map (encoded_key keys) ns)
      ≡ map (encoded_key keys) (numbers_from place ns)
  keys-from_each [] stand = refl
  keys-from_each (n ∷ ns) stand =
      ap (λ b. cond b (encoded_key keys n ∷ filter (is_from min) (map (encoded_key keys) ns))
      (filter (is_from min) (map (encoded_key keys) ns))) (sym (least n stand.0))
      ∙ kept-keys n ns (keys-from_each ns stand.1) (is_number_from place n)

  -- the keys of numbers that aren't below a least value are those of numbers that aren't below its
  -- place
  pub keys-from_numbers : (ns : List ℕ) → All (StandsForKey keys) ns
      → filter (is_from min) (map (encoded_key keys) ns)
      ≡ map (encoded_key keys) (numbers_from place ns)
  keys-from_numbers ns stand =
      keys-from_each ns (recursion_from_All (StandsForKey keys) ns stand)

-- ---- canonical keys

signed-order : (n : ℤ) (least : CompositeIntermediateKey) (b : Bool) → int_lt n (pos (2 ^ 63)) ≡ b
    → key_order Asc Default (cond b (key.I64 n) (key.U64 (unsigned_abs n))) least
    ≡ key_order Asc Default (key.I64 n) least
signed-order n least true is = refl
signed-order n least false is =
    let same : pos (unsigned_abs n) ≡ n = grind (arith, ints) in
    ap (λ m. key_order Asc Default (key.I64 m) least) same

unsigned-order : (n : ℕ) (least : CompositeIntermediateKey) (b : Bool)
    → key_order Asc Default (cond b (key.I64 (pos n)) (key.U64 n)) least
    ≡ key_order Asc Default (key.U64 n) least
unsigned-order n least true = refl
unsigned-order n least false = refl

order-canonical : (k least : CompositeIntermediateKey)
    → key_order Asc Default (canonical_key k) least ≡ key_order Asc Default k least
order-canonical (key.I64 n) least = signed-order n least (int_lt n (pos (2 ^ 63))) refl
order-canonical (key.U64 n) least = unsigned-order n least (nat_lt n (2 ^ 63))
order-canonical _ least = refl

-- a value is below a least one where its canonical key is
from-canonical : (min : Option CompositeIntermediateKey) (k : CompositeIntermediateKey)
    → is_from min (canonical_key k) ≡ is_from min k
from-canonical None k = refl
from-canonical (Some least) k = ap (λ o. not (is_lt o)) (order-canonical k least)

-- what isn't below a least value, of canonical values
pub values-from_canonical : (min : Option CompositeIntermediateKey)
    (ks : List CompositeIntermediateKey)
    → filter (is_from min) (map canonical_key ks) ≡ map canonical_key (filter (is_from min) ks)
values-from_canonical min [] = refl
values-from_canonical min (k ∷ ks) =
    ap (λ b. cond b (canonical_key k ∷ filter (is_from min) (map canonical_key ks))
    (filter (is_from min) (map canonical_key ks))) (from-canonical min k)
    ∙ kept (is_from min k) (values-from_canonical min ks)
  where
    kept : (b : Bool)
        → filter (is_from min) (map canonical_key ks) ≡ map canonical_key (filter (is_from min) ks)
        → cond b (canonical_key k ∷ filter (is_from min) (map canonical_key ks))
        (filter (is_from min) (map canonical_key ks))
        ≡ map canonical_key (cond b (k ∷ filter (is_from min) ks) (filter (is_from min) ks))
    kept true rest = ap (λ xs. canonical_key k ∷ xs) rest
    kept false rest = rest
