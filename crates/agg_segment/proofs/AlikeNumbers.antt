-- Numbers that are the same for each field, class and document.
use Rattle.std.proofs.Common.{◌≡◌, ℕ, List, [], ◌∷◌, get_or, map, cond, true, false, refl, sym, ap}
use Rattle.std.proofs.Common.{subst, ◌∙◌}
use Rattle.std.specs.Prelude.{Bool, ◌==◌, ◌&&◌, ◌^◌, pos, filter, nat_lt, ◌+◌, ◌-ℤ◌}
use Rattle.std.specs.List.{All, Contains}
use Rattle.std.proofs.lemmas.Bool.{eq-eqb}
use Rattle.std.proofs.lemmas.List.{get_or_default}
use Rattle.std.proofs.lemmas.List.Elements.{All-contains}
use Rattle.agg_values.specs.declared.address.Address.{Address}
use Rattle.agg_values.specs.Column.{class_rank, order_rank}
use Rattle.agg_values.specs.TypedKey.{CompositeIntermediateKey}
use Rattle.agg_values.specs.declared.typed_key.CompositeIntermediateKey.TheVariants as key
use Rattle.agg_segment.specs.storage.Cells.{Placed, is_at, keys_at}
use Rattle.agg_segment.specs.storage.Document.{by_class, of_class}
use Rattle.agg_segment.specs.Gatherings.{Raw, raw_placed, is_raw_of, AreAlike}
use Rattle.agg_segment.specs.storage.GatheredNumbers.{raw_key, kind_of}
use Rattle.agg_segment.specs.declared.storage.hit.ColumnType.{ColumnType}
use Rattle.agg_segment.specs.declared.storage.hit.ColumnType.TheVariants as kind
use Rattle.agg_segment.specs.declared.storage.sign.Sign.{Sign}
use Rattle.agg_segment.specs.declared.storage.sign.Sign.TheVariants.{Small}
use Rattle.agg_segment.proofs.lemmas.storage.Classes.{same_classes}
use Rattle.agg_segment.specs.storage.Columns.{type_class}
use Rattle.agg_segment.proofs.EncodedColumns.{kind_rank}
use Rattle.agg_segment.proofs.lemmas.storage.Filters.{filter_map_is}
use Rattle.agg_segment.proofs.lemmas.storage.Members.{contains_filter, from_filter}

-- ---- what such lists hold

pub alike_contains : (xs ys : List Raw) (r : Raw) → AreAlike xs ys → Contains xs r → Contains ys r
alike_contains xs ys r alike has =
    let p : Raw → Bool = is_raw_of r.field (order_rank r.class) r.doc in
    let here : p r ≡ true = rw (
      eq-eqb r.field r.field refl,
      eq-eqb (order_rank r.class) (order_rank r.class) refl,
      eq-eqb r.doc r.doc refl,
    ) refl in
    (from_filter p ys r (subst (λ rs. Contains rs r) (alike r.field (order_rank r.class) r.doc)
    (contains_filter p xs r has here))).0

pub alike_back : (xs ys : List Raw) → AreAlike xs ys → AreAlike ys xs
alike_back xs ys alike field rank doc = sym (alike field rank doc)

pub alike_all : (P : Raw → Type 0) (xs ys : List Raw) → AreAlike xs ys → All P ys → All P xs
alike_all P xs ys alike all k d l =
    All-contains P ys (get_or xs k d) all (alike_contains xs ys (get_or xs k d) alike
    (k, l, get_or_default xs k (get_or xs k d) d l))

-- ---- the keys of a document

filter_twice : {X : Type 0} (p q r : X → Bool) → ((x : X) → p x && q x ≡ r x) → (xs : List X)
    → filter q (filter p xs) ≡ filter r xs
filter_twice p q r is [] = refl
filter_twice p q r is (x ∷ xs) = step (p x) (q x) (r x) refl (is x) (filter_twice p q r is xs)
  where
    step : (a b c : Bool) → q x ≡ b → a && b ≡ c → filter q (filter p xs) ≡ filter r xs
        → filter q (cond a (x ∷ filter p xs) (filter p xs)) ≡ cond c (x ∷ filter r xs) (filter r xs)
    step false b c here e ih = rw (sym e) ih
    step true false c here e ih = rw (here, sym e) ih
    step true true c here e ih = rw (here, sym e) (ap (λ r. x ∷ r) ih)

map_map : {X Y Z : Type 0} (f : X → Y) (g : Y → Z) (xs : List X)
    → map g (map f xs) ≡ map (λ x. g (f x)) xs
map_map f g [] = refl
map_map f g (x ∷ xs) = ap (λ r. g (f x) ∷ r) (map_map f g xs)

key_rank : (texts : List (List ℕ)) (addresses : List Address) (k : ColumnType) (n : ℕ)
    → class_rank (raw_key texts addresses k n) ≡ order_rank (type_class k)
key_rank texts addresses kind.Bool n = refl
key_rank texts addresses kind.Str n = refl
key_rank texts addresses kind.I64 n = refl
key_rank texts addresses kind.U64 n = by_test (nat_lt n (2 ^ 63))
  where
    by_test : (b : Bool) → class_rank (cond b (key.U64 (n + 2 ^ 63)) (key.I64
        (pos n -ℤ pos (2 ^ 63)))) ≡ 3
    by_test true = refl
    by_test false = refl
key_rank texts addresses kind.IpAddr n = refl
key_rank texts addresses kind.DateTime n = refl

module _ (signs : List Sign) (texts : List (List ℕ)) (addresses : List Address) where
  abbrev key_in : Raw → CompositeIntermediateKey
  key_in r = raw_key texts addresses (kind_of (get_or signs r.field Small) r.class) r.number

  abbrev at_raw : ℕ → ℕ → Raw → Bool
  at_raw field doc r = (r.field == field) && (r.doc == doc)

  pub raw_rank : (r : Raw) → class_rank (key_in r) ≡ order_rank r.class
  raw_rank r = key_rank texts addresses (kind_of (get_or signs r.field Small) r.class) r.number
      ∙ kind_rank (get_or signs r.field Small) r.class

  pub keys_are : (rs : List Raw) (field doc : ℕ)
      → keys_at (map (raw_placed signs texts addresses) rs) field doc
      ≡ map key_in (filter (at_raw field doc) rs)
  keys_are rs field doc =
      ap (map (λ (p : Placed). p.key)) (filter_map_is (raw_placed signs texts addresses)
      (is_at field doc) rs) ∙ map_map (raw_placed signs texts addresses) (λ (p : Placed). p.key)
      (filter (at_raw field doc) rs)

  class_is : (rs : List Raw) (field doc rank : ℕ)
      → of_class (map key_in (filter (at_raw field doc) rs)) rank
      ≡ map key_in (filter (is_raw_of field rank doc) rs)
  class_is rs field doc rank =
      filter_map_is key_in (λ k. class_rank k == rank) (filter (at_raw field doc) rs)
      ∙ ap (map key_in) (filter_twice (at_raw field doc) (λ r. class_rank (key_in r) == rank)
      (is_raw_of field rank doc) same rs)
    where
      swap_last : (a b c : Bool) → a && c && b ≡ a && b && c
      swap_last true true true = refl
      swap_last true true false = refl
      swap_last true false true = refl
      swap_last true false false = refl
      swap_last false true true = refl
      swap_last false true false = refl
      swap_last false false true = refl
      swap_last false false false = refl

      same : (r : Raw) → at_raw field doc r && (class_rank (key_in r) == rank)
          ≡ is_raw_of field rank doc r
      same r = ap (λ n. at_raw field doc r && (n == rank)) (raw_rank r)
          ∙ swap_last (r.field == field) (order_rank r.class == rank) (r.doc == doc)

  -- the keys of a document by class are the same
  pub alike_keys : (xs ys : List Raw) (field doc : ℕ) → AreAlike xs ys
      → by_class (keys_at (map (raw_placed signs texts addresses) xs) field doc)
      ≡ by_class (keys_at (map (raw_placed signs texts addresses) ys) field doc)
  alike_keys xs ys field doc alike =
      ap by_class (keys_are xs field doc)
      ∙ same_classes (map key_in (filter (at_raw field doc) xs))
      (map key_in (filter (at_raw field doc) ys))
      (λ rank. class_is xs field doc rank ∙ ap (map key_in) (alike field rank doc)
      ∙ sym (class_is ys field doc rank))
      ∙ ap by_class (sym (keys_are ys field doc))
