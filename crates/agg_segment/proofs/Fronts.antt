-- Texts compare as their first bytes do, where these differ.
use Rattle.std.proofs.Common.{◌≡◌, ◌+◌, ◌*◌, ◌^◌, ◌<◌, ◌≤◌, ℕ, List, [], ◌∷◌, get_or, map, length}
use Rattle.std.proofs.Common.{refl, sym, ap, subst, ◌∙◌, inl, inr, arith, Less}
use Rattle.std.proofs.Common.{Greater}
use Rattle.std.specs.Prelude.{zero, suc}
use Rattle.std.specs.List.{All}
use Rattle.std.specs.List.Sorted.{IsSortedBy}
use Rattle.std.specs.Cmp.{IsTotalOrder}
use Rattle.std.specs.Ordering.{nat_cmp, ordering_then, ordering_reverse, is_lt}
use Rattle.std.proofs.Math.Nat.{pow-suc, mul-le-mul_right, pow-le-pow_right, one-le-pow}
use Rattle.std.proofs.lemmas.Bool.{cases_order}
use Rattle.std.proofs.lemmas.Bool.Decides.{nat_tests}
use Rattle.std.proofs.lemmas.Cmp.{nat_cmp_total, nat_list_cmp_total, then_total, on_total}
use Rattle.std.proofs.lemmas.Cmp.{tied_itself}
use Rattle.std.proofs.lemmas.List.{get_or-map, get_or_default, length-map}
use Rattle.std.proofs.lemmas.List.Elements.{All-head, All-tail}
use Rattle.agg_values.specs.Names.{name_cmp}
use Rattle.agg_segment.specs.storage.Dictionary.{text_at, AreByText}
use Rattle.agg_segment.specs.Fronts.{front_number, keyed_cmp, AreBytes, IsKeyed}
use Rattle.agg_segment.specs.declared.gatherings.by_text.KeyedPlace.{KeyedPlace}

-- ---- one more digit

front_more : (n : ℕ) (bytes : List ℕ)
    → front_number (suc n) bytes ≡ front_number n bytes * 256 + get_or bytes n 0
front_more zero [] = refl
front_more zero (b ∷ bytes) = omega arith
front_more (suc n) [] = refl
front_more (suc n) (b ∷ bytes) =
    omega (arith, front_more n bytes, ap (λ p. b * p) (pow-suc 256 n))

pub front_next : (n : ℕ) (bytes : List ℕ)
    → front_number (n + 1) bytes ≡ front_number n bytes * 256 + get_or bytes n 0
front_next n bytes =
    let next : n + 1 ≡ suc n = omega arith in
    ap (λ k. front_number k bytes) next ∙ front_more n bytes

-- ---- the digits are below the base

pub front_below : (n : ℕ) (bytes : List ℕ) → AreBytes bytes → front_number n bytes < 256 ^ n
front_below zero bytes are = omega arith
front_below (suc n) [] are = omega (arith, one-le-pow (suc n) 256 (omega arith))
front_below (suc n) (b ∷ bytes) are =
    let low : b < 256 = All-head (λ byte. byte < 256) b bytes are in
    let rest = front_below n bytes (All-tail (λ byte. byte < 256) b bytes are) in
    let product : (b + 1) * 256 ^ n ≤ 256 * 256 ^ n =
    mul-le-mul_right (256 ^ n) (omega (arith, low)) in
    omega (arith, rest, product, pow-suc 256 n)

are_bytes : (bytes : List ℕ) → ((i : ℕ) → get_or bytes i 0 < 256) → AreBytes bytes
are_bytes bytes each k d l = subst (λ b. b < 256) (get_or_default bytes k 0 d l) (each k)

-- there is room for one more digit
pub front_short : (n : ℕ) (bytes : List ℕ) → ((i : ℕ) → get_or bytes i 0 < 256) → n < 8
    → front_number n bytes < 256 ^ 7
front_short n bytes each short =
    let up_to : n ≤ 7 = omega (arith, short) in
    let most : 256 ^ n ≤ 256 ^ 7 = pow-le-pow_right (omega arith) up_to in
    omega (arith, front_below n bytes (are_bytes bytes each), most)

front_less : (n : ℕ) (xs ys : List ℕ) → AreBytes xs → AreBytes ys
    → front_number n xs < front_number n ys → name_cmp xs ys ≡ Less
front_less zero xs ys are_x are_y less = absurd (omega (arith, less))
front_less (suc n) [] [] are_x are_y less = absurd (omega (arith, less))
front_less (suc n) [] (y ∷ ys) are_x are_y less = refl
front_less (suc n) (x ∷ xs) [] are_x are_y less = absurd (omega (arith, less))
front_less (suc n) (x ∷ xs) (y ∷ ys) are_x are_y less = elim (cases_order x y) [
  | inl same ↦
      let alike : x * 256 ^ n ≡ y * 256 ^ n = ap (λ b. b * 256 ^ n) same in
      let rest = front_less n xs ys (All-tail (λ byte. byte < 256) x xs are_x)
      (All-tail (λ byte. byte < 256) y ys are_y) (omega (arith, less, alike)) in
      rw (same, tied_itself nat_cmp_total y) rest
  | inr (inl low) ↦
      let first : nat_cmp x y ≡ Less = grind (arith, nat_tests) in
      ap (λ o. ordering_then o (name_cmp xs ys)) first
  | inr (inr high) ↦
      let product : (y + 1) * 256 ^ n ≤ x * 256 ^ n = mul-le-mul_right (256 ^ n)
      (omega (arith, high)) in
      let below = front_below n ys (All-tail (λ byte. byte < 256) y ys are_y) in
      absurd (omega (arith, less, product, below))
]

-- ---- the order by front and text

pub then_front : (n : ℕ) (xs ys : List ℕ) → AreBytes xs → AreBytes ys
    → ordering_then (nat_cmp (front_number n xs) (front_number n ys)) (name_cmp xs ys)
    ≡ name_cmp xs ys
then_front n xs ys are_x are_y =
    elim (cases_order (front_number n xs) (front_number n ys)) [
      | inl same ↦ rw (same, tied_itself nat_cmp_total (front_number n ys)) refl
      | inr (inl low) ↦
          let first : nat_cmp (front_number n xs) (front_number n ys) ≡ Less =
          grind (arith, nat_tests) in
          ap (λ o. ordering_then o (name_cmp xs ys)) first
          ∙ sym (front_less n xs ys are_x are_y low)
      | inr (inr high) ↦
          let first : nat_cmp (front_number n xs) (front_number n ys) ≡ Greater =
          grind (arith, nat_tests) in
          ap (λ o. ordering_then o (name_cmp xs ys)) first
          ∙ sym (nat_list_cmp_total.antisymm xs ys
          ∙ ap ordering_reverse (front_less n ys xs are_y are_x high))
    ]

pub keyed_total : (texts : List (List ℕ)) → IsTotalOrder (keyed_cmp texts)
keyed_total texts = then_total (on_total (λ (k : KeyedPlace). k.front) nat_cmp_total)
    (on_total (λ (k : KeyedPlace). text_at texts k.place) nat_list_cmp_total)

-- two places that have their fronts compare as their texts
keyed_is : (texts : List (List ℕ)) (a b : KeyedPlace) → IsKeyed texts a → IsKeyed texts b
    → keyed_cmp texts a b ≡ name_cmp (text_at texts a.place) (text_at texts b.place)
keyed_is texts a b (bytes_a, is_a) (bytes_b, is_b) =
    rw (is_a, is_b) (then_front 8 (text_at texts a.place) (text_at texts b.place) bytes_a bytes_b)

-- places in the order of their fronts and texts ascend by text
pub places_ascend : (texts : List (List ℕ)) (keyed : List KeyedPlace)
    → All (IsKeyed texts) keyed → IsSortedBy (λ a b. is_lt (keyed_cmp texts a b)) keyed
    → AreByText texts (map (λ k. k.place) keyed)
places_ascend texts keyed are sorted k d from within =
    let place : KeyedPlace → ℕ = λ one. one.place in
    let e : KeyedPlace = record { front = 0; place = d } in
    let long : length (map place keyed) ≡ length keyed = length-map keyed place in
    let next : k + 1 < length keyed = omega (arith, within, long) in
    let here : k < length keyed = omega (arith, next) in
    let later : KeyedPlace = get_or keyed (k + 1) e in
    let first : KeyedPlace = get_or keyed k e in
    rw (get_or-map place keyed (k + 1) e d next, get_or-map place keyed k e d here)
    (ap is_lt (sym (keyed_is texts later first (are (k + 1) e next) (are k e here)))
    ∙ sorted k e from next)
