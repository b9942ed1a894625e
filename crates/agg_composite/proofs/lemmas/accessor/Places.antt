-- Where after keys stand among the numbers of columns.
use Rattle.std.proofs.Common.{◌≡◌, ◌<◌, ◌≤◌, ℕ, List, length, get_or, inl, inr, Bool}
use Rattle.std.proofs.Common.{true, false, nat_lt, Ordering, Less, Equal, Greater, refl, sym, ap}
use Rattle.std.proofs.Common.{◌∙◌, arith}
use Rattle.std.proofs.lemmas.Bool.{cases_eq, cases_lt}
use Rattle.std.proofs.lemmas.Bool.Decides.{nat_tests}
use Rattle.std.proofs.lemmas.Cmp.{by_ranked, nat_cmp_total, on_total, ranked, tied_itself}
use Rattle.std.proofs.lemmas.Cmp.{nat_list_cmp_total}
use Rattle.std.proofs.lemmas.Map.Keys.{Less-from_sorted}
use Rattle.std.specs.Cmp.{IsTotalOrder}
use Rattle.std.specs.List.Sorted.{IsStrictlySortedBy}
use Rattle.std.specs.Ordering.{nat_cmp, ordering_reverse, ordering_then}
use Rattle.std.specs.Prelude.{if◌then◌else◌, not}
use Rattle.agg_values.specs.KeyOrder.{ascending_order, key_order}
use Rattle.agg_values.specs.Names.{name_cmp}
use Rattle.agg_values.specs.Column.{class_rank}
use Rattle.agg_values.specs.TypedKey.{CompositeIntermediateKey}
use Rattle.agg_values.specs.TypedKey.key.{IpAddr, Str}
use Rattle.agg_values.specs.declared.address.Address.{Address}
use Rattle.agg_values.specs.declared.order.MissingOrder.{MissingOrder}
use Rattle.agg_values.specs.declared.order.Order.{Order}
use Rattle.agg_values.specs.declared.order.Order.TheVariants.{Asc, Desc}
use Rattle.agg_values.proofs.KeyOrder.{ascending_order-total}
use Rattle.agg_segment.specs.storage.Columns.{StandsForKey, addresses_of, encoded_key, keys_rank}
use Rattle.agg_segment.specs.storage.Columns.{texts_of}
use Rattle.agg_segment.specs.storage.Dictionary.{IsHit, address_cmp}
use Rattle.agg_segment.specs.declared.storage.hit.OrdHit.{OrdHit}
use Rattle.agg_segment.specs.declared.storage.hit.OrdHit.TheVariants as hit
use Rattle.agg_segment.specs.declared.storage.keys.ColumnKeys.{ColumnKeys}
use Rattle.agg_segment.specs.declared.storage.keys.ColumnKeys.TheVariants.{Bools, Texts, Signed}
use Rattle.agg_segment.specs.declared.storage.keys.ColumnKeys.TheVariants.{Unsigned, Addresses}
use Rattle.agg_segment.specs.declared.storage.keys.ColumnKeys.TheVariants.{Dates}
use Rattle.agg_composite.specs.accessor.AfterKey.{projected_side}
use Rattle.agg_composite.specs.accessor.Places.{IsPlaceOf, hit_place}
use Rattle.agg_composite.specs.declared.accessor.after_key.PrecomputedAfterKey.{PrecomputedAfterKey}
use Rattle.agg_composite.specs.declared.accessor.after_key.PrecomputedAfterKey.TheVariants.{
  AfterLast,
}
use Rattle.agg_composite.specs.declared.accessor.after_key.PrecomputedAfterKey.TheVariants.{Exact}
use Rattle.agg_composite.specs.declared.accessor.after_key.PrecomputedAfterKey.TheVariants.{Next}
use Rattle.agg_composite.proofs.lemmas.accessor.KeyClasses.{encoded-rank, some_rank}
use Rattle.agg_composite.proofs.lemmas.accessor.KeyComparisons.{decided, values-order}

-- ---- both orders

-- a number compares with that of an after key
exact_side : (after number : ℕ) → projected_side Asc (Exact after) number ≡ nat_cmp number after
exact_side after number = grind (arith, nat_tests)

exact_side-Desc : (after number : ℕ)
    → projected_side Desc (Exact after) number ≡ nat_cmp after number
exact_side-Desc after number = grind (arith, nat_tests)

turned : (b : Bool)
    → (if not b then Less else Greater) ≡ ordering_reverse (if b then Less else Greater)
turned true = refl
turned false = refl

-- in Desc a number stands to a place in reverse
side-reversed : (place : PrecomputedAfterKey) (number : ℕ)
    → projected_side Desc place number ≡ ordering_reverse (projected_side Asc place number)
side-reversed (Exact after) number =
    exact_side-Desc after number ∙ nat_cmp_total.antisymm after number
    ∙ ap ordering_reverse (sym (exact_side after number))
side-reversed (Next after) number = turned (nat_lt number after)
side-reversed AfterLast number = refl

side-in_order : (order : Order) (place : PrecomputedAfterKey) (number : ℕ)
    (k l : CompositeIntermediateKey) (missing : MissingOrder)
    → 0 < class_rank k → 0 < class_rank l
    → projected_side Asc place number ≡ ascending_order k l
    → projected_side order place number ≡ key_order order missing k l
side-in_order Asc place number k l missing some_k some_l is =
    is ∙ sym (values-order Asc missing k l some_k some_l)
side-in_order Desc place number k l missing some_k some_l is =
    side-reversed place number ∙ ap ordering_reverse is
    ∙ sym (ascending_order-total.antisymm l k)
    ∙ sym (values-order Desc missing k l some_k some_l)

-- a place in ascending order serves each order
pub requested_side : (order : Order) (missing : MissingOrder) (keys : ColumnKeys)
    (k : CompositeIntermediateKey) (place : PrecomputedAfterKey) → 0 < class_rank k
    → IsPlaceOf keys k place → (number : ℕ) → StandsForKey keys number
    → projected_side order place number ≡ key_order order missing (encoded_key keys number) k
requested_side order missing keys k place some is number stands =
    side-in_order order place number (encoded_key keys number) k missing
    (rw (encoded-rank keys number) (some_rank keys)) some (is number stands)

-- ---- other classes

-- a key of a class above those of a column comes after its numbers
pub class_above : (keys : ColumnKeys) (k : CompositeIntermediateKey)
    → nat_cmp (keys_rank keys) (class_rank k) ≡ Less → IsPlaceOf keys k AfterLast
class_above keys k is number stands =
    sym (decided (nat_cmp (class_rank (encoded_key keys number)) (class_rank k)) _ Less
    ((λ x. nat_cmp (encoded-rank keys number x) (class_rank k)) ∙ is) (λ x. cc))

none_below : (number : ℕ) → projected_side Asc (Next 0) number ≡ Greater
none_below number = grind (arith, nat_tests)

-- a key of a class below those of a column is before its numbers
pub class_below : (keys : ColumnKeys) (k : CompositeIntermediateKey)
    → nat_cmp (keys_rank keys) (class_rank k) ≡ Greater → IsPlaceOf keys k (Next 0)
class_below keys k is number stands =
    none_below number
    ∙ sym (decided (nat_cmp (class_rank (encoded_key keys number)) (class_rank k)) _ Greater
    ((λ x. nat_cmp (encoded-rank keys number x) (class_rank k)) ∙ is) (λ x. cc))

-- ---- hits

module _ {X : Type 0} (cmp : X → X → Ordering) (total : IsTotalOrder cmp) (items : List X) (x : X)
    (sorted : IsStrictlySortedBy cmp items) where
  above : (ordinal number : ℕ) (d : X) → ordinal < number → number < length items
      → cmp x (get_or items ordinal d) ≡ Equal → cmp x (get_or items number d) ≡ Less
  above ordinal number d later within tied =
      total.congr x (get_or items ordinal d) (get_or items number d) tied
      ∙ Less-from_sorted cmp items ordinal number d sorted later within

  back : (y : X) → cmp x y ≡ Less → cmp y x ≡ Greater
  back y is = total.antisymm y x ∙ ap ordering_reverse is

  next_above : (ordinal number : ℕ) (d : X) → ordinal ≤ number → number < length items
      → cmp (get_or items ordinal d) x ≡ Greater → cmp (get_or items number d) x ≡ Greater
  next_above ordinal number d from within is = elim (cases_eq ordinal number) [
    | inl same ↦ (λ i. cmp (get_or items (sym same i) d) x) ∙ is
    | inr other ↦
        let first : cmp x (get_or items ordinal d) ≡ Less =
        total.antisymm x (get_or items ordinal d) ∙ ap ordering_reverse is in
        back (get_or items number d)
        (total.trans x (get_or items ordinal d) (get_or items number d) first
        (Less-from_sorted cmp items ordinal number d sorted (omega (arith, from, other)) within))
  ]

  -- an item's ordinal stands to a hit as the item does to what was looked for
  pub hit_side : (found : OrdHit) → IsHit cmp items x found → (number : ℕ) (d : X)
      → number < length items
      → projected_side Asc (hit_place found) number ≡ cmp (get_or items number d) x
  hit_side (hit.Exact ordinal) (within, below, at) number d l =
      exact_side ordinal number
      ∙ by_ranked (number < ordinal) (number ≡ ordinal) (ordinal < number) (nat_cmp number ordinal)
      (ranked number ordinal (nat_cmp number ordinal) refl)
      (λ o before. o ∙ sym (below number before d))
      (λ o same. o ∙ sym ((λ i. cmp (get_or items (same i) d) x) ∙ (λ i. cmp (at d i) x)
      ∙ tied_itself total x))
      (λ o later. o ∙ sym (back (get_or items number d) (above ordinal number d later l
      ((λ i. cmp x (at d i)) ∙ tied_itself total x))))
  hit_side (hit.Next ordinal) (within, below, at) number d l = elim (cases_lt number ordinal) [
    | inl before ↦
        let is : nat_lt number ordinal ≡ true = grind (arith, nat_tests) in
        (λ i. if is i then Less else Greater) ∙ sym (below number before d)
    | inr later ↦
        let is : nat_lt number ordinal ≡ false = grind (arith, nat_tests) in
        (λ i. if is i then Less else Greater) ∙ sym (next_above ordinal number d later l (at d))
  ]
  hit_side hit.AfterLast below number d l = sym (below number l d)

-- the place at a text's hit is the text's
pub text_place : (keys : ColumnKeys) (text : List ℕ) (found : OrdHit) → keys_rank keys ≡ 2
    → IsStrictlySortedBy name_cmp (texts_of keys) → IsHit name_cmp (texts_of keys) text found
    → IsPlaceOf keys (Str text) (hit_place found)
text_place (Texts texts) text found rank sorted is number stands =
    hit_side name_cmp nat_list_cmp_total texts text sorted found is number _ stands
text_place Bools text found rank sorted is number stands = absurd (omega (arith, rank))
text_place Signed text found rank sorted is number stands = absurd (omega (arith, rank))
text_place Unsigned text found rank sorted is number stands = absurd (omega (arith, rank))
text_place (Addresses addresses) text found rank sorted is number stands =
    absurd (omega (arith, rank))
text_place Dates text found rank sorted is number stands = absurd (omega (arith, rank))

then_nothing : (o : Ordering) → ordering_then o Equal ≡ o
then_nothing Less = refl
then_nothing Equal = refl
then_nothing Greater = refl

-- the place at an address's hit is the address's
pub address_place : (keys : ColumnKeys) (address : Address) (found : OrdHit) → keys_rank keys ≡ 4
    → IsStrictlySortedBy address_cmp (addresses_of keys)
    → IsHit address_cmp (addresses_of keys) address found
    → IsPlaceOf keys (IpAddr address) (hit_place found)
address_place (Addresses addresses) address found rank sorted is number stands =
    hit_side address_cmp (on_total (λ a. a.0) nat_cmp_total) addresses address sorted found is
    number _ stands ∙ sym (then_nothing _)
address_place Bools address found rank sorted is number stands = absurd (omega (arith, rank))
address_place (Texts texts) address found rank sorted is number stands =
    absurd (omega (arith, rank))
address_place Signed address found rank sorted is number stands = absurd (omega (arith, rank))
address_place Unsigned address found rank sorted is number stands = absurd (omega (arith, rank))
address_place Dates address found rank sorted is number stands = absurd (omega (arith, rank))
