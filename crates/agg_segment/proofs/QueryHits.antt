-- Where a value stands among the numbers of a column of texts or of addresses.
use Rattle.std.proofs.Common.{◌≡◌, ◌∙◌, refl, sym, ap, subst, ℕ, ◌<◌, ◌≤◌, List, get_or, length}
use Rattle.std.proofs.Common.{arith, Ordering, Less, Equal, Greater}
use Rattle.std.proofs.lemmas.Bool.Decides.{nat_tests}
use Rattle.std.proofs.lemmas.Cmp.{ranked, by_ranked, tied_itself, on_total, nat_cmp_total}
use Rattle.std.proofs.lemmas.Cmp.{nat_list_cmp_total}
use Rattle.std.proofs.lemmas.Map.Keys.{Less-from_sorted}
use Rattle.std.specs.Cmp.{IsTotalOrder}
use Rattle.std.specs.List.Sorted.{IsStrictlySortedBy}
use Rattle.std.specs.Ordering.{nat_cmp, ordering_then, ordering_reverse}
use Rattle.agg_values.specs.Names.{name_cmp}
use Rattle.agg_values.specs.declared.address.Address.{Address}
use Rattle.agg_segment.specs.storage.Columns.{type_of, texts_of, addresses_of}
use Rattle.agg_segment.specs.storage.Dictionary.{IsHit, address_cmp}
use Rattle.agg_segment.specs.Spans.{hit_cmp, IsHitOf}
use Rattle.agg_segment.specs.declared.storage.document.FieldValue.TheVariants as value
use Rattle.agg_segment.specs.declared.storage.hit.ColumnType.TheVariants as kind
use Rattle.agg_segment.specs.declared.storage.hit.OrdHit.{OrdHit}
use Rattle.agg_segment.specs.declared.storage.hit.OrdHit.TheVariants.{Exact, Next, AfterLast}
use Rattle.agg_segment.specs.declared.storage.keys.ColumnKeys.{ColumnKeys}
use Rattle.agg_segment.specs.declared.storage.keys.ColumnKeys.TheVariants.{Bools, Texts, Signed}
use Rattle.agg_segment.specs.declared.storage.keys.ColumnKeys.TheVariants.{Unsigned, Addresses}
use Rattle.agg_segment.specs.declared.storage.keys.ColumnKeys.TheVariants.{Dates}

next_less : (n place : ℕ) → n < place → hit_cmp (Next place) n ≡ Less
next_less n place l = grind (arith, nat_tests)

next_greater : (n place : ℕ) → place ≤ n → hit_cmp (Next place) n ≡ Greater
next_greater n place l = grind (arith, nat_tests)

module _ {X : Type 0} {cmp : X → X → Ordering} (o : IsTotalOrder cmp) where
  turned : (x y : X) → cmp x y ≡ Less → cmp y x ≡ Greater
  turned x y less = o.antisymm y x ∙ ap ordering_reverse less

  turned_back : (x y : X) → cmp x y ≡ Greater → cmp y x ≡ Less
  turned_back x y greater = o.antisymm y x ∙ ap ordering_reverse greater

  -- items that ascend compare with a value as their places do with its hit
  cmp_from_hit : (items : List X) (x : X) (hit : OrdHit) → IsStrictlySortedBy cmp items
      → IsHit cmp items x hit → (n : ℕ) (d : X) → n < length items
      → cmp (get_or items n d) x ≡ hit_cmp hit n
  cmp_from_hit items x (Exact place) sorted (within, below, at) n d l =
      by_ranked (n < place) (n ≡ place) (place < n) (nat_cmp n place)
      (ranked n place (nat_cmp n place) refl)
      (λ e before. below n before d ∙ sym e)
      (λ e same. ap (λ k. cmp (get_or items k d) x) same ∙ ap (λ y. cmp y x) (at d)
      ∙ tied_itself o x ∙ sym e)
      (λ e past. turned x (get_or items n d) (subst (λ y. cmp y (get_or items n d) ≡ Less) (at d)
      (Less-from_sorted cmp items place n d sorted past l)) ∙ sym e)
  cmp_from_hit items x (Next place) sorted (within, below, at) n d l =
      by_ranked (n < place) (n ≡ place) (place < n) (nat_cmp n place)
      (ranked n place (nat_cmp n place) refl)
      (λ e before. below n before d ∙ sym (next_less n place before))
      (λ e same. ap (λ k. cmp (get_or items k d) x) same ∙ at d
      ∙ sym (next_greater n place (omega (arith, same))))
      (λ e past. turned x (get_or items n d) (o.trans x (get_or items place d) (get_or items n d)
      (turned_back (get_or items place d) x (at d)) (Less-from_sorted cmp items place n d sorted
      past l)) ∙ sym (next_greater n place (omega (arith, past))))
  cmp_from_hit items x AfterLast sorted below n d l = below n l d

then_nothing : (o : Ordering) → ordering_then o Equal ≡ o
then_nothing Less = refl
then_nothing Equal = refl
then_nothing Greater = refl

-- the hit of a text is that among the numbers of the column
pub text_hit : (keys : ColumnKeys) (text : List ℕ) (hit : OrdHit) → type_of keys ≡ kind.Str
    → IsStrictlySortedBy name_cmp (texts_of keys) → IsHit name_cmp (texts_of keys) text hit
    → IsHitOf keys (value.Str text) hit
text_hit Bools text hit is = absurd (cc)
text_hit (Texts texts) text hit is = λ sorted found n within. cmp_from_hit nat_list_cmp_total
    texts text hit sorted found n _ within.1
text_hit Signed text hit is = absurd (cc)
text_hit Unsigned text hit is = absurd (cc)
text_hit (Addresses addresses) text hit is = absurd (cc)
text_hit Dates text hit is = absurd (cc)

-- the same of an address
pub address_hit : (keys : ColumnKeys) (address : Address) (hit : OrdHit)
    → type_of keys ≡ kind.IpAddr → IsStrictlySortedBy address_cmp (addresses_of keys)
    → IsHit address_cmp (addresses_of keys) address hit → IsHitOf keys (value.Ip address) hit
address_hit Bools address hit is = absurd (cc)
address_hit (Texts texts) address hit is = absurd (cc)
address_hit Signed address hit is = absurd (cc)
address_hit Unsigned address hit is = absurd (cc)
address_hit (Addresses addresses) address hit is = λ sorted found n within.
    then_nothing _ ∙ cmp_from_hit (on_total (λ (a : Address). a.0) nat_cmp_total) addresses
    address hit sorted found n _ within.1
address_hit Dates address hit is = absurd (cc)
