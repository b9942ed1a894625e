-- The order of keys is total, and exact on canonical keys.
use Rattle.std.proofs.Common.{◌≡◌, ◌≢◌, ℕ, ◌^◌, List, true, false, cond, eqb, ℤ, pos, Ordering}
use Rattle.std.proofs.Common.{Less, Equal, Greater, refl, sym, ◌∙◌, arith}
use Rattle.std.proofs.lemmas.Cmp.{on_total, then_total, back_total, nat_cmp_total, int_cmp_total}
use Rattle.std.proofs.lemmas.Cmp.{nat_list_cmp_total}
use Rattle.std.proofs.lemmas.Map.Lookups.{exact_unsigned, exact_signed, exact_bytes}
use Rattle.std.proofs.lemmas.Bool.Decides.{nat_tests}
use Rattle.std.proofs.lemmas.Int.{ints}
use Rattle.std.specs.Cmp.{IsTotalOrder, then_flip}
use Rattle.std.specs.Prelude.{int_lt, unsigned_abs}
use Rattle.std.specs.Ordering.{nat_cmp, ordering_then, ordering_reverse}
use Rattle.agg_values.specs.Column.{class_rank}
use Rattle.agg_values.specs.TypedKey.{truth_or_number, address_of, text_of, IsCanonical}
use Rattle.agg_values.specs.KeyOrder.{ascending_order, directed, null_rank, key_order}
use Rattle.agg_values.specs.Laws.{IsExactOn, IsReverseOn}
use Rattle.agg_values.specs.TypedKey.{CompositeIntermediateKey}
use Rattle.agg_values.specs.TypedKey.key.{Bool as Truth, Str, I64, U64, DateTime, IpAddr, Null}
use Rattle.agg_values.specs.declared.order.Order.{Order}
use Rattle.agg_values.specs.declared.order.Order.TheVariants.{Asc, Desc}
use Rattle.agg_values.specs.declared.order.MissingOrder.{MissingOrder}
use Rattle.agg_values.specs.declared.order.MissingOrder.TheVariants.{Default}

pub ascending_order-total : IsTotalOrder ascending_order
ascending_order-total =
    then_total (on_total class_rank nat_cmp_total)
    (then_total (on_total truth_or_number int_cmp_total)
    (then_total (on_total address_of nat_cmp_total) (on_total text_of nat_list_cmp_total)))

pub directed-total : (order : Order) → IsTotalOrder (directed order ascending_order)
directed-total Asc = ascending_order-total
directed-total Desc = back_total ascending_order-total

-- the order of keys is total, for each order and missing order
pub key_order-total : (order : Order) (missing : MissingOrder)
    → IsTotalOrder (key_order order missing)
key_order-total order missing = then_total (on_total (null_rank order missing) nat_cmp_total)
    (directed-total order)

-- two orders in a row are equal where both are
pub then_equal : (a b : Ordering) → ordering_then a b ≡ Equal → (a ≡ Equal) × (b ≡ Equal)
then_equal Less b e = cc
then_equal Equal b e = (refl, e)
then_equal Greater b e = cc

-- the key of a class with this content
abbrev rebuilt : ℕ → ℤ → ℕ → List ℕ → CompositeIntermediateKey
rebuilt class number address text =
    cond (eqb class 0) Null
    (cond (eqb class 1) (Truth (int_lt (pos 0) number))
    (cond (eqb class 2) (Str text)
    (cond (eqb class 3) (cond (int_lt number (pos (2 ^ 63))) (I64 number)
    (U64 (unsigned_abs number)))
    (cond (eqb class 4) (IpAddr (record { 0 = address })) (DateTime number)))))

rebuilt-same : (key : CompositeIntermediateKey) → IsCanonical key
    → rebuilt (class_rank key) (truth_or_number key) (address_of key) (text_of key) ≡ key
rebuilt-same Null h = refl
rebuilt-same (Truth true) h = refl
rebuilt-same (Truth false) h = refl
rebuilt-same (Str text) h = refl
rebuilt-same (I64 n) h = grind (arith, ints)
rebuilt-same (U64 n) h = grind (arith, nat_tests)
rebuilt-same (IpAddr a) h = refl
rebuilt-same (DateTime ns) h = refl

-- where nothing in the ascending order differs, the keys are the same
pub ascending_order-exact : IsExactOn IsCanonical ascending_order
ascending_order-exact k l in_k in_l e =
    let class = then_equal _ _ e in
    let number = then_equal _ _ class.1 in
    let address = then_equal _ _ number.1 in
    let same_class : class_rank k ≡ class_rank l = exact_unsigned _ _ class.0 in
    let same_number : truth_or_number k ≡ truth_or_number l = exact_signed _ _ number.0 in
    let same_address : address_of k ≡ address_of l = exact_unsigned _ _ address.0 in
    let same_text : text_of k ≡ text_of l = exact_bytes _ _ address.1 in
    sym (rebuilt-same k in_k) ∙ (λ i. rebuilt (same_class i) (same_number i) (same_address i)
    (same_text i)) ∙ rebuilt-same l in_l

directed-exact : (order : Order) → IsExactOn IsCanonical (directed order ascending_order)
directed-exact Asc k l in_k in_l e = ascending_order-exact k l in_k in_l e
directed-exact Desc k l in_k in_l e = sym (ascending_order-exact l k in_l in_k e)

-- on canonical keys Equal is answered only for the same key
pub key_order-exact : (order : Order) (missing : MissingOrder)
    → IsExactOn IsCanonical (key_order order missing)
key_order-exact order missing k l in_k in_l e = directed-exact order k l in_k in_l
    (then_equal _ _ e).1

null_rank-value : (order : Order) (missing : MissingOrder) (k : CompositeIntermediateKey)
    → (k ≢ Null) → null_rank order missing k ≡ 1
null_rank-value order missing Null n = absurd (n refl)
null_rank-value order missing _ n = refl

level : (a b : ℕ) → a ≡ 1 → b ≡ 1 → nat_cmp a b ≡ Equal
level a b p q = rw (p, q)

-- on values Desc is the reverse of Asc, whatever the missing order
pub key_order-reversed_values : (missing : MissingOrder)
    → IsReverseOn (λ k. k ≢ Null) (key_order Desc missing) (key_order Asc missing)
key_order-reversed_values missing k l some_k some_l =
    let desc = level _ _ (null_rank-value Desc missing k some_k) (null_rank-value Desc missing l
    some_l) in
    let asc = level _ _ (null_rank-value Asc missing k some_k) (null_rank-value Asc missing l
    some_l) in
    (λ i. ordering_then (desc i) (ascending_order l k)) ∙ ascending_order-total.antisymm l k
    ∙ (λ i. ordering_reverse (ordering_then (sym asc i) (ascending_order k l)))

sides_reversed : (k l : CompositeIntermediateKey)
    → nat_cmp (null_rank Desc Default k) (null_rank Desc Default l)
    ≡ ordering_reverse (nat_cmp (null_rank Asc Default k) (null_rank Asc Default l))
sides_reversed Null Null = refl
sides_reversed Null _ = refl
sides_reversed _ Null = refl
sides_reversed _ _ = refl

-- under Default Desc is the reverse of Asc
pub key_order-reversed : IsReverseOn (λ k. Unit {0}) (key_order Desc Default)
    (key_order Asc Default)
key_order-reversed k l _ _ =
    (λ i. ordering_then (sides_reversed k l i) (ascending_order-total.antisymm l k i))
    ∙ then_flip (nat_cmp (null_rank Asc Default k) (null_rank Asc Default l))
    (ascending_order k l)
