-- How keys compare: by whether they are Null, by their classes, and in one column by number.
use Rattle.std.proofs.Common.{◌≡◌, ◌≢◌, ℕ, ◌-◌, ◌<◌, ◌^◌, ◌⊎◌, inl, inr, Ordering, Less, Equal}
use Rattle.std.proofs.Common.{Greater, refl, ap, ◌∙◌, arith}
use Rattle.std.proofs.lemmas.Bool.Decides.{nat_tests}
use Rattle.std.specs.Ordering.{nat_cmp, ordering_then}
use Rattle.agg_values.specs.KeyOrder.{ascending_order, directed, null_rank, null_side, key_order}
use Rattle.agg_values.specs.Column.{class_rank}
use Rattle.agg_values.specs.TypedKey.{CompositeIntermediateKey}
use Rattle.agg_values.specs.TypedKey.key.{Null}
use Rattle.agg_values.specs.declared.order.MissingOrder.{MissingOrder}
use Rattle.agg_values.specs.declared.order.MissingOrder.TheVariants.{Default, First, Last}
use Rattle.agg_values.specs.declared.order.Order.{Order}
use Rattle.agg_values.specs.declared.order.Order.TheVariants.{Asc, Desc}
use Rattle.agg_segment.specs.storage.Columns.{AreInKeyOrder, StandsForKey, encoded_key}
use Rattle.agg_segment.specs.declared.storage.keys.ColumnKeys.{ColumnKeys}
use Rattle.agg_composite.specs.accessor.Encoding.{raw_of}
use Rattle.agg_composite.specs.accessor.Lanes.{class_order}

pub null_rank-of_class : (order : Order) (missing : MissingOrder) (k : CompositeIntermediateKey)
    → 0 < class_rank k → null_rank order missing k ≡ 1
null_rank-of_class order missing Null l = absurd (omega arith)
null_rank-of_class order missing _ l = refl

-- where neither is Null, the order of keys is that of values
pub values-order : (order : Order) (missing : MissingOrder) (k l : CompositeIntermediateKey)
    → 0 < class_rank k → 0 < class_rank l
    → key_order order missing k l ≡ directed order ascending_order k l
values-order order missing k l some_k some_l =
    λ x. ordering_then (nat_cmp (null_rank-of_class order missing k some_k x)
    (null_rank-of_class order missing l some_l x)) (directed order ascending_order k l)

-- the first of two orders decides where it isn't Equal
pub decided : (a rest o : Ordering) → a ≡ o → (o ≢ Equal) → ordering_then a rest ≡ o
decided a rest Less e n = ap (λ p. ordering_then p rest) e
decided a rest Equal e n = absurd (n refl)
decided a rest Greater e n = ap (λ p. ordering_then p rest) e

-- where the classes differ, they decide
pub by_class : (order : Order) (k l : CompositeIntermediateKey) (o : Ordering)
    → class_order order (class_rank k) (class_rank l) ≡ o → (o ≢ Equal)
    → directed order ascending_order k l ≡ o
by_class Asc k l o e n = decided (nat_cmp (class_rank k) (class_rank l)) _ o e n
by_class Desc k l o e n = decided (nat_cmp (class_rank l) (class_rank k)) _ o e n

pub null_sides : (order : Order) (missing : MissingOrder)
    → (null_side order missing ≡ 0) ⊎ (null_side order missing ≡ 2)
null_sides order First = inl refl
null_sides order Last = inr refl
null_sides Asc Default = inl refl
null_sides Desc Default = inr refl

complements : (n m : ℕ) → n < 2 ^ 64 → m < 2 ^ 64
    → nat_cmp m n ≡ nat_cmp (2 ^ 64 - 1 - n) (2 ^ 64 - 1 - m)
complements n m fits_n fits_m = grind (arith, nat_tests)

-- keys of one column
pub in_column : (order : Order) (keys : ColumnKeys) → AreInKeyOrder keys → (n m : ℕ)
    → n < 2 ^ 64 → m < 2 ^ 64 → StandsForKey keys n → StandsForKey keys m
    → directed order ascending_order (encoded_key keys n) (encoded_key keys m)
    ≡ nat_cmp (raw_of order n) (raw_of order m)
in_column Asc keys ascend n m fits_n fits_m in_n in_m = ascend n m in_n in_m
in_column Desc keys ascend n m fits_n fits_m in_n in_m =
    ascend m n in_m in_n ∙ complements n m fits_n fits_m
