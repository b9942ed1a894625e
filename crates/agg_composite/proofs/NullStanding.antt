-- How Null stands to an after value.
use Rattle.std.proofs.Common.{◌≡◌, ◌≢◌, ◌⊎◌, inl, inr, Bool, true, false, Option, None, Some}
use Rattle.std.proofs.Common.{Ordering, Less, Equal, Greater, is_lt, refl, sym, ap, ◌∙◌, arith}
use Rattle.std.proofs.lemmas.Cmp.{tied_itself}
use Rattle.std.proofs.lemmas.Map.Lookups.{exact_unsigned}
use Rattle.agg_values.specs.KeyOrder.{key_order, null_rank, null_side}
use Rattle.agg_values.specs.TypedKey.{CompositeIntermediateKey}
use Rattle.agg_values.specs.TypedKey.key.{Null, Bool as Truth, Str, I64, U64, DateTime, IpAddr}
use Rattle.agg_values.specs.declared.order.Order.{Order}
use Rattle.agg_values.specs.declared.order.Order.TheVariants.{Asc, Desc}
use Rattle.agg_values.specs.declared.order.MissingOrder.{MissingOrder}
use Rattle.agg_values.specs.declared.order.MissingOrder.TheVariants.{Default, First, Last}
use Rattle.agg_values.proofs.KeyOrder.{key_order-total, then_equal}
use Rattle.agg_request_tree.specs.Source.{missing_order_of, order_of}
use Rattle.agg_request_tree.specs.declared.source.CompositeAggregationSource as kind
use kind.{CompositeAggregationSource}
use Rattle.agg_composite.specs.accessor.Accessors.{is_null, side_to}
use Rattle.agg_composite.specs.Choices.{missing_standing}

beside : (order : Order) (missing : MissingOrder)
    → (null_side order missing ≡ 0) ⊎ (null_side order missing ≡ 2)
beside order First = inl refl
beside order Last = inr refl
beside Asc Default = inl refl
beside Desc Default = inr refl

-- Null compares as Equal with no value
apart : (order : Order) (missing : MissingOrder) (k : CompositeIntermediateKey)
    → null_rank order missing k ≡ 1 → (key_order order missing Null k ≢ Equal)
apart order missing k value same =
    let ranks = then_equal _ _ same in
    let e : null_side order missing ≡ 1 = exact_unsigned _ _ ranks.0 ∙ value in
    elim (beside order missing) [
      | inl zero ↦ absurd (omega (arith, e, zero))
      | inr two ↦ absurd (omega (arith, e, two))
    ]

-- where neither is the other, Null comes before or after
by_side : (o : Ordering) → (o ≢ Equal) → missing_standing (is_lt o) false ≡ o
by_side Less n = refl
by_side Equal n = absurd (n refl)
by_side Greater n = refl

value-standing : (source : CompositeAggregationSource) (k : CompositeIntermediateKey)
    → null_rank (order_of source) (missing_order_of source) k ≡ 1
    → missing_standing (is_lt (side_to source (Some k) Null)) false ≡ side_to source (Some k) Null
value-standing source k value =
    by_side _ (apart (order_of source) (missing_order_of source) k value)

own-standing : (source : CompositeAggregationSource) (after : Option CompositeIntermediateKey)
    → missing_standing (is_lt (side_to source after Null)) (is_null after)
    ≡ side_to source after Null
own-standing source None = refl
own-standing source (Some Null) =
    let same : side_to source (Some Null) Null ≡ Equal =
    tied_itself (key_order-total (order_of source) (missing_order_of source)) Null in
    ap (λ o. missing_standing (is_lt o) true) same ∙ sym same
own-standing source (Some (Truth b)) = value-standing source (Truth b) refl
own-standing source (Some (Str text)) = value-standing source (Str text) refl
own-standing source (Some (I64 n)) = value-standing source (I64 n) refl
own-standing source (Some (U64 n)) = value-standing source (U64 n) refl
own-standing source (Some (IpAddr a)) = value-standing source (IpAddr a) refl
own-standing source (Some (DateTime ns)) = value-standing source (DateTime ns) refl

-- what accessors say of Null is how it stands to the after value
pub null-standing : (source : CompositeAggregationSource)
    (after : Option CompositeIntermediateKey) (skip explicit : Bool)
    → skip ≡ is_lt (side_to source after Null) → explicit ≡ is_null after
    → missing_standing skip explicit ≡ side_to source after Null
null-standing source after skip explicit s e =
    (λ i. missing_standing (s i) (e i)) ∙ own-standing source after
