-- The order of tuples is total, and exact on tuples of canonical keys.
use Rattle.std.proofs.Common.{◌≡◌, ℕ, [], ◌∷◌, Ordering, Equal, refl, sym, ap, ◌∙◌, arith}
use Rattle.std.proofs.lemmas.Cmp.{on_total, then_total, nat_cmp_total, tied_itself}
use Rattle.std.proofs.lemmas.List.Elements.{All-rest}
use Rattle.std.specs.Cmp.{IsTotalOrder}
use Rattle.std.specs.Ordering.{nat_cmp, on, then_cmp, ordering_then, ordering_reverse}
use Rattle.agg_values.specs.TypedKey.{IsCanonical}
use Rattle.agg_values.specs.KeyOrder.{SourceRules, key_order, tuple_order}
use Rattle.agg_values.specs.Tuple.{KeyTuple}
use Rattle.agg_values.specs.Laws.{IsExactOn, IsCanonicalTuple}
use Rattle.agg_values.specs.TypedKey.{CompositeIntermediateKey}
use Rattle.agg_values.specs.TypedKey.key.{Null}
use Rattle.agg_values.specs.declared.order.Order.{Order}
use Rattle.agg_values.specs.declared.order.MissingOrder.{MissingOrder}
use Rattle.agg_values.proofs.KeyOrder.{key_order-total, key_order-exact, then_equal}

-- an order that answers as a total one does is total
total_from_same : {K : Type 0} {R S : K → K → Ordering} → ((x y : K) → S x y ≡ R x y)
    → IsTotalOrder R → IsTotalOrder S
total_from_same {K} {R} {S} same total = record {
  antisymm = λ x y. same x y ∙ total.antisymm x y ∙ ap ordering_reverse (sym (same y x));
  trans = λ x y z xy yz. same x z ∙ total.trans x y z (sym (same x y) ∙ xy) (sym (same y z) ∙ yz);
  congr = λ x y z xy. same x z ∙ total.congr x y z (sym (same x y) ∙ xy) ∙ sym (same y z);
}

-- an ended tuple stands before one that goes on
abbrev going : KeyTuple → ℕ
going [] = 0
going (key ∷ keys) = 1

abbrev first_key : KeyTuple → CompositeIntermediateKey
first_key [] = Null
first_key (key ∷ keys) = key

abbrev other_keys : KeyTuple → KeyTuple
other_keys [] = []
other_keys (key ∷ keys) = keys

-- by whether the tuples go on, by their first keys, and by the rest
abbrev stepwise : Order × MissingOrder → SourceRules → KeyTuple → KeyTuple → Ordering
stepwise rule rules = then_cmp (on going nat_cmp) (then_cmp (on first_key (key_order rule.0 rule.1))
    (on other_keys (tuple_order rules)))

all_equal : (a b : Ordering) → a ≡ Equal → b ≡ Equal → ordering_then a b ≡ Equal
all_equal a b p q = cc

tuple_order-stepwise : (rule : Order × MissingOrder) (rules : SourceRules)
    → IsTotalOrder (tuple_order rules)
    → (ts us : KeyTuple) → tuple_order (rule ∷ rules) ts us ≡ stepwise rule rules ts us
tuple_order-stepwise rule rules rest [] [] =
    sym (all_equal _ _ (tied_itself (key_order-total rule.0 rule.1) Null) (tied_itself rest []))
tuple_order-stepwise rule rules rest [] (u ∷ us) = refl
tuple_order-stepwise rule rules rest (t ∷ ts) [] = refl
tuple_order-stepwise rule rules rest (t ∷ ts) (u ∷ us) = refl

-- the order of tuples is total, for each list of rules
pub tuple_order-total : (rules : SourceRules) → IsTotalOrder (tuple_order rules)
tuple_order-total [] = record {
  antisymm = λ x y. refl;
  trans = λ x y z p q. p;
  congr = λ x y z p.
      refl;
}
tuple_order-total (rule ∷ rules) =
    let rest = tuple_order-total rules in
    total_from_same (tuple_order-stepwise rule rules rest)
    (then_total (on_total going nat_cmp_total)
    (then_total (on_total first_key (key_order-total rule.0 rule.1))
    (on_total other_keys rest)))

-- on tuples of canonical keys, one for each rule, Equal is answered only for the same tuple
pub tuple_order-exact : (rules : SourceRules)
    → IsExactOn (IsCanonicalTuple rules) (tuple_order rules)
tuple_order-exact [] [] [] in_ts in_us e = refl
tuple_order-exact [] [] (u ∷ us) in_ts in_us e = absurd (omega (arith, in_us.0))
tuple_order-exact [] (t ∷ ts) us in_ts in_us e = absurd (omega (arith, in_ts.0))
tuple_order-exact (rule ∷ rules) [] us in_ts in_us e = absurd (omega (arith, in_ts.0))
tuple_order-exact (rule ∷ rules) (t ∷ ts) [] in_ts in_us e = absurd (omega (arith, in_us.0))
tuple_order-exact (rule ∷ rules) (t ∷ ts) (u ∷ us) in_ts in_us e =
    let both = then_equal (key_order rule.0 rule.1 t u) (tuple_order rules ts us) e in
    let first = key_order-exact rule.0 rule.1 t u (in_ts.1 0 t (omega arith))
    (in_us.1 0 u (omega arith)) both.0 in
    let rest = tuple_order-exact rules ts us (omega arith, All-rest IsCanonical t ts _ refl in_ts.1)
    (omega arith, All-rest IsCanonical u us _ refl in_us.1) both.1 in
    λ i. first i ∷ rest i
