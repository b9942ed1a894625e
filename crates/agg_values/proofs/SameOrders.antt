-- Orders of sources, compared.
use Rattle.std.proofs.Common.{◌≡◌, ◌≢◌, Bool, true, false, ◌&&◌, refl, sym, ◌∙◌, rules}
use mathlib.Core.Bool.{not}
use Rattle.std.specs.Bool.{Decides, IsTrue}
use Rattle.std.specs.Cmp.Lexicographic.{pointwise, pointwise_decides}
use Rattle.std.proofs.lemmas.Bool.{false≢true}
use Rattle.agg_values.specs.KeyOrder.{SourceRules}
use Rattle.agg_values.specs.contracts.order.OrderPartialEq.TheImpl as order
use Rattle.agg_values.specs.contracts.order.MissingOrderPartialEq.TheImpl as missing
use Rattle.agg_values.specs.declared.order.Order.{Order}
use Rattle.agg_values.specs.declared.order.MissingOrder.{MissingOrder}

-- how two sources' orders are compared
abbrev pub rule_eq : Order × MissingOrder → Order × MissingOrder → Bool
rule_eq x y = order.ghosts.eq x.0 y.0 && missing.ghosts.eq x.1 y.1

-- the comparison answers true exactly for the same orders
pub orders_decided : (a b : SourceRules) → Decides (pointwise rule_eq a b) (a ≡ b)
orders_decided a b = pointwise_decides (search rules) a b

by_decision : {A : Type 0} (o : Bool) → Decides o A → ¬ (¬ A) → A
by_decision true known h = known.0 (search rules)
by_decision false known h = absurd (h (λ a. false≢true (known.1 a)))

-- orders that don't differ are the same
pub same_orders : (a b : SourceRules) → ¬ (a ≢ b) → a ≡ b
same_orders a b h = by_decision (pointwise rule_eq a b) (orders_decided a b) h

-- orders that were read and compared for difference
pub told : (a b read other : SourceRules) (o : Bool) → o ≡ not (pointwise rule_eq read other)
    → read ≡ a → other ≡ b → (IsTrue o → a ≢ b) × (a ≢ b → IsTrue o)
told a b read other o is same same_other =
    told-by o (pointwise rule_eq a b)
    (is ∙ (λ i. not (pointwise rule_eq (same i) (same_other i)))) (orders_decided a b)
  where
    told-by : {A : Type 0} (o p : Bool) → o ≡ not p → Decides p A
        → (IsTrue o → ¬ A) × (¬ A → IsTrue o)
    told-by o true is known =
        (λ yes h. false≢true (sym is ∙ yes), λ none. absurd (none (known.0 refl)))
    told-by o false is known = (λ yes h. false≢true (known.1 h), λ none. is)
