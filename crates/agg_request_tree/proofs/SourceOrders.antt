-- The orders of sources, source by source.
use Rattle.std.proofs.Common.{◌≡◌, ◌+◌, ◌<◌, ◌≤◌, ◌++◌, ◌&&◌, ℕ, [], ◌∷◌, Bool, true, false}
use Rattle.std.proofs.Common.{not, length, get_or, take, refl, sym, ap, ◌∙◌, true≢false, arith}
use Rattle.std.proofs.Common.{rules}
use denote.Enum.Bare.{same_true, sameb}
use Rattle.std.proofs.lemmas.Bool.{and_parts}
use Rattle.std.proofs.lemmas.List.{map-append, take_all, take_more}
use Rattle.agg_values.specs.KeyOrder.{SourceRules}
use Rattle.agg_values.specs.contracts.order.MissingOrder as missing_order
use Rattle.agg_values.specs.contracts.order.Order as order
use Rattle.agg_values.specs.declared.order.MissingOrder.{MissingOrder}
use Rattle.agg_values.specs.declared.order.Order.{Order}
use Rattle.agg_request_tree.specs.Source.{Sources, missing_order_of, order_of, rules_of}
use Rattle.agg_request_tree.specs.declared.source.CompositeAggregationSource as kind
use kind.{CompositeAggregationSource}

pub unnegated : (b : Bool) → false ≡ not b → b ≡ true
unnegated true e = refl
unnegated false e = absurd (true≢false (sym e))

-- the orders of sources and of one more
pub rules_of-more : (sources : Sources) (i : ℕ) (source : CompositeAggregationSource)
    → i < length sources → source ≡ get_or sources i source
    → rules_of (take (i + 1) sources)
    ≡ rules_of (take i sources) ++ (order_of source, missing_order_of source) ∷ []
rules_of-more sources i source below at =
    ap rules_of (take_more sources i source below ∙ ap (λ s. take i sources ++ s ∷ []) (sym at))
    ∙ map-append (λ s. (order_of s, missing_order_of s)) (take i sources) (source ∷ [])

-- the orders of one more source
pub orders-more : (orders : SourceRules) (sources : Sources) (i : ℕ)
    (source : CompositeAggregationSource) (direction : Order) (missing : MissingOrder)
    (other : Order × MissingOrder) → length orders ≡ length sources → i < length sources
    → source ≡ get_or sources i source → direction ≡ order_of source
    → missing ≡ missing_order_of source
    → sameb order.the_type (get_or orders i other).0 direction
    && sameb missing_order.the_type (get_or orders i other).1 missing ≡ true
    → take i orders ≡ rules_of (take i sources)
    → take (i + 1) orders ≡ rules_of (take (i + 1) sources)
orders-more orders sources i source direction missing other as_many below at its its_missing same
    so_far =
    let found = get_or orders i other in
    let both = and_parts (sameb order.the_type found.0 direction)
    (sameb missing_order.the_type found.1 missing) same in
    let own : found.0 ≡ order_of source =
    same_true order.the_type (search rules) _ _ both.0 ∙ its in
    let own_missing : found.1 ≡ missing_order_of source =
    same_true missing_order.the_type (search rules) _ _ both.1 ∙ its_missing in
    let here : found ≡ (order_of source, missing_order_of source) = λ k. (own k, own_missing k) in
    take_more orders i other (omega arith)
    ∙ rw here (ap (λ rules. rules ++ (order_of source, missing_order_of source) ∷ []) so_far)
    ∙ sym (rules_of-more sources i source below at)

-- the orders of all sources
pub orders-all : (orders : SourceRules) (sources : Sources) (i : ℕ)
    → length orders ≡ length sources → length sources ≤ i
    → take i orders ≡ rules_of (take i sources) → orders ≡ rules_of sources
orders-all orders sources i as_many over so_far =
    sym (take_all i orders (omega arith)) ∙ so_far ∙ ap rules_of (take_all i sources over)
