-- A tuple lies past a bound where its first key that isn't equal to an after value is above it.
use Rattle.std.proofs.Common.{◌≡◌, ℕ, suc, List, [], ◌∷◌, Bool, true, ◌&&◌, ◌||◌, Option, None}
use Rattle.std.proofs.Common.{Some, length, take, nat_lt, Ordering, Less, Equal}
use Rattle.std.proofs.Common.{Greater, is_lt, is_eq, refl, sym, ap, ◌∙◌, arith}
use Rattle.std.specs.Option.{option_map_or}
use Rattle.std.specs.Ordering.{ordering_then, ordering_reverse}
use Rattle.std.proofs.lemmas.Bool.Decides.{nat_tests}
use Rattle.agg_values.specs.KeyOrder.{key_order, tuple_order, SourceRules}
use Rattle.agg_values.specs.Names.{Named}
use Rattle.agg_values.specs.Tuple.{KeyTuple}
use Rattle.agg_values.specs.TypedKey.{CompositeIntermediateKey}
use Rattle.agg_values.specs.declared.after_key.AfterKey.{AfterKey}
use Rattle.agg_values.proofs.KeyOrder.{key_order-total}
use Rattle.agg_request_tree.specs.Occurrences.{bound_of, is_past}
use Rattle.agg_request_tree.specs.Source.{Sources, missing_order_of, order_of, rules_of}
use Rattle.agg_request_tree.specs.declared.source.CompositeAggregationSource as kind
use kind.{CompositeAggregationSource}
use Rattle.agg_request_tree.specs.Source.{after_of}
use Rattle.agg_composite.specs.accessor.Accessors.{side_to}
use Rattle.agg_composite.proofs.Product.{sides_past}

-- how the keys of a tuple stand to the after values
abbrev pub sides_to : Sources → Named AfterKey → KeyTuple → List Ordering
sides_to [] after keys = []
sides_to (source ∷ sources) after [] = []
sides_to (source ∷ sources) after (k ∷ keys) =
    side_to source (after_of after source) k ∷ sides_to sources after keys

-- one key more
by_first : (x rest : Ordering) (more : Bool) (sides : List Ordering)
    → (is_lt rest || (is_eq rest && more)) ≡ sides_past sides
    → (is_lt (ordering_then x rest) || (is_eq (ordering_then x rest) && more))
    ≡ sides_past (ordering_reverse x ∷ sides)
by_first Less rest more sides e = refl
by_first Equal rest more sides e = e
by_first Greater rest more sides e = refl

shift : (a b : ℕ) → nat_lt (suc a) (suc b) ≡ nat_lt a b
shift a b = grind (arith, nat_tests)

first-side : (source : CompositeAggregationSource) (rules : SourceRules)
    (o : Option CompositeIntermediateKey) (bound : KeyTuple) (k : CompositeIntermediateKey)
    (keys : KeyTuple) (sides : List Ordering)
    → is_past rules bound keys ≡ sides_past sides
    → is_past ((order_of source, missing_order_of source) ∷ rules)
    (option_map_or (λ x. x ∷ bound) o []) (k ∷ keys)
    ≡ sides_past (side_to source o k ∷ sides)
first-side source rules None bound k keys sides e =
    let more : nat_lt 0 (suc (length rules)) ≡ true = grind (arith, nat_tests) in more
first-side source rules (Some b) bound k keys sides e =
    let order = order_of source in
    let missing = missing_order_of source in
    let rest = tuple_order rules bound (take (length bound) keys) in
    let o = ordering_then (key_order order missing b k) rest in
    ap (λ n. is_lt o || (is_eq o && n)) (shift (length bound) (length rules))
    ∙ by_first (key_order order missing b k) rest (nat_lt (length bound) (length rules)) sides e
    ∙ ap (λ o. sides_past (o ∷ sides)) (sym ((key_order-total order missing).antisymm k b))

-- whether a tuple lies past the bound, by its sides
pub is_past-sides : (sources : Sources) (after : Named AfterKey) (keys : KeyTuple)
    → length keys ≡ length sources
    → is_past (rules_of sources) (bound_of sources after) keys
    ≡ sides_past (sides_to sources after keys)
is_past-sides [] after keys long = refl
is_past-sides (source ∷ sources) after [] long = absurd (omega arith)
is_past-sides (source ∷ sources) after (k ∷ keys) long =
    first-side source (rules_of sources) (after_of after source)
    (bound_of sources after) k keys (sides_to sources after keys)
    (is_past-sides sources after keys (omega arith))
