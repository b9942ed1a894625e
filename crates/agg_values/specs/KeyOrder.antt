-- The order of keys and of tuples.
use Rattle.std.specs.Prelude.{ℕ, List, [], ◌∷◌}
use Rattle.std.specs.declared.cmp.Ordering.{Ordering}
use Rattle.std.specs.declared.cmp.Ordering.TheVariants.{Less, Equal, Greater}
use Rattle.std.specs.Ordering.{nat_cmp, int_cmp, on, then_cmp, flip_args, ordering_then}
use Rattle.agg_values.specs.Names.{name_cmp}
use Rattle.agg_values.specs.Tuple.{KeyTuple}
use Rattle.agg_values.specs.Column.{class_rank}
use Rattle.agg_values.specs.TypedKey.{truth_or_number, address_of, text_of}
use Rattle.agg_values.specs.TypedKey.{CompositeIntermediateKey}
use Rattle.agg_values.specs.TypedKey.key.{Null}
use Rattle.agg_values.specs.declared.order.Order.{Order}
use Rattle.agg_values.specs.declared.order.Order.TheVariants.{Asc, Desc}
use Rattle.agg_values.specs.declared.order.MissingOrder.{MissingOrder}
use Rattle.agg_values.specs.declared.order.MissingOrder.TheVariants.{Default, First, Last}

-- how typed keys compare
abbrev pub Comparison : Type 0
Comparison = CompositeIntermediateKey → CompositeIntermediateKey → Ordering

-- the order and the missing order of each source
abbrev pub SourceRules : Type 0
SourceRules = List (Order × MissingOrder)

-- by class, and in a class by the number, the address or the text
abbrev pub ascending_order : Comparison
ascending_order =
    then_cmp (on class_rank nat_cmp)
    (then_cmp (on truth_or_number int_cmp)
    (then_cmp (on address_of nat_cmp) (on text_of name_cmp)))

-- Null before the values is 0, and after them 2
abbrev pub null_side : Order → MissingOrder → ℕ
null_side order First = 0
null_side order Last = 2
null_side Asc Default = 0
null_side Desc Default = 2

-- where Null stands beside the values, which are at 1
abbrev pub null_rank : Order → MissingOrder → CompositeIntermediateKey → ℕ
null_rank order missing Null = null_side order missing
null_rank order missing _ = 1

-- the order, or its reverse
abbrev pub directed : {K : Type 0} → Order → (K → K → Ordering) → K → K → Ordering
directed Asc cmp = cmp
directed Desc cmp = flip_args cmp

-- how two keys of a source compare: Null by the missing order, the values by class and content, and
-- reversed in Desc
abbrev pub key_order : Order → MissingOrder → Comparison
key_order order missing =
    then_cmp (on (null_rank order missing) nat_cmp) (directed order ascending_order)

-- how two tuples compare: as their first differing place does, by the order and missing order of
-- its source
abbrev pub tuple_order : SourceRules → KeyTuple → KeyTuple → Ordering
tuple_order [] ts us = Equal
tuple_order (rule ∷ rules) [] [] = Equal
tuple_order (rule ∷ rules) [] (u ∷ us) = Less
tuple_order (rule ∷ rules) (t ∷ ts) [] = Greater
tuple_order (rule ∷ rules) (t ∷ ts) (u ∷ us) =
    ordering_then (key_order rule.0 rule.1 t u) (tuple_order rules ts us)
