-- `TupleMap` as a type that may hold the type that holds it.
use mathlib.Core.Path.{◌≡◌, refl, sym, subst}
use mathlib.Core.List.{List, [], ◌∷◌, map}
use mathlib.Core.Former.{Former, this, const, pair, list, via, children}
use base.Stored.{gcons}
use denote.RattleType.{RattleType}
use denote.HoleLaws.{Alike}
use denote.HolePlaces.{Recodes, struct_places, laid}
use denote.Hole.Carrier.{listed}
use denote.Hole.Fix.{over}
use denote.Param.Weighed.{Weighed, most, w_pair, w_const}
use denote.Model.Placed.{view_places}
use denote.Struct.Tuple.{type_at}
use denote.Struct.Declared as S
use Rattle.std.specs.formers.vec.Vec as vec
use Rattle.std.specs.declared.alloc.Global.{Global}
use Rattle.std.specs.contracts.alloc.Global as heap
use Rattle.std.specs.contracts.impls.GlobalAllocator.TheImpl.{ghosts}
use Rattle.std.specs.List.Sorted.{IsStrictlySortedBy, IsStrictlySortedBy-prop}
use Rattle.std.specs.Map.{keys_of, values_of}
use Rattle.std.specs.declared.vec.Vec.{Vec}
use Rattle.std_collections.specs.Layout.Former.{entry, on_value, entries_puts, values_listed}
use Rattle.std_collections.specs.Layout.Former.{keys_on_values, entries_recoded}
use Rattle.agg_values.specs.KeyOrder.{SourceRules, tuple_order}
use Rattle.agg_values.specs.Tuple.{KeyTuple}
use Rattle.agg_values.specs.declared.order.Order.{Order}
use Rattle.agg_values.specs.declared.order.MissingOrder.{MissingOrder}
use Rattle.agg_values.specs.contracts.tuple.Tuple as tuple
use Rattle.agg_values.specs.tuple_map.TupleMap.{orders_coded}
use Rattle.agg_values.specs.declared.tuple_map.tuple_map.TupleMap.TheInside.{Inside}
use Rattle.agg_values.specs.declared.tuple_map.tuple_map.TupleMap.TheView.{view, invariant}
use Rattle.agg_values.specs.contracts.tuple_map.tuple_map.TupleMap as C
use Rattle.agg_values.specs.contracts.tuple_map.tuple_map.TupleMap.TheInside as I

abbrev pub the_former : Former {0} → Former {0}
the_former g = pair (const SourceRules) (list (entry g KeyTuple))

abbrev w_entries : {g : Former {0}} → Weighed g → Weighed (list (entry g KeyTuple))
w_entries w = record {
  weight = λ X μ es. most (w.weight X μ) (values_of es);
  puts = λ X μ es. entries_puts w KeyTuple X μ es;
}

abbrev pub the_weighed : {g : Former {0}} → Weighed g → Weighed (the_former g)
the_weighed w = w_pair (w_const SourceRules) (w_entries w)

pub the_empty : SourceRules × List (KeyTuple × ⊥)
the_empty = ([], [])

abbrev pub the_items : (X : Type 0) → SourceRules × List (KeyTuple × X) → List X
the_items X d = values_of d.1

pub the_items_listed : (X : Type 0) (d : SourceRules × List (KeyTuple × X))
    → listed _ (children (the_former this) X d) ≡ the_items X d
the_items_listed X d = values_listed KeyTuple X d.1

abbrev Orders : Type 0
Orders = Vec (Order × MissingOrder) Global

abbrev fields : Former {0}
fields =
    via (pair (const Orders) (vec.the_former (entry this KeyTuple) Global)) Inside
    (λ X a. (a.orders, a.entries)) (λ X v. record { orders = v.0; entries = v.1 })
    (λ X a. refl) (λ X v. refl)

-- a tuple with a value, as the tuple that it is
abbrev entry_type : RattleType → S.Declared
entry_type R = type_at (40 ∷ 44 ∷ 41 ∷ []) (tuple.the_row ∷ R ∷ [])

abbrev entry_row : RattleType → RattleType
entry_row R = S.row (entry_type R)

module _ (R R' : RattleType) (h : R.Denot → R'.Denot) where
  entry_places : Alike R R' h → Alike (entry_row R) (entry_row R') (on_value h)
  entry_places a =
      struct_places (entry_type R) (entry_type R') ((λ n. n), (h, tt)) _ (λ d. refl) refl
      ((refl, (λ n. refl, λ n. refl)), (laid _ _ _ a, tt))

  same_keys : (es : List (KeyTuple × R.Denot)) → keys_of (map (on_value h) es) ≡ keys_of es
  same_keys es = keys_on_values h es

  pub the_places : Alike R R' h
      → Alike (C.the_row R) (C.the_row R') ((the_former this).map R.Denot R'.Denot h)
  the_places a =
      let vector =
      vec.the_places heap.the_row ghosts (entry_row R) (entry_row R') (on_value h)
      (entry_places a) in
      view_places fields (the_former this) view (λ X Y k u. refl) (λ X u. refl)
      R.Denot R'.Denot h (C.the_row R).coded (C.the_row R').coded
      (invariant R.Denot) (invariant R'.Denot)
      (λ u. IsStrictlySortedBy-prop (tuple_order u.orders.items) _)
      (λ u. IsStrictlySortedBy-prop (tuple_order u.orders.items) _)
      (λ u e. subst (IsStrictlySortedBy (tuple_order u.orders.items))
      (sym (same_keys u.entries.items)) e)
      (λ u e. subst (IsStrictlySortedBy (tuple_order u.orders.items))
      (same_keys u.entries.items) e)
      (over (I.the_row R)) (over (I.the_row R'))
      (struct_places (I.the_type R) (I.the_type R') ((λ n. n), (vec.mapped (on_value h), tt))
      _ (λ d. refl) refl ((refl, (λ n. refl, λ n. refl)), (laid _ _ _ vector, tt)))

  pub the_codes_placed : Recodes R R' h
      → Recodes (C.the_row R) (C.the_row R') ((the_former this).map R.Denot R'.Denot h)
  the_codes_placed e d = λ i.
      gcons (orders_coded.code d.0) (entries_recoded tuple.the_row R R' h e d.1 i)
