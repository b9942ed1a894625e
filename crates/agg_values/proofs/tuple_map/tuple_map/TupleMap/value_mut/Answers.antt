use Rattle.std.proofs.Common.{◌≡◌, ◌<◌, length, set, refl, sym, ap, ◌∙◌, subst}
use Rattle.std.specs.List.Sorted.{IsStrictlySortedBy}
use Rattle.std.specs.Map.{keys_of}
use Rattle.agg_values.specs.KeyOrder.{tuple_order}
use Rattle.agg_values.proofs.NamePlaces.{set_is, keys_set}
use Rattle.agg_values.proofs.lemmas.tuple_map.TuplePlaces.{value_there, value_written}
use Rattle.agg_values.proofs.tuple_map.tuple_map.TupleMap.value_mut.Goals as goal

pub invariant_of-self-lent : goal.invariant_of-self-lent
invariant_of-self-lent g c =
    let es = c.self.inside.entries.items in
    let at = c.args.at in
    let within : at < length es = subst (λ m. at < length m.1) (sym c.self.view_is) c.requires in
    λ w.
    let same : keys_of (set es at (c.index_mut-entry.result.now.0, w)) ≡ keys_of es =
    ap keys_of
    (set_is es at c.index_mut-entry.result.now w within c.index_mut-entry.ensures.value)
    ∙ keys_set es at w in
    subst (IsStrictlySortedBy (tuple_order c.self.inside.orders.items)) (sym same) c.self.invariant

pub returns : goal.returns
returns g c =
    let rules = c.self.inside.orders.items in
    let es = c.self.inside.entries.items in
    let at = c.args.at in
    let entry = c.index_mut-entry.result.now in
    let within : at < length es = subst (λ m. at < length m.1) (sym c.self.view_is) c.requires in
    let is = c.index_mut-entry.ensures.value in (
      (refl, value_written rules es c.args.self.now c.self.view_is at entry within is),
      record {
        writes_back = tt;
        value = value_there rules es c.args.self.now c.self.view_is at entry within is;
      },
    )
