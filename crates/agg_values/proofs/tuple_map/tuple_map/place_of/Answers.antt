use Rattle.std.proofs.Common.{◌≡◌, ◌<◌, length, Less, Equal, Greater, sym, subst, arith}
use Rattle.std.specs.List.{AllWithin, HoldsAt}
use Rattle.agg_values.specs.KeyOrder.{tuple_order}
use Rattle.agg_values.proofs.NamePlaces.{seek_is_Ok, seek_is_Err, all_lower, all_higher, at_place}
use Rattle.agg_values.proofs.TupleOrder.{tuple_order-total}
use Rattle.agg_values.proofs.lemmas.tuple_map.TupleSteps.{compared}
use Rattle.agg_values.proofs.tuple_map.tuple_map.place_of.Goals as goal
use Rattle.agg_values.proofs.tuple_map.tuple_map.place_of.Goals.{in-Less, in-Greater}

pub loop-low-preserved : goal.loop-low-preserved
loop-low-preserved g c =
    let rules = c.args.orders.now in
    let key = c.args.key.now in
    let total = tuple_order-total rules in
    let es = c.args.entries.now in
    let l = c.loop-low in
    let inside : l.probe < length es =
    omega (arith, l.invariant.within, l.invariant.inside c.loop-low-test.true) in
    elim c.match-tuple_ordering.branch [
      | in-Less w ↦
          let here : HoldsAt (λ e. tuple_order rules e.0 key ≡ Less) es l.probe =
          at_place total key Less es l.probe c.index-entries-probe.result inside
          (compared rules _ _ _ _ _ Less c.tuple_ordering.ensures c.as_slice.ensures
          c.as_slice-in-loop-low.ensures w.in-Less.is) in
          record {
            up = omega (arith, l.invariant.inside c.loop-low-test.true);
            within = omega (arith, l.invariant.within);
            probed = omega arith;
            inside = λ some. omega arith;
            lower = subst (λ j. AllWithin (λ e. tuple_order rules e.0 key ≡ Less) es 0 j)
                (sym w.low-is) (all_lower total key es l.probe c.requires inside here);
            higher = subst (λ j. AllWithin (λ e. tuple_order rules e.0 key ≡ Greater) es j
                (length es)) (sym w.high-is) l.invariant.higher;
          }
      | in-Greater w ↦
          let here : HoldsAt (λ e. tuple_order rules e.0 key ≡ Greater) es l.probe =
          at_place total key Greater es l.probe c.index-entries-probe.result inside
          (compared rules _ _ _ _ _ Greater c.tuple_ordering.ensures c.as_slice.ensures
          c.as_slice-in-loop-low.ensures w.in-Greater.is) in
          record {
            up = omega (arith, l.invariant.probed);
            within = omega arith;
            probed = omega arith;
            inside = λ some. omega arith;
            lower = subst (λ j. AllWithin (λ e. tuple_order rules e.0 key ≡ Less) es 0 j)
                (sym w.low-is) l.invariant.lower;
            higher = subst (λ j. AllWithin (λ e. tuple_order rules e.0 key ≡ Greater) es j
                (length es)) (sym w.high-is)
                (all_higher total key es l.probe c.requires inside here);
          }
    ]

pub returns-in-Equal : goal.returns-in-Equal
returns-in-Equal g c =
    let rules = c.args.orders.now in
    let key = c.args.key.now in
    let total = tuple_order-total rules in
    let es = c.args.entries.now in
    let l = c.loop-low in
    let inside : l.probe < length es =
    omega (arith, l.invariant.within, l.invariant.inside c.loop-low-test.true) in
    let here : HoldsAt (λ e. tuple_order rules e.0 key ≡ Equal) es l.probe =
    at_place total key Equal es l.probe c.index-entries-probe.result inside
    (compared rules _ _ _ _ _ Equal c.tuple_ordering.ensures c.as_slice.ensures
    c.as_slice-in-loop-low.ensures c.in-Equal.is) in
    sym (seek_is_Ok total key es l.probe c.requires inside here)

pub returns : goal.returns
returns g c =
    let total = tuple_order-total c.args.orders.now in
    let l = c.loop-low in
    let met : l.high ≡ l.low = omega (arith, l.invariant.up) in
    sym (seek_is_Err total c.args.key.now c.args.entries.now l.low
    (omega (arith, l.invariant.up, l.invariant.within)) l.invariant.lower
    (rw (← met) l.invariant.higher))
