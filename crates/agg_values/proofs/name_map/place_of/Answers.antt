use Rattle.std.proofs.Common.{◌≡◌, ◌+◌, ◌-◌, ◌/◌, ◌<◌, length, Less, Equal, Greater, sym, ◌∙◌}
use Rattle.std.proofs.Common.{arith}
use Rattle.std.proofs.lemmas.Cmp.{nat_list_cmp_total}
use Rattle.agg_values.proofs.NamePlaces.{seek_is_Ok, seek_is_Err, all_lower, all_higher, at_place}
use Rattle.agg_values.proofs.name_map.place_of.Goals as goal

pub loop-low-preserved-in-Less : goal.loop-low-preserved-in-Less
loop-low-preserved-in-Less g c =
    let l = c.loop-low in
    let m = l.low + (l.high - l.low) / 2 in
    let inside : m < length c.args.entries.now = omega (arith, l.invariant.within) in
    let here = at_place nat_list_cmp_total c.args.name.now Less _ m c.index-entries-mid.result
    inside (sym c.cmp.ensures ∙ c.in-Less.is) in
    record {
      up = omega arith;
      within = l.invariant.within;
      lower = all_lower nat_list_cmp_total c.args.name.now _ m c.requires inside here;
      higher = l.invariant.higher;
    }

pub loop-low-preserved : goal.loop-low-preserved
loop-low-preserved g c =
    let l = c.loop-low in
    let m = l.low + (l.high - l.low) / 2 in
    let inside : m < length c.args.entries.now = omega (arith, l.invariant.within) in
    let here = at_place nat_list_cmp_total c.args.name.now Greater _ m c.index-entries-mid.result
    inside (sym c.cmp.ensures ∙ c.in-Greater.is) in
    record {
      up = omega arith;
      within = omega arith;
      lower = l.invariant.lower;
      higher = all_higher nat_list_cmp_total c.args.name.now _ m c.requires inside here;
    }

pub returns-in-Equal : goal.returns-in-Equal
returns-in-Equal g c =
    let l = c.loop-low in
    let m = l.low + (l.high - l.low) / 2 in
    let inside : m < length c.args.entries.now = omega (arith, l.invariant.within) in
    let here = at_place nat_list_cmp_total c.args.name.now Equal _ m c.index-entries-mid.result
    inside (sym c.cmp.ensures ∙ c.in-Equal.is) in
    sym (seek_is_Ok nat_list_cmp_total c.args.name.now _ m c.requires inside here)

pub returns : goal.returns
returns g c =
    let l = c.loop-low in
    let met : l.high ≡ l.low = omega (arith, l.invariant.up) in
    sym (seek_is_Err nat_list_cmp_total c.args.name.now _ l.low
    (omega (arith, l.invariant.up, l.invariant.within)) l.invariant.lower
    (rw (← met) l.invariant.higher))
