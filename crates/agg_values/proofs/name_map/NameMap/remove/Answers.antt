use Rattle.std.proofs.Common.{length, sym, ap, ◌∙◌, arith}
use Rattle.std.proofs.lemmas.Cmp.{nat_list_cmp_total}
use Rattle.std_collections.specs.Layout.BTreeMap.{seek}
use Rattle.std_collections.proofs.Seek.{seek-Ok}
use Rattle.agg_values.specs.Names.{name_cmp, value_of, without}
use Rattle.agg_values.proofs.NamePlaces.{found_value, missing_value, missing_stays, taken_out}
use Rattle.agg_values.proofs.NamePlaces.{sorted_removed}
use Rattle.agg_values.proofs.name_map.NameMap.remove.Goals as goal

pub remove-value-requires : goal.remove-value-requires
remove-value-requires g c =
    let at = sym c.in-Ok.is ∙ c.place_of.ensures ∙ ap (seek (name_cmp c.args.name.now))
    c.deref.ensures.value in
    let within = (seek-Ok (name_cmp c.args.name.now) _ _ (sym at)).0 in
    omega (arith, within, ap length c.deref.ensures.value, c.deref.ensures.len)

pub invariant_of-self : goal.invariant_of-self
invariant_of-self g c =
    rw c.remove-value.ensures.items (sorted_removed name_cmp c.self.inside.entries.items c.in-Ok.at
    c.self.invariant)

pub returns-in-Ok-clause-value : goal.returns-in-Ok-clause-value
returns-in-Ok-clause-value g c =
    let at = sym c.in-Ok.is ∙ c.place_of.ensures ∙ ap (seek (name_cmp c.args.name.now))
    c.deref.ensures.value in
    found_value name_cmp c.args.name.now _ _ c.remove-value.result at c.remove-value.ensures.value
    ∙ ap (value_of c.args.name.now) c.self.view_is

pub returns-in-Ok-clause-rest : goal.returns-in-Ok-clause-rest
returns-in-Ok-clause-rest g c =
    let at = sym c.in-Ok.is ∙ c.place_of.ensures ∙ ap (seek (name_cmp c.args.name.now))
    c.deref.ensures.value in
    taken_out name_cmp c.args.name.now c.self.inside.entries.items _ _ c.in-Ok.at
    c.remove-value.ensures.items at c.self.view_is

pub returns-in-Err-clause-value : goal.returns-in-Err-clause-value
returns-in-Err-clause-value g c =
    let at = sym c.in-Err.is ∙ c.place_of.ensures ∙ ap (seek (name_cmp c.args.name.now))
    c.deref.ensures.value in
    missing_value nat_list_cmp_total c.args.name.now _ _ c.self.invariant at
    ∙ ap (value_of c.args.name.now) c.self.view_is

pub returns-in-Err-clause-rest : goal.returns-in-Err-clause-rest
returns-in-Err-clause-rest g c =
    let at = sym c.in-Err.is ∙ c.place_of.ensures ∙ ap (seek (name_cmp c.args.name.now))
    c.deref.ensures.value in
    sym c.self.view_is ∙ missing_stays nat_list_cmp_total c.args.name.now _ _ c.self.invariant at
    ∙ ap (without c.args.name.now) c.self.view_is
