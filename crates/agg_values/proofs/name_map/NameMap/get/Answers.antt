use Rattle.std.proofs.Common.{length, subst, sym, ap, ◌∙◌, arith}
use Rattle.std.proofs.lemmas.Cmp.{nat_list_cmp_total}
use Rattle.std_collections.specs.Layout.BTreeMap.{seek}
use Rattle.std_collections.proofs.Seek.{seek-Ok}
use Rattle.std.specs.List.{IsAmong}
use Rattle.std.specs.Map.{values_of}
use Rattle.agg_values.specs.Names.{name_cmp, value_of}
use Rattle.agg_values.proofs.NamePlaces.{found_value, among_values, missing_value}
use Rattle.agg_values.proofs.name_map.NameMap.get.Goals as goal

pub index-requires : goal.index-requires
index-requires g c =
    let at = sym c.in-Ok.is ∙ c.place_of.ensures ∙ ap (seek (name_cmp c.args.name.now))
    c.deref.ensures.value in
    let within = (seek-Ok (name_cmp c.args.name.now) _ _ (sym at)).0 in
    omega (arith, within, ap length c.deref.ensures.value, c.deref.ensures.len)

pub returns-in-Ok-clause-value : goal.returns-in-Ok-clause-value
returns-in-Ok-clause-value g c =
    let at = sym c.in-Ok.is ∙ c.place_of.ensures ∙ ap (seek (name_cmp c.args.name.now))
    c.deref.ensures.value in
    found_value name_cmp c.args.name.now _ _ c.index.result.now at c.index.ensures
    ∙ ap (value_of c.args.name.now) c.self.view_is

pub returns-in-Ok-clause-member : goal.returns-in-Ok-clause-member
returns-in-Ok-clause-member g c =
    let at = sym c.in-Ok.is ∙ c.place_of.ensures ∙ ap (seek (name_cmp c.args.name.now))
    c.deref.ensures.value in
    let found = among_values name_cmp c.args.name.now _ _ c.index.result.now at c.index.ensures in
    subst (λ es. IsAmong (values_of es) c.index.result.now.1) c.self.view_is found

pub returns-in-Err-clause-value : goal.returns-in-Err-clause-value
returns-in-Err-clause-value g c =
    let at = sym c.in-Err.is ∙ c.place_of.ensures ∙ ap (seek (name_cmp c.args.name.now))
    c.deref.ensures.value in
    missing_value nat_list_cmp_total c.args.name.now _ _ c.self.invariant at
    ∙ ap (value_of c.args.name.now) c.self.view_is
