use Rattle.std.proofs.Common.{length, Some, sym, ap, ◌∙◌, arith}
use Rattle.std.proofs.lemmas.Cmp.{nat_list_cmp_total}
use Rattle.std_collections.specs.Layout.BTreeMap.{seek}
use Rattle.std_collections.proofs.Seek.{seek-Ok, seek_err, sorted_insert}
use Rattle.agg_values.specs.Names.{name_cmp, value_of, put}
use Rattle.agg_values.proofs.NamePlaces.{found_value, missing_value, put_over, put_between}
use Rattle.agg_values.proofs.NamePlaces.{sorted_over}
use Rattle.agg_values.proofs.name_map.NameMap.insert.Goals as goal

pub index_mut-requires : goal.index_mut-requires
index_mut-requires g c =
    let at = sym c.in-Ok.is ∙ c.place_of.ensures ∙ ap (seek (name_cmp c.args.name))
    c.deref.ensures.value in
    let within = (seek-Ok (name_cmp c.args.name) _ _ (sym at)).0 in
    omega (arith, within, ap length c.deref.ensures.value, c.deref.ensures.len)

pub invariant_of-self : goal.invariant_of-self
invariant_of-self g c =
    let at = sym c.in-Ok.is ∙ c.place_of.ensures ∙ ap (seek (name_cmp c.args.name))
    c.deref.ensures.value in
    sorted_over name_cmp c.args.name c.self.inside.entries.items c.in-Ok.at c.index_mut.result.now
    c.replace.new.dest at c.index_mut.ensures.value c.self.invariant

pub insert-requires : goal.insert-requires
insert-requires g c =
    let at = sym c.in-Err.is ∙ c.place_of.ensures ∙ ap (seek (name_cmp c.args.name))
    c.deref.ensures.value in
    let within = (seek_err (name_cmp c.args.name) _ _ (sym at)).0 in
    omega (arith, within, ap length c.deref.ensures.value, c.deref.ensures.len)

pub invariant_of-self-in-Err : goal.invariant_of-self-in-Err
invariant_of-self-in-Err g c =
    let at = sym c.in-Err.is ∙ c.place_of.ensures ∙ ap (seek (name_cmp c.args.name))
    c.deref.ensures.value in
    rw c.in_ok-insert-in-Err.ensures.ok (sorted_insert name_cmp c.args.name c.args.value
    nat_list_cmp_total c.self.inside.entries.items c.in-Err.at c.self.invariant (sym at))

pub returns-in-Ok-clause-old : goal.returns-in-Ok-clause-old
returns-in-Ok-clause-old g c =
    let at = sym c.in-Ok.is ∙ c.place_of.ensures ∙ ap (seek (name_cmp c.args.name))
    c.deref.ensures.value in
    ap Some c.replace.ensures.value ∙ found_value name_cmp c.args.name _ _ c.index_mut.result.now at
    c.index_mut.ensures.value ∙ ap (value_of c.args.name) c.self.view_is

pub returns-in-Ok-clause-ok : goal.returns-in-Ok-clause-ok
returns-in-Ok-clause-ok g c =
    let at = sym c.in-Ok.is ∙ c.place_of.ensures ∙ ap (seek (name_cmp c.args.name))
    c.deref.ensures.value in
    put_over name_cmp c.args.name c.self.inside.entries.items c.in-Ok.at c.index_mut.result.now
    c.replace.new.dest at c.index_mut.ensures.value
    ∙ ap (λ v. put c.args.name v c.self.inside.entries.items) c.replace.ensures.after
    ∙ ap (put c.args.name c.args.value) c.self.view_is

pub returns-in_ok-insert-in-Err-clause-old : goal.returns-in_ok-insert-in-Err-clause-old
returns-in_ok-insert-in-Err-clause-old g c =
    let at = sym c.in-Err.is ∙ c.place_of.ensures ∙ ap (seek (name_cmp c.args.name))
    c.deref.ensures.value in
    missing_value nat_list_cmp_total c.args.name _ _ c.self.invariant at ∙ ap (value_of c.args.name)
    c.self.view_is

pub returns-in_ok-insert-in-Err-clause-ok : goal.returns-in_ok-insert-in-Err-clause-ok
returns-in_ok-insert-in-Err-clause-ok g c =
    let at = sym c.in-Err.is ∙ c.place_of.ensures ∙ ap (seek (name_cmp c.args.name))
    c.deref.ensures.value in
    put_between name_cmp c.args.name c.args.value c.self.inside.entries.items _ _ c.in-Err.at
    c.in_ok-insert-in-Err.ensures.ok at c.self.view_is
