use Rattle.std.proofs.Common.{◌≡◌, ◌≤◌, ◌++◌, ℕ, List, set, take, ap, sym, subst, ◌∙◌, refl}
use Rattle.std.specs.List.{All}
use Rattle.std.specs.Prelude.{Bool, filter, nat_lt}
use Rattle.std.proofs.lemmas.Result.{on_ok_weaker}
use Rattle.agg_segment.specs.Gatherings.{Raw, raws, AreAlike, ArePutInto}
use Rattle.agg_segment.specs.storage.Growing.{doc_rows}
use Rattle.agg_segment.specs.declared.gatherings.Gathering.{Gathering}
use Rattle.agg_segment.proofs.LinkedColumns.{links_set}
use Rattle.agg_segment.proofs.Raws.{put_into, put_alike, put_filtered, rows_below}
use Rattle.agg_segment.proofs.Raws.{doc_raws, doc_gone}
use Rattle.agg_segment.proofs.gatherings.Gatherings.add_run.Goals as goal

pub push_all-requires : goal.push_all-requires
push_all-requires c =
    rows_below c.place.new.columns.items c.in_ok-at.at c.index_mut.result.now c.args.doc
    c.in_ok-at.ensures.within c.index_mut.ensures.value
    (subst (All (λ (r : Raw). r.doc ≤ c.args.doc)) (sym (c.in_ok-at.ensures.same
    ∙ c.self.view_is)) c.requires.after)

pub invariant_of-self-2 : goal.invariant_of-self-2
invariant_of-self-2 c =
    links_set c.place.new.columns.items c.place.new.last.items c.in_ok-at.at
    c.index_mut.result.now _ c.in_ok-at.ensures.within c.index_mut.ensures.value
    (record { field = refl; class = refl; before = refl }) c.in_ok-at.ensures.linked

-- the numbers are put after those of the column
put : (c : goal.After-self-1) (numbers : List ℕ)
    → c.push_all.new.self ≡ c.index_mut.result.now.rows ++ doc_rows c.args.doc numbers
    → ArePutInto (raws c.place.new.columns.items) c.index_mut.result.now.field
    c.index_mut.result.now.class (doc_raws c.index_mut.result.now.field
    c.index_mut.result.now.class c.args.doc numbers)
    (raws (set c.place.new.columns.items c.in_ok-at.at (record {
      field = c.index_mut.result.now.field;
      class = c.index_mut.result.now.class;
      before = c.index_mut.result.now.before;
      rows = c.push_all.new.self;
    })))
put c numbers is =
    let x = c.index_mut.result.now in
    let columns = c.place.new.columns.items in
    let value = c.index_mut.ensures.value in
    let found = c.in_ok-at.ensures.found in
    put_into columns c.in_ok-at.at x c.push_all.new.self c.args.doc numbers
    c.in_ok-at.ensures.within value is (λ j g low l fields classes.
    c.in_ok-at.ensures.linked.apart c.in_ok-at.at j g low l
    ((found g).0 ∙ sym (found x).0 ∙ ap (λ (h : Gathering). h.field) (sym value) ∙ sym fields)
    ((found g).1 ∙ sym (found x).1 ∙ ap (λ (h : Gathering). h.class) (sym value) ∙ sym classes))

pub returns-clause-ok : goal.returns-clause-ok
returns-clause-ok c =
    let x = c.index_mut.result.now in
    let doc = c.args.doc in
    let kind = c.args.kind in
    let numbers = c.args.numbers.now in
    let new = raws (set c.place.new.columns.items c.in_ok-at.at (record {
      field = x.field;
      class = x.class;
      before = x.before;
      rows = c.push_all.new.self;
    })) in
    let field : x.field ≡ kind.field =
    ap (λ (g : Gathering). g.field) c.index_mut.ensures.value ∙ (c.in_ok-at.ensures.found x).0 in
    let class : x.class ≡ kind.class =
    ap (λ (g : Gathering). g.class) c.index_mut.ensures.value ∙ (c.in_ok-at.ensures.found x).1 in
    let same : doc_raws x.field x.class doc numbers ≡ doc_raws kind.field kind.class doc numbers =
    ap (λ f. doc_raws f x.class doc numbers) field
    ∙ ap (λ k. doc_raws kind.field k doc numbers) class in
    on_ok_weaker c.push_all.result (λ is.
    subst (λ rs. AreAlike new (c.args.self.now ++ rs)) same
    (subst (λ old. AreAlike new (old ++ doc_raws x.field x.class doc numbers))
    (c.in_ok-at.ensures.same ∙ c.self.view_is)
    (put_alike (raws c.place.new.columns.items) x.field x.class
    (doc_raws x.field x.class doc numbers) new (put c numbers is)))) c.push_all.ensures.ok

pub returns-clause-closed : goal.returns-clause-closed
returns-clause-closed c =
    let x = c.index_mut.result.now in
    let (count, is) = c.push_all.ensures.some in
    let numbers = take count c.args.numbers.now in
    let p : Raw → Bool = λ r. nat_lt r.doc c.args.doc in
    put_filtered (raws c.place.new.columns.items) x.field x.class
    (doc_raws x.field x.class c.args.doc numbers) _ (put c numbers is) p
    (doc_gone x.field x.class c.args.doc numbers)
    ∙ ap (filter p) (c.in_ok-at.ensures.same ∙ c.self.view_is)
