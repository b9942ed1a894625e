use Rattle.std.proofs.Common.{◌≡◌, ◌<◌, ℕ, [], codes, false, true, inl, inr, map, refl, sym}
use Rattle.std.proofs.Common.{subst, ap, ◌∙◌}
use Rattle.serde_json.specs.Data.{depth, no_members, object}
use Rattle.serde_json.specs.View.{view}
use Rattle.agg_request.specs.json_values.Json.{alone, has_only}
use Rattle.agg_request.specs.json_values.Query.{IsBoolean, IsExists, IsFilter, IsRange, IsTerm}
use Rattle.agg_request.specs.ReadBack.{IsWritten, SaysFilter}
use Rattle.agg_request.specs.WrittenJson.{data_of_query}
use Rattle.agg_request.proofs.WrittenFilters.{data-All, data-Boolean, data-Empty, data-Exists}
use Rattle.agg_request.proofs.WrittenFilters.{data-Range, data-Term, is-boolean, is-filter}
use Rattle.agg_request.proofs.WrittenFilters.{lists-written}
use Rattle.agg_request.proofs.WrittenSources.{each_written}
use Rattle.agg_request.proofs.writer.query.+filters.Goals as goal

pub write_filter-returns-in-All : goal.write_filter-returns-in-All
write_filter-returns-in-All t c =
    let body : view c.from.result ≡ object no_members =
    rw (c.from.ensures, c.new.ensures.empty) refl in
    let empty : has_only [] (view c.from.result) ≡ true = rw body refl in
    is-filter c.object_of.result (codes "all") (view c.from.result) c.args.tree.now
    c.object_of.ensures
    (ap (alone (codes "all")) body ∙ sym data-All ∙ ap data_of_query (sym c.in-All.is))
    (λ levels below. inl (refl, (empty, c.in-All.is)))

pub write_filter-returns-in-Empty : goal.write_filter-returns-in-Empty
write_filter-returns-in-Empty t c =
    let body : view c.from-in-Empty.result ≡ object no_members =
    rw (c.from-in-Empty.ensures, c.new-in-Empty.ensures.empty) refl in
    let empty : has_only [] (view c.from-in-Empty.result) ≡ true = rw body refl in
    is-filter c.object_of-in-Empty.result (codes "empty") (view c.from-in-Empty.result)
    c.args.tree.now c.object_of-in-Empty.ensures
    (ap (alone (codes "empty")) body ∙ sym data-Empty ∙ ap data_of_query (sym c.in-Empty.is))
    (λ levels below. inr (inl (refl, (empty, c.in-Empty.is))))

pub write_filter-returns-in_ok-write_term-in-Term
    : goal.write_filter-returns-in_ok-write_term-in-Term
write_filter-returns-in_ok-write_term-in-Term t c =
    let body = view c.in_ok-write_term-in-Term.field-0 in
    let told : IsTerm false body c.args.tree.now =
    subst (IsTerm false body) (sym c.in-Term.is) c.in_ok-write_term-in-Term.ensures.says in
    is-filter c.object_of-in-Term.result (codes "term") body c.args.tree.now
    c.object_of-in-Term.ensures
    (ap (alone (codes "term")) c.in_ok-write_term-in-Term.ensures.written
    ∙ sym (data-Term c.in-Term.field c.in-Term.value) ∙ ap data_of_query (sym c.in-Term.is))
    (λ levels below. inr (inr (inl (refl, told))))

pub write_filter-returns-in_ok-write_range-in-Range
    : goal.write_filter-returns-in_ok-write_range-in-Range
write_filter-returns-in_ok-write_range-in-Range t c =
    let body = view c.in_ok-write_range-in-Range.field-0 in
    let told : IsRange false body c.args.tree.now =
    subst (IsRange false body) (sym c.in-Range.is) c.in_ok-write_range-in-Range.ensures.says in
    is-filter c.object_of-in-Range.result (codes "range") body c.args.tree.now
    c.object_of-in-Range.ensures
    (ap (alone (codes "range")) c.in_ok-write_range-in-Range.ensures.written
    ∙ sym (data-Range c.in-Range.field c.in-Range.lower c.in-Range.upper)
    ∙ ap data_of_query (sym c.in-Range.is))
    (λ levels below. inr (inr (inr (inl (refl, told)))))

pub write_filter-returns-in_ok-write_exists-in-Exists
    : goal.write_filter-returns-in_ok-write_exists-in-Exists
write_filter-returns-in_ok-write_exists-in-Exists t c =
    let body = view c.in_ok-write_exists-in-Exists.field-0 in
    let told : IsExists body c.args.tree.now =
    subst (IsExists body) (sym c.in-Exists.is) c.in_ok-write_exists-in-Exists.ensures.says in
    is-filter c.object_of-in-Exists.result (codes "exists") body c.args.tree.now
    c.object_of-in-Exists.ensures
    (ap (alone (codes "exists")) c.in_ok-write_exists-in-Exists.ensures.written
    ∙ sym (data-Exists c.in-Exists.field) ∙ ap data_of_query (sym c.in-Exists.is))
    (λ levels below. inr (inr (inr (inr (inl (refl, told))))))

pub write_filter-returns-in_ok-lists-in-Boolean : goal.write_filter-returns-in_ok-lists-in-Boolean
write_filter-returns-in_ok-lists-in-Boolean t c =
    let body = view c.in_ok-lists-in-Boolean.field-0 in
    let must = c.in-Boolean.must in
    let should = c.in-Boolean.should in
    let must_not = c.in-Boolean.must_not in
    let musts = map view c.in_ok-must-in-Boolean.must.items in
    let shoulds = map view c.in_ok-should-in-Boolean.should.items in
    let must_nots = map view c.in_ok-must_not-in-Boolean.must_not.items in
    let told : (levels : ℕ) → depth body < levels
    → IsBoolean (IsFilter false levels) body c.args.tree.now = λ levels below.
    subst (IsBoolean (IsFilter false levels) body) (sym c.in-Boolean.is)
    (is-boolean levels body must should must_not musts shoulds must_nots
    c.in_ok-lists-in-Boolean.ensures c.in_ok-must-in-Boolean.ensures
    c.in_ok-should-in-Boolean.ensures c.in_ok-must_not-in-Boolean.ensures below) in
    is-filter c.object_of-in-Boolean.result (codes "bool") body c.args.tree.now
    c.object_of-in-Boolean.ensures
    (ap (alone (codes "bool")) (c.in_ok-lists-in-Boolean.ensures
    ∙ lists-written must should must_not musts shoulds must_nots
    c.in_ok-must-in-Boolean.ensures c.in_ok-should-in-Boolean.ensures
    c.in_ok-must_not-in-Boolean.ensures)
    ∙ sym (data-Boolean must should must_not) ∙ ap data_of_query (sym c.in-Boolean.is))
    (λ levels below. inr (inr (inr (inr (inr (refl, told levels below))))))

pub write_trees-loop-tree-preserved : goal.write_trees-loop-tree-preserved
write_trees-loop-tree-preserved t c =
    each_written (IsWritten data_of_query SaysFilter) c.loop-tree.items.items
    c.push.new.self.items c.in_ok-write_filter.field-0 c.as_slice-tree-items.result.now
    c.loop-tree.tree-index c.tree-item.result c.loop-tree-test.true c.tree-item.is
    c.loop-tree.invariant c.in_ok-write_filter.ensures c.in_ok-push.ensures.items
