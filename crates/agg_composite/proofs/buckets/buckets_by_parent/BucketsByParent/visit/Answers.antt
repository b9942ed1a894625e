use Rattle.std.proofs.Common.{◌≡◌, ◌∷◌, [], None, Some, get_or, set, inl, inr, ⊎_elim, sym, ap, ◌∙◌}
use Rattle.std.proofs.Common.{subst}
use Rattle.std.specs.BTreeMap.{is_at}
use Rattle.std.specs.Map.{lookup}
use Rattle.std.proofs.lemmas.List.{get_or_default}
use Rattle.agg_composite.specs.buckets.Node.{Node, Takes, TooManyVisits}
use Rattle.agg_composite.specs.buckets.Page.{AddsAtMost, PageTakes}
use Rattle.agg_composite.specs.declared.buckets.visit_error.VisitError.TheVariants.{TooMany}
use Rattle.agg_composite.proofs.lemmas.buckets.Errors.{error-kept}
use Rattle.agg_composite.proofs.lemmas.buckets.HeldPages.{adds-at}
use Rattle.agg_composite.proofs.lemmas.buckets.NodeVisits.{takes-none, takes-some}
use Rattle.agg_composite.proofs.buckets.buckets_by_parent.BucketsByParent.visit.Goals as goal

pub returns-in_err-id-clause-too_many : goal.returns-in_err-id-clause-too_many
returns-in_err-id-clause-too_many g c = λ e.
    let R = g.S.Ord.cmp in
    let i = c.self.inside in
    let t = c.args.tuple.now in
    let page = c.index_mut-page.result.now in
    let read : page ≡ get_or i.parents.items i.parent [] =
    c.index_mut-page.ensures.value
    ∙ get_or_default i.parents.items i.parent page [] c.self.invariant.0 in
    subst (TooManyVisits R 1) c.self.view_is
    (⊎_elim inl
    (λ full. inr (
      (i.parent, t),
      full.bucket,
      ap (lookup (is_at (R t))) (sym read) ∙ full.was,
      full.many,
    ))
    (c.in_err-id.ensures.too_many
    (error-kept c.from_residual.result c.in_err-id.field-0.0 TooMany c.from_residual.ensures.1 e)))

pub returns-in_ok-push-clause-ok : goal.returns-in_ok-push-clause-ok
returns-in_ok-push-clause-ok g c =
    let R = g.S.Ord.cmp in
    let i = c.self.inside in
    let t = c.args.tuple.now in
    let node : Node g.row.S.Denot = record {
      parents = i.parents.items;
      size = i.size;
      next = i.ids;
      pushes = i.pushes.items;
      parent = i.parent;
      doc = i.doc;
    } in
    let page = c.index_mut-page.result.now in
    let page_now = c.visit_page-visited.new.page in
    let next_now = c.visit_page-visited.new.ids in
    let read : page ≡ get_or i.parents.items i.parent [] =
    c.index_mut-page.ensures.value
    ∙ get_or_default i.parents.items i.parent page [] c.self.invariant.0 in
    let takes : PageTakes R i.size t i.ids next_now page page_now (Some c.in-Some.id) =
    rw c.in-Some.is at c.in_ok-id.ensures.ok in
    let after : Node g.row.S.Denot = record node {
      parents = set i.parents.items i.parent page_now;
      next = next_now;
      pushes = c.push.new.self.items;
    } in
    subst (λ n. Takes R (t ∷ []) n after) c.self.view_is
    (takes-some R g.met.S.Ord.total node t c.self.invariant.0 page page_now read
    next_now c.push.new.self.items c.in-Some.id takes c.in_ok-push.ensures.items)

pub returns-in_default-clause-ok : goal.returns-in_default-clause-ok
returns-in_default-clause-ok g c =
    let R = g.S.Ord.cmp in
    let i = c.self.inside in
    let t = c.args.tuple.now in
    let node : Node g.row.S.Denot = record {
      parents = i.parents.items;
      size = i.size;
      next = i.ids;
      pushes = i.pushes.items;
      parent = i.parent;
      doc = i.doc;
    } in
    let page = c.index_mut-page.result.now in
    let page_now = c.visit_page-visited.new.page in
    let next_now = c.visit_page-visited.new.ids in
    let read : page ≡ get_or i.parents.items i.parent [] =
    c.index_mut-page.ensures.value
    ∙ get_or_default i.parents.items i.parent page [] c.self.invariant.0 in
    let takes : PageTakes R i.size t i.ids next_now page page_now None =
    rw c.in_default.is at c.in_ok-id.ensures.ok in
    let after : Node g.row.S.Denot = record node {
      parents = set i.parents.items i.parent page_now;
      next = next_now;
    } in
    subst (λ n. Takes R (t ∷ []) n after) c.self.view_is
    (takes-none R g.met.S.Ord.total node t page page_now read next_now takes)

pub returns-in_err-id-clause-held : goal.returns-in_err-id-clause-held
returns-in_err-id-clause-held g c =
    let R = g.S.Ord.cmp in
    let i = c.self.inside in
    let t = c.args.tuple.now in
    let page = c.index_mut-page.result.now in
    let page_now = c.visit_page-visited.new.page in
    let read : page ≡ get_or i.parents.items i.parent [] =
    c.index_mut-page.ensures.value
    ∙ get_or_default i.parents.items i.parent page [] c.self.invariant.0 in
    rw (← c.self.view_is)
    (adds-at R i.parents.items i.parent t page_now c.self.invariant.0
    (subst (λ before. AddsAtMost R t before page_now) read c.visit_page-visited.ensures.held))

pub returns-in_err-push-clause-held : goal.returns-in_err-push-clause-held
returns-in_err-push-clause-held g c =
    let R = g.S.Ord.cmp in
    let i = c.self.inside in
    let t = c.args.tuple.now in
    let page = c.index_mut-page.result.now in
    let page_now = c.visit_page-visited.new.page in
    let read : page ≡ get_or i.parents.items i.parent [] =
    c.index_mut-page.ensures.value
    ∙ get_or_default i.parents.items i.parent page [] c.self.invariant.0 in
    rw (← c.self.view_is)
    (adds-at R i.parents.items i.parent t page_now c.self.invariant.0
    (subst (λ before. AddsAtMost R t before page_now) read c.visit_page-visited.ensures.held))

pub returns-in_ok-push-clause-held : goal.returns-in_ok-push-clause-held
returns-in_ok-push-clause-held g c =
    let R = g.S.Ord.cmp in
    let i = c.self.inside in
    let t = c.args.tuple.now in
    let page = c.index_mut-page.result.now in
    let page_now = c.visit_page-visited.new.page in
    let read : page ≡ get_or i.parents.items i.parent [] =
    c.index_mut-page.ensures.value
    ∙ get_or_default i.parents.items i.parent page [] c.self.invariant.0 in
    rw (← c.self.view_is)
    (adds-at R i.parents.items i.parent t page_now c.self.invariant.0
    (subst (λ before. AddsAtMost R t before page_now) read c.visit_page-visited.ensures.held))

pub returns-in_default-clause-held : goal.returns-in_default-clause-held
returns-in_default-clause-held g c =
    let R = g.S.Ord.cmp in
    let i = c.self.inside in
    let t = c.args.tuple.now in
    let page = c.index_mut-page.result.now in
    let page_now = c.visit_page-visited.new.page in
    let read : page ≡ get_or i.parents.items i.parent [] =
    c.index_mut-page.ensures.value
    ∙ get_or_default i.parents.items i.parent page [] c.self.invariant.0 in
    rw (← c.self.view_is)
    (adds-at R i.parents.items i.parent t page_now c.self.invariant.0
    (subst (λ before. AddsAtMost R t before page_now) read c.visit_page-visited.ensures.held))
