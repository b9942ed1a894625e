use Rattle.std.proofs.Common.{◌≡◌, ℕ, [], Some, refl, sym, ap, ◌∙◌, subst, arith, rules}
use Rattle.std.specs.Prelude.{slice_get}
use Rattle.std.proofs.lemmas.List.{nil_from_length}
use Rattle.std.proofs.lemmas.Result.{on_ok_weaker}
use Rattle.agg_values.specs.Names.{put}
use Rattle.agg_composite.specs.PageEntries.{page_entries}
use Rattle.agg_engine_tree.specs.collector_tree.Tree.{held_of}
use Rattle.agg_engine_tree.specs.declared.collector_tree.tree.SegmentCollectorTree.{the_lemmas}
use Rattle.agg_engine_tree.specs.tree_results.Entries.{HoldsPage}
use Rattle.agg_engine_tree.proofs.lemmas.tree_results.GroupAdds.{following-added, following-may}
use Rattle.agg_engine_tree.proofs.lemmas.tree_results.GroupAdds.{whole-added}
use Rattle.agg_engine_tree.proofs.lemmas.tree_results.NodeAdds.{composite-absent, composite-added}
use Rattle.agg_engine_tree.proofs.lemmas.tree_results.NodeAdds.{composite-ascending}
use Rattle.agg_engine_tree.proofs.lemmas.tree_results.NodeAdds.{composite-below, composite-encoded}
use Rattle.agg_engine_tree.proofs.lemmas.tree_results.NodeAdds.{composite-within, found-at}
use Rattle.agg_engine_tree.proofs.lemmas.tree_results.YieldedItems.{all-yielded, next-split}
use Rattle.agg_engine_tree.proofs.lemmas.tree_results.YieldedItems.{next-yielded}
use Rattle.agg_engine_tree.proofs.tree_results.ending.+into_results_under.Goals as goal
use Rattle.agg_engine_tree.proofs.tree_results.ending.+into_results_under.Goals.{
  After-index-as_slice-index,
}

-- ---- a composite

pub bounds-as_slice-index : goal.bounds-as_slice-index
bounds-as_slice-index t c =
    composite-within c.args.ctx.now c.args.node c.args.results.now.results c.requires
    c.in-Composite.index c.in-Composite.collector c.in-Composite.child c.in-Composite.is
    c.as_slice.result.now c.as_slice.ensures

pub offset_bounds-as_slice-index : goal.offset_bounds-as_slice-index
offset_bounds-as_slice-index t c =
    let within = bounds-as_slice-index t c in omega (arith, within, c.as_slice.type_inv.1)

-- its data is found at its index
found : (t : ℕ) (c : After-index-as_slice-index t)
    → slice_get c.args.ctx.now.composite_req_data c.in-Composite.index
    ≡ Some c.index-as_slice-index.result
found t c =
    found-at c.as_slice.result.now c.args.ctx.now.composite_req_data c.in-Composite.index
    c.index-as_slice-index.result c.as_slice.ensures
    (composite-within c.args.ctx.now c.args.node c.args.results.now.results c.requires
    c.in-Composite.index c.in-Composite.collector c.in-Composite.child c.in-Composite.is
    c.as_slice.result.now c.as_slice.ensures) c.index-as_slice-index.is

pub buckets_of-requires-clause-below : goal.buckets_of-requires-clause-below
buckets_of-requires-clause-below t c =
    composite-below c.args.ctx.now c.args.node c.args.results.now.results c.requires
    c.in-Composite.index c.in-Composite.collector c.in-Composite.child c.in-Composite.is
    c.deref.result.now [] c.deref.ensures refl

pub buckets_of-requires-clause-encoded : goal.buckets_of-requires-clause-encoded
buckets_of-requires-clause-encoded t c =
    let turn = (goal.at.buckets_of-requires-clause-encoded t c).After-index-as_slice-index in
    let own = c.in_ok-entries-in-Composite in
    composite-encoded c.args.ctx.now c.args.node c.args.results.now.results c.requires
    c.in-Composite.index c.in-Composite.collector c.in-Composite.child c.in-Composite.is
    c.index-as_slice-index.result (found t turn) (Some c.args.parent) own.entries own.ensures

pub buckets_of-requires-clause-ascending : goal.buckets_of-requires-clause-ascending
buckets_of-requires-clause-ascending t c =
    let turn = (goal.at.buckets_of-requires-clause-ascending t c).After-index-as_slice-index in
    let own = c.in_ok-entries-in-Composite in
    composite-ascending c.args.ctx.now c.args.node c.args.results.now.results c.requires
    c.in-Composite.index c.in-Composite.collector c.in-Composite.child c.in-Composite.is
    c.index-as_slice-index.result (found t turn) (Some c.args.parent) own.entries own.ensures

pub put_result-requires : goal.put_result-requires
put_result-requires t c =
    let turn = (goal.at.put_result-requires t c).After-index-as_slice-index in
    composite-absent c.args.ctx.now c.args.node c.args.results.now.results c.requires
    c.in-Composite.index c.in-Composite.collector c.in-Composite.child c.in-Composite.is
    c.index-as_slice-index.result (found t turn)

pub returns-in_ok-buckets-in-Composite : goal.returns-in_ok-buckets-in-Composite
returns-in_ok-buckets-in-Composite t c =
    let turn = (goal.at.returns-in_ok-buckets-in-Composite t c).After-index-as_slice-index in
    let req = c.index-as_slice-index.result in
    let own = c.in_ok-entries-in-Composite in
    let buckets = c.in_ok-buckets-in-Composite.buckets in
    on_ok_weaker c.put_result.result (λ put_is.
    composite-added c.args.ctx.now c.args.node c.args.results.now.results c.requires
    c.in-Composite.index c.in-Composite.collector c.in-Composite.child c.in-Composite.is req
    (found t turn) (Some c.args.parent) own.entries own.ensures buckets
    (subst (λ b. HoldsPage c.args.ctx.now (held_of b) req.req.now.sources req.size
    (page_entries req own.entries) buckets) c.deref.ensures
    c.in_ok-buckets-in-Composite.ensures) c.put_result.new.results.results
    (put_is ∙ ap (λ v. put req.name v c.args.results.now.results) c.page_result.ensures))
    c.put_result.ensures

-- ---- several

pub loop-child-init : goal.loop-child-init
loop-child-init t c = record { added = refl; rest = refl }

pub into_results_under-requires : goal.into_results_under-requires
into_results_under-requires t c =
    let all = c.into_iter-child-iterator in
    let left = c.loop-child.child-iterator.rest.items in (
      search (rules, the_lemmas),
      following-may c.args.ctx.now c.args.node c.args.results.now.results c.requires
          c.in-Group.children c.in-Group.is all.result.rest.items all.ensures.into_iter_gives.0
          (Some c.args.parent) c.loop-child.yielded c.in-Some.child c.next.new.self.rest.items
          (next-split all.result.rest.items c.loop-child.yielded left c.loop-child.invariant.rest
          c.in-Some.child c.next.new.self.rest.items c.in-Some.ensures.steps.0)
          c.loop-child.results.results c.loop-child.invariant.added,
    )

pub loop-child-preserved : goal.loop-child-preserved
loop-child-preserved t c =
    let all = c.into_iter-child-iterator in
    let left = c.loop-child.child-iterator.rest.items in
    record {
      added = following-added c.args.ctx.now c.args.node c.args.results.now.results c.requires
          c.in-Group.children c.in-Group.is all.result.rest.items all.ensures.into_iter_gives.0
          (Some c.args.parent) c.loop-child.yielded c.in-Some.child c.next.new.self.rest.items
          (next-split all.result.rest.items c.loop-child.yielded left c.loop-child.invariant.rest
          c.in-Some.child c.next.new.self.rest.items c.in-Some.ensures.steps.0)
          c.loop-child.results.results c.loop-child.invariant.added
          c.into_results_under.new.results.results c.in_ok-into_results_under-in-Group.ensures;
      rest = next-yielded all.result.rest.items c.loop-child.yielded left
          c.loop-child.invariant.rest c.in-Some.child c.next.new.self.rest.items
          c.in-Some.ensures.steps.0;
    }

pub returns-in-None : goal.returns-in-None
returns-in-None t c =
    let all = c.into_iter-child-iterator in
    let left = c.loop-child.child-iterator.rest in
    whole-added c.args.ctx.now c.args.node c.args.results.now.results c.requires
    c.in-Group.children c.in-Group.is all.result.rest.items all.ensures.into_iter_gives.0
    (Some c.args.parent) c.loop-child.yielded
    (all-yielded all.result.rest.items c.loop-child.yielded left.items c.loop-child.invariant.rest
    (nil_from_length left.items (sym left.ok.0 ∙ c.in-None.ensures.steps.0)))
    c.loop-child.results.results c.loop-child.invariant.added
