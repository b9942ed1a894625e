use Rattle.std.proofs.Common.{◌≡◌, ℕ, [], ◌∷◌, ◌++◌, Some, refl, sym, ap, ◌∙◌, subst, arith}
use Rattle.std.proofs.Common.{rules}
use Rattle.std.specs.Prelude.{slice_get}
use Rattle.std.proofs.lemmas.Result.{on_ok_weaker}
use Rattle.agg_values.specs.Names.{put}
use Rattle.agg_composite.specs.PageEntries.{page_entries}
use Rattle.agg_composite.proofs.BucketPages.{first-encoded, next-entries}
use Rattle.agg_engine_tree.specs.collector_tree.Tree.{held_of}
use Rattle.agg_engine_tree.specs.declared.collector_tree.tree.SegmentCollectorTree.{the_lemmas}
use Rattle.agg_engine_tree.specs.tree_results.Entries.{HoldsPage}
use Rattle.agg_engine_tree.specs.tree_results.Results.{GroupStands, MayAdd}
use Rattle.agg_engine_tree.proofs.lemmas.tree_results.GroupAdds.{all-added, next-added, next-may}
use Rattle.agg_engine_tree.proofs.lemmas.tree_results.HeldEntries.{holds-below, holds-more}
use Rattle.agg_engine_tree.proofs.lemmas.tree_results.HeldEntries.{holds-none}
use Rattle.agg_engine_tree.proofs.lemmas.tree_results.NodeAdds.{composite-absent, composite-added}
use Rattle.agg_engine_tree.proofs.lemmas.tree_results.NodeAdds.{composite-ascending}
use Rattle.agg_engine_tree.proofs.lemmas.tree_results.NodeAdds.{composite-below, composite-encoded}
use Rattle.agg_engine_tree.proofs.lemmas.tree_results.NodeAdds.{composite-within, filter-absent}
use Rattle.agg_engine_tree.proofs.lemmas.tree_results.NodeAdds.{filter-added, filter-below}
use Rattle.agg_engine_tree.proofs.lemmas.tree_results.NodeAdds.{filter-within, found-at}
use Rattle.agg_engine_tree.proofs.lemmas.tree_results.NodeAdds.{metric-absent, metric-added}
use Rattle.agg_engine_tree.proofs.lemmas.tree_results.NodeAdds.{metric-within}
use Rattle.agg_engine_tree.proofs.lemmas.tree_results.YieldedItems.{all-yielded, next-split}
use Rattle.agg_engine_tree.proofs.lemmas.tree_results.YieldedItems.{next-yielded}
use Rattle.agg_engine_tree.proofs.tree_results.results.+add.Goals as goal
use Rattle.agg_engine_tree.proofs.tree_results.results.+add.Goals.{
  add_results_under-After-index-as_slice-index,
}

-- ---- a page

pub buckets_of-loop-buckets-init : goal.buckets_of-loop-buckets-init
buckets_of-loop-buckets-init t c = record {
  gone = [];
  split = refl;
  encoded = c.requires.encoded;
  holds = holds-none c.args.ctx.now (held_of c.args.child.now) c.args.req.now.req.now.sources
      c.args.req.now.size c.reserve.new.self (c.reserve.ensures ∙ c.in_ok-buckets.ensures);
}

pub buckets_of-add_results_under-requires : goal.buckets_of-add_results_under-requires
buckets_of-add_results_under-requires t c = (
  search (rules, the_lemmas),
  subst (MayAdd c.args.ctx.now (held_of c.args.child.now)) (sym c.new-below.ensures)
      c.requires.below,
)

pub buckets_of-add_last-requires : goal.buckets_of-add_last-requires
buckets_of-add_last-requires t c =
    let req = c.args.req.now in
    let so_far = c.loop-buckets.invariant in
    let next = rw c.in-Some.is at c.in_ok-entry.ensures in
    holds-below c.args.ctx.now (held_of c.args.child.now) req.req.now.sources req.size so_far.gone
    c.loop-buckets.buckets so_far.holds (page_entries req c.args.entries) c.in-Some.entry
    (page_entries req c.next_entry.new.self)
    (next-split (page_entries req c.args.entries) so_far.gone
    (page_entries req c.loop-buckets.entries) so_far.split c.in-Some.entry
    (page_entries req c.next_entry.new.self)
    (next-entries req c.loop-buckets.entries c.next_entry.new.self c.in-Some.entry next))
    c.requires.ascending

pub buckets_of-loop-buckets-preserved : goal.buckets_of-loop-buckets-preserved
buckets_of-loop-buckets-preserved t c =
    let req = c.args.req.now in
    let so_far = c.loop-buckets.invariant in
    let next = rw c.in-Some.is at c.in_ok-entry.ensures in
    record {
      gone = so_far.gone ++ c.in-Some.entry ∷ [];
      split = next-yielded (page_entries req c.args.entries) so_far.gone
          (page_entries req c.loop-buckets.entries) so_far.split c.in-Some.entry
          (page_entries req c.next_entry.new.self)
          (next-entries req c.loop-buckets.entries c.next_entry.new.self c.in-Some.entry next);
      encoded = (first-encoded req c.loop-buckets.entries c.next_entry.new.self next.bucket
          next.split so_far.encoded).1;
      holds = holds-more c.args.ctx.now (held_of c.args.child.now) req.req.now.sources req.size
          so_far.gone c.loop-buckets.buckets so_far.holds c.in-Some.entry
          c.add_results_under.new.results c.add_last.new.buckets
          (c.in_ok-add_results_under.ensures.all c.new-below.ensures) c.in_ok-add_last.ensures;
    }

pub buckets_of-returns : goal.buckets_of-returns
buckets_of-returns t c =
    let req = c.args.req.now in
    let so_far = c.loop-buckets.invariant in
    let none = rw c.in_default.is at c.in_ok-entry.ensures in
    subst (λ page. HoldsPage c.args.ctx.now (held_of c.args.child.now) req.req.now.sources req.size
    page c.loop-buckets.buckets)
    (all-yielded (page_entries req c.args.entries) so_far.gone
    (page_entries req c.loop-buckets.entries) so_far.split
    (ap (page_entries req) none.0)) so_far.holds

-- ---- a composite

pub add_results_under-bounds-as_slice-index : goal.add_results_under-bounds-as_slice-index
add_results_under-bounds-as_slice-index t c =
    composite-within c.args.ctx.now c.args.node.now c.args.results.now.results c.requires
    c.in-Composite.index c.in-Composite.collector c.in-Composite.child c.in-Composite.is
    c.as_slice.result.now c.as_slice.ensures

pub add_results_under-offset_bounds-as_slice-index :
    goal.add_results_under-offset_bounds-as_slice-index
add_results_under-offset_bounds-as_slice-index t c =
    let within = add_results_under-bounds-as_slice-index t c in
    omega (arith, within, c.as_slice.type_inv.1)

-- its data is found at its index
found : (t : ℕ) (c : add_results_under-After-index-as_slice-index t)
    → slice_get c.args.ctx.now.composite_req_data c.in-Composite.index
    ≡ Some c.index-as_slice-index.result
found t c =
    found-at c.as_slice.result.now c.args.ctx.now.composite_req_data c.in-Composite.index
    c.index-as_slice-index.result c.as_slice.ensures
    (composite-within c.args.ctx.now c.args.node.now c.args.results.now.results c.requires
    c.in-Composite.index c.in-Composite.collector c.in-Composite.child c.in-Composite.is
    c.as_slice.result.now c.as_slice.ensures) c.index-as_slice-index.is

pub add_results_under-buckets_of-requires : goal.add_results_under-buckets_of-requires
add_results_under-buckets_of-requires t c =
    let turn = (goal.at.add_results_under-buckets_of-requires t c).After-index-as_slice-index in
    let own = c.in_ok-entries-in-Composite in (
      search (rules, the_lemmas),
      (
        composite-below c.args.ctx.now c.args.node.now c.args.results.now.results c.requires
            c.in-Composite.index c.in-Composite.collector c.in-Composite.child c.in-Composite.is
            c.deref.result.now [] c.deref.ensures refl,
        (
          composite-encoded c.args.ctx.now c.args.node.now c.args.results.now.results c.requires
              c.in-Composite.index c.in-Composite.collector c.in-Composite.child c.in-Composite.is
              c.index-as_slice-index.result (found t turn) c.args.parent own.entries own.ensures,
          composite-ascending c.args.ctx.now c.args.node.now c.args.results.now.results c.requires
              c.in-Composite.index c.in-Composite.collector c.in-Composite.child c.in-Composite.is
              c.index-as_slice-index.result (found t turn) c.args.parent own.entries own.ensures,
        ),
      ),
    )

pub add_results_under-put_result-requires : goal.add_results_under-put_result-requires
add_results_under-put_result-requires t c =
    let turn = (goal.at.add_results_under-put_result-requires t c).After-index-as_slice-index in
    composite-absent c.args.ctx.now c.args.node.now c.args.results.now.results c.requires
    c.in-Composite.index c.in-Composite.collector c.in-Composite.child c.in-Composite.is
    c.index-as_slice-index.result (found t turn)

pub add_results_under-returns-in_ok-buckets-in-Composite :
    goal.add_results_under-returns-in_ok-buckets-in-Composite
add_results_under-returns-in_ok-buckets-in-Composite t c =
    let turn =
    (goal.at.add_results_under-returns-in_ok-buckets-in-Composite t c).After-index-as_slice-index in
    let req = c.index-as_slice-index.result in
    let own = c.in_ok-entries-in-Composite in
    let buckets = c.in_ok-buckets-in-Composite.buckets in
    on_ok_weaker c.put_result.result (λ put_is.
    composite-added c.args.ctx.now c.args.node.now c.args.results.now.results c.requires
    c.in-Composite.index c.in-Composite.collector c.in-Composite.child c.in-Composite.is req
    (found t turn) c.args.parent own.entries own.ensures buckets
    (subst (λ b. HoldsPage c.args.ctx.now (held_of b) req.req.now.sources req.size
    (page_entries req own.entries) buckets) c.deref.ensures
    c.in_ok-buckets-in-Composite.ensures) c.put_result.new.results.results
    (put_is ∙ ap (λ v. put req.name v c.args.results.now.results) c.page_result.ensures))
    c.put_result.ensures

-- ---- a filter

pub add_results_under-bounds-as_slice-index-in-Filter :
    goal.add_results_under-bounds-as_slice-index-in-Filter
add_results_under-bounds-as_slice-index-in-Filter t c =
    filter-within c.args.ctx.now c.args.node.now c.args.results.now.results c.requires
    c.in-Filter.index c.in-Filter.collector c.in-Filter.child c.in-Filter.is
    c.as_slice-in-Filter.result.now c.as_slice-in-Filter.ensures

pub add_results_under-offset_bounds-as_slice-index-in-Filter :
    goal.add_results_under-offset_bounds-as_slice-index-in-Filter
add_results_under-offset_bounds-as_slice-index-in-Filter t c =
    let within = add_results_under-bounds-as_slice-index-in-Filter t c in
    omega (arith, within, c.as_slice-in-Filter.type_inv.1)

pub add_results_under-add_results_under-requires : goal.add_results_under-add_results_under-requires
add_results_under-add_results_under-requires t c = (
  search (rules, the_lemmas),
  filter-below c.args.ctx.now c.args.node.now c.args.results.now.results c.requires
      c.in-Filter.index c.in-Filter.collector c.in-Filter.child c.in-Filter.is
      c.deref-in-Filter.result.now c.new-below.result.results c.deref-in-Filter.ensures
      c.new-below.ensures,
)

pub add_results_under-put_result-requires-in-Filter :
    goal.add_results_under-put_result-requires-in-Filter
add_results_under-put_result-requires-in-Filter t c =
    filter-absent c.args.ctx.now c.args.node.now c.args.results.now.results c.requires
    c.in-Filter.index c.in-Filter.collector c.in-Filter.child c.in-Filter.is
    c.index-as_slice-index-in-Filter.result
    (found-at c.as_slice-in-Filter.result.now c.args.ctx.now.filter_req_data
    c.in-Filter.index c.index-as_slice-index-in-Filter.result c.as_slice-in-Filter.ensures
    (filter-within c.args.ctx.now c.args.node.now c.args.results.now.results c.requires
    c.in-Filter.index c.in-Filter.collector c.in-Filter.child c.in-Filter.is
    c.as_slice-in-Filter.result.now c.as_slice-in-Filter.ensures)
    c.index-as_slice-index-in-Filter.is)

pub add_results_under-returns-in_ok-add_results_under-in-Filter :
    goal.add_results_under-returns-in_ok-add_results_under-in-Filter
add_results_under-returns-in_ok-add_results_under-in-Filter t c =
    let below = c.add_results_under.new.results in
    let bucket = c.bucket_under-doc_count.result in
    let adds = c.in_ok-add_results_under-in-Filter.ensures in
    on_ok_weaker c.put_result-in-Filter.result (λ put_is.
    filter-added c.args.ctx.now c.args.node.now c.args.results.now.results c.requires
    c.in-Filter.index c.in-Filter.collector c.in-Filter.child c.in-Filter.is
    c.index-as_slice-index-in-Filter.result
    (found-at c.as_slice-in-Filter.result.now c.args.ctx.now.filter_req_data
    c.in-Filter.index c.index-as_slice-index-in-Filter.result c.as_slice-in-Filter.ensures
    (filter-within c.args.ctx.now c.args.node.now c.args.results.now.results c.requires
    c.in-Filter.index c.in-Filter.collector c.in-Filter.child c.in-Filter.is
    c.as_slice-in-Filter.result.now c.as_slice-in-Filter.ensures)
    c.index-as_slice-index-in-Filter.is) c.args.parent bucket.1 bucket.0
    below c.bucket_under-doc_count.ensures.count c.bucket_under-doc_count.ensures.given
    (subst (λ b. GroupStands c.args.ctx.now (held_of b) bucket.1 below.results)
    c.deref-in-Filter.ensures (adds.all c.new-below.ensures))
    c.put_result-in-Filter.new.results.results
    (put_is ∙ ap (λ v. put c.index-as_slice-index-in-Filter.result.name v
    c.args.results.now.results) c.filter_result.ensures)) c.put_result-in-Filter.ensures

-- ---- a metric

pub add_results_under-bounds-as_slice-index-in-Metric :
    goal.add_results_under-bounds-as_slice-index-in-Metric
add_results_under-bounds-as_slice-index-in-Metric t c =
    metric-within c.args.ctx.now c.args.node.now c.args.results.now.results c.requires
    c.in-Metric.index c.in-Metric.collector c.in-Metric.is c.as_slice-in-Metric.result.now
    c.as_slice-in-Metric.ensures

pub add_results_under-offset_bounds-as_slice-index-in-Metric :
    goal.add_results_under-offset_bounds-as_slice-index-in-Metric
add_results_under-offset_bounds-as_slice-index-in-Metric t c =
    let within = add_results_under-bounds-as_slice-index-in-Metric t c in
    omega (arith, within, c.as_slice-in-Metric.type_inv.1)

pub add_results_under-put_result-requires-in-Metric :
    goal.add_results_under-put_result-requires-in-Metric
add_results_under-put_result-requires-in-Metric t c =
    metric-absent c.args.ctx.now c.args.node.now c.args.results.now.results c.requires
    c.in-Metric.index c.in-Metric.collector c.in-Metric.is
    c.index-as_slice-index-in-Metric.result
    (found-at c.as_slice-in-Metric.result.now c.args.ctx.now.stats_metric_req_data
    c.in-Metric.index c.index-as_slice-index-in-Metric.result c.as_slice-in-Metric.ensures
    (metric-within c.args.ctx.now c.args.node.now c.args.results.now.results c.requires
    c.in-Metric.index c.in-Metric.collector c.in-Metric.is c.as_slice-in-Metric.result.now
    c.as_slice-in-Metric.ensures) c.index-as_slice-index-in-Metric.is)

pub add_results_under-returns-in-Metric : goal.add_results_under-returns-in-Metric
add_results_under-returns-in-Metric t c =
    on_ok_weaker c.put_result-in-Metric.result (λ put_is.
    metric-added c.args.ctx.now c.args.node.now c.args.results.now.results c.requires
    c.in-Metric.index c.in-Metric.collector c.in-Metric.is
    c.index-as_slice-index-in-Metric.result
    (found-at c.as_slice-in-Metric.result.now c.args.ctx.now.stats_metric_req_data
    c.in-Metric.index c.index-as_slice-index-in-Metric.result c.as_slice-in-Metric.ensures
    (metric-within c.args.ctx.now c.args.node.now c.args.results.now.results c.requires
    c.in-Metric.index c.in-Metric.collector c.in-Metric.is c.as_slice-in-Metric.result.now
    c.as_slice-in-Metric.ensures) c.index-as_slice-index-in-Metric.is)
    c.args.parent c.metric_under.result c.metric_under.ensures
    c.put_result-in-Metric.new.results.results put_is) c.put_result-in-Metric.ensures

-- ---- several

pub add_results_under-loop-child-init : goal.add_results_under-loop-child-init
add_results_under-loop-child-init t c = refl

pub add_results_under-add_results_under-requires-in-loop-child :
    goal.add_results_under-add_results_under-requires-in-loop-child
add_results_under-add_results_under-requires-in-loop-child t c = (
  search (rules, the_lemmas),
  next-may c.args.ctx.now c.args.node.now c.args.results.now.results c.requires
      c.in-Group.children c.in-Group.is c.deref-child-items.result.now
      c.deref-child-items.ensures.value c.args.parent c.loop-child.child-index c.child-item.result
      c.loop-child-test.true c.child-item.is c.loop-child.results.results c.loop-child.invariant,
)

pub add_results_under-loop-child-preserved : goal.add_results_under-loop-child-preserved
add_results_under-loop-child-preserved t c =
    next-added c.args.ctx.now c.args.node.now c.args.results.now.results c.requires
    c.in-Group.children c.in-Group.is c.deref-child-items.result.now
    c.deref-child-items.ensures.value c.args.parent c.loop-child.child-index c.child-item.result
    c.loop-child-test.true c.child-item.is c.loop-child.results.results c.loop-child.invariant
    c.add_results_under-in-loop-child.new.results.results
    c.in_ok-add_results_under-in-Group.ensures

pub add_results_under-returns-after-loop-child : goal.add_results_under-returns-after-loop-child
add_results_under-returns-after-loop-child t c =
    all-added c.args.ctx.now c.args.node.now c.args.results.now.results c.requires
    c.in-Group.children c.in-Group.is c.deref-child-items.result.now
    c.deref-child-items.ensures.value c.args.parent c.loop-child.child-index
    c.loop-child-test.false c.loop-child.results.results c.loop-child.invariant
