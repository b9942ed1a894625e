use Rattle.std.proofs.Common.{◌≡◌, ◌<◌, ◌≤◌, [], false, get_or, length, length-set, map, take, ◌∙◌}
use Rattle.std.proofs.Common.{subst, arith}
use Rattle.std.proofs.lemmas.List.{get_or-set_other, take_all}
use Rattle.std.proofs.lemmas.Result.{on_ok_weaker}
use Rattle.agg_engine_tree.specs.declared.collector_tree.tree.SegmentCollectorTree.TheViews.{
  outs-Composite,
}
use Rattle.agg_engine_tree.specs.declared.collector_tree.tree.SegmentCollectorTree.TheViews.{
  outs-Filter,
}
use Rattle.agg_engine_tree.specs.declared.collector_tree.tree.SegmentCollectorTree.TheViews.{
  outs-Group,
}
use Rattle.agg_engine_tree.specs.declared.collector_tree.tree.SegmentCollectorTree.TheViews.{
  outs-Metric,
}
use Rattle.agg_engine_tree.specs.collector_tree.Prepared.{IsPrepared}
use Rattle.agg_engine_tree.specs.collector_tree.Tree.{Takes, group_of, held_of}
use Rattle.agg_engine_tree.proofs.lemmas.collector_tree.Groups.{AllTake, group-takes}
use Rattle.agg_engine_tree.proofs.lemmas.collector_tree.HandedTrees.{all-next}
use Rattle.agg_engine_tree.proofs.lemmas.collector_tree.Levels.{held-group}
use Rattle.agg_engine_tree.proofs.lemmas.collector_tree.PreparedTrees.{prepared-composite}
use Rattle.agg_engine_tree.proofs.lemmas.collector_tree.PreparedTrees.{prepared-filter}
use Rattle.agg_engine_tree.proofs.lemmas.collector_tree.PreparedTrees.{prepared-metric}
use Rattle.agg_engine_tree.proofs.lemmas.collector_tree.PreparedTrees.{prepared-next}
use Rattle.agg_engine_tree.proofs.collector_tree.preparing.+prepare.Goals as goal

pub prepare-returns-in_ok-prepare_max_bucket-in-Composite-clause-ok :
    goal.prepare-returns-in_ok-prepare_max_bucket-in-Composite-clause-ok
prepare-returns-in_ok-prepare_max_bucket-in-Composite-clause-ok t c =
    let x = c.in-Composite in
    rw (x.is, outs-Composite x.field-0 x.collector x.field-2)
    (λ ctx steps. prepared-composite ctx steps x.field-0 x.field-2 x.collector _
    c.prepare_max_bucket.new.self x.collector-is c.prepare_max_bucket.ensures.right
    c.prepare_max_bucket.ensures.rest c.prepare_max_bucket.ensures.parents)

pub prepare-returns-in-Filter-clause-ok : goal.prepare-returns-in-Filter-clause-ok
prepare-returns-in-Filter-clause-ok t c =
    let x = c.in-Filter in
    let call = c.prepare_max_bucket-in-Filter in
    rw (x.is, outs-Filter x.field-0 x.collector x.field-2)
    (on_ok_weaker call.result
    (λ done ctx steps. prepared-filter ctx steps x.field-0 x.field-2 x.collector _
    call.new.self x.collector-is call.ensures.right call.ensures.parents) call.ensures.prepared)

pub prepare-returns-in-Metric-clause-ok : goal.prepare-returns-in-Metric-clause-ok
prepare-returns-in-Metric-clause-ok t c =
    let x = c.in-Metric in
    let call = c.prepare_max_bucket-in-Metric in
    rw (x.is, outs-Metric x.field-0 x.collector)
    (on_ok_weaker call.result
    (λ done ctx steps. prepared-metric ctx steps x.field-0 x.collector _
    call.new.self x.collector-is call.ensures.right call.ensures.parents) call.ensures.prepared)

pub prepare-returns-in-Group-clause-ok : goal.prepare-returns-in-Group-clause-ok
prepare-returns-in-Group-clause-ok t c =
    let x = c.in-Group in
    let new = c.prepare_all.new.children in
    rw (x.is, outs-Group x.children) (on_ok_weaker c.prepare_all.result
    (λ done ctx steps. rw (held-group x.children, held-group new)
    (subst (λ v. Takes ctx [] false (group_of v.items) (group_of new.items) steps steps)
    x.children-is (done ctx steps))) c.prepare_all.ensures.ok)

pub prepare_all-loop-i-preserved : goal.prepare_all-loop-i-preserved
prepare_all-loop-i-preserved t c =
    let l = c.loop-i in
    let i = l.i in
    let xs = c.args.children.now.items in
    let left = l.invariant.unvisited in
    let node = c.index_mut.result.now in
    let new = c.prepare.new.node in
    let inside : i < length xs = omega (arith, c.loop-i-test.true, left.0) in
    let read : node ≡ get_or xs i node = c.index_mut.ensures.value ∙ left.1 i node (omega arith) in
    record {
      unvisited = (
        length-set l.children.items i new ∙ left.0,
        λ k d later.
            get_or-set_other l.children.items i k new d (omega arith) ∙ left.1 k d (omega arith),
      );
      took = λ ctx steps. all-next ctx [] false xs l.children.items i node new steps steps steps
          inside left.0 read (l.invariant.took ctx steps) (c.in_ok-prepare.ensures.ok ctx steps);
      prepared = prepared-next c.args.max_bucket l.children.items i new
          (omega (arith, inside, left.0)) l.invariant.prepared c.in_ok-prepare.ensures.prepared;
    }

pub prepare_all-returns-clause-ok : goal.prepare_all-returns-clause-ok
prepare_all-returns-clause-ok t c = λ ctx steps.
    let l = c.loop-i in
    let xs = c.args.children.now.items in
    let ys = l.children.items in
    let left = l.invariant.unvisited in
    let past : length xs ≤ l.i = omega (arith, c.loop-i-test.false, left.0) in
    group-takes ctx [] false (map held_of xs) (map held_of ys) steps steps
    (subst (λ os. AllTake ctx [] false (map held_of os) (map held_of ys) steps steps)
    (take_all l.i xs past)
    (subst (λ ns. AllTake ctx [] false (map held_of (take l.i xs)) (map held_of ns) steps steps)
    (take_all l.i ys (omega (arith, past, left.0))) (l.invariant.took ctx steps)))

pub prepare_all-returns-clause-prepared : goal.prepare_all-returns-clause-prepared
prepare_all-returns-clause-prepared t c =
    let l = c.loop-i in
    let past : length l.children.items ≤ l.i =
    omega (arith, c.loop-i-test.false, l.invariant.unvisited.0) in
    subst (λ ts. IsPrepared c.args.max_bucket (group_of ts)) (take_all l.i l.children.items past)
    l.invariant.prepared
