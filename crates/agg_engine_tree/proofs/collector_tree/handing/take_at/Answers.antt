use Rattle.std.proofs.Common.{◌≡◌, ◌≤◌, Some, length, sym, ap, ◌∙◌, subst, arith}
use Rattle.std.specs.Prelude.{IfErr, slice_get}
use Rattle.std.proofs.lemmas.Option.{slice_get_within}
use Rattle.agg_composite.specs.Composite.{Composite}
use Rattle.agg_metric.specs.Collector.{MetricTakes}
use Rattle.agg_engine_tree.specs.collector_tree.Bound.{TakesMost}
use Rattle.agg_engine_tree.specs.collector_tree.Call.{is_flush, pairs_in, parents_in}
use Rattle.agg_engine_tree.specs.collector_tree.Refusals.{IsRefused, TakesInRange}
use Rattle.agg_engine_tree.specs.collector_tree.Caches.{Cache}
use Rattle.agg_engine_tree.specs.collector_tree.Tree.{Fits, held_of}
use Rattle.agg_engine_tree.specs.declared.collector_tree.tree.SegmentCollectorTree as declared
use declared.{SegmentCollectorTree as Tree}
use Rattle.agg_engine_tree.specs.declared.collector_tree.tree.SegmentCollectorTree.TheViews.{
  outs-Composite,
}
use Rattle.agg_engine_tree.specs.declared.collector_tree.tree.SegmentCollectorTree.TheViews.{
  outs-Filter,
}
use Rattle.agg_engine_tree.specs.declared.collector_tree.tree.SegmentCollectorTree.TheViews.{
  outs-Metric,
}
use Rattle.agg_engine_tree.proofs.lemmas.collector_tree.MostSteps.{no-steps}
use Rattle.agg_engine_tree.proofs.lemmas.collector_tree.NodeBounds.{node-bounds-composite}
use Rattle.agg_engine_tree.proofs.lemmas.collector_tree.NodeSteps.{node-hands-composite}
use Rattle.agg_engine_tree.proofs.lemmas.collector_tree.NodeSteps.{node-hands-filter}
use Rattle.agg_engine_tree.proofs.lemmas.collector_tree.NodeSteps.{node-keeps-composite}
use Rattle.agg_engine_tree.proofs.lemmas.collector_tree.NodeSteps.{node-keeps-filter}
use Rattle.agg_engine_tree.proofs.lemmas.collector_tree.Groups.{metric-takes}
use Rattle.agg_engine_tree.proofs.lemmas.collector_tree.Levels.{held-composite, held-metric}
use Rattle.agg_engine_tree.proofs.lemmas.collector_tree.InRangeTrees.{composite-in_range}
use Rattle.agg_engine_tree.proofs.lemmas.collector_tree.NodeData.{composite-data, composite-read}
use Rattle.agg_engine_tree.proofs.lemmas.collector_tree.NodeData.{filter-data, filter-read}
use Rattle.agg_engine_tree.proofs.lemmas.collector_tree.NodeRefusals.{node-refused-composite}
use Rattle.agg_engine_tree.proofs.lemmas.collector_tree.NodeRefusals.{node-refused-filter}
use Rattle.agg_engine_tree.proofs.lemmas.collector_tree.NodeRefusals.{node-refused-metric}
use Rattle.agg_engine_tree.proofs.lemmas.collector_tree.PassedErrors.{error-passed}
use Rattle.agg_engine_tree.proofs.collector_tree.handing.take_at.Given as given
use Rattle.agg_engine_tree.proofs.collector_tree.handing.take_at.Goals as goal
use Rattle.agg_engine_tree.proofs.collector_tree.handing.take_at.Goals.{After-take_in_composite}
use Rattle.agg_engine_tree.proofs.collector_tree.handing.take_at.Goals.{After-take_in_filter}

-- ---- composites

pub bounds-as_slice-index : goal.bounds-as_slice-index
bounds-as_slice-index g c =
    let x = c.in-Composite in
    let d = composite-data c.args.ctx.now c.args.node.now c.index_of-index.result x.field-0
    c.index_of-index.ensures c.requires.fits x.collector x.field-2 x.is in
    let within = slice_get_within c.args.ctx.now.composite_req_data c.index_of-index.result d.0 d.1
    in
    omega (arith, within, ap length c.as_slice.ensures)

pub offset_bounds-as_slice-index : goal.offset_bounds-as_slice-index
offset_bounds-as_slice-index g c =
    let within = bounds-as_slice-index g c in
    omega (arith, within, c.as_slice.type_inv)

pub take_in_composite-requires : goal.take_in_composite-requires
take_in_composite-requires g c =
    let x = c.in-Composite in
    let req = c.index-as_slice-index.result in
    let meant = c.requires.meant in
    let read = composite-read c.args.ctx.now c.args.node.now c.index_of-index.result x.field-0
    c.index_of-index.ensures c.requires.fits x.collector x.field-2 x.is c.as_slice.result.now
    c.as_slice.ensures req c.index-as_slice-index.is in
    record {
      fits = (
        meant.0.segment,
        meant.0.after_at x.field-0,
        (meant.1.composites x.field-0 req read.0).fits,
      );
      range = λ checked.
          composite-in_range c.args.ctx.now (pairs_in c.args.call) x.field-0 req read.0 x.collector
          (held_of x.field-2.value)
          (subst (TakesInRange c.args.ctx.now (pairs_in c.args.call))
          (ap held_of x.is ∙ held-composite x.field-0 x.collector x.field-2)
          (c.requires.range checked));
      room = subst (λ (y : Composite Cache). length req.req.now.sources ≤ y.room)
          (sym x.collector-is) read.1;
    }

-- what was read is the data of the composite
composite-at : (g : given.Over) (c : After-take_in_composite g)
    → slice_get c.args.ctx.now.composite_req_data c.in-Composite.field-0
    ≡ Some c.index-as_slice-index.result
composite-at g c =
    let x = c.in-Composite in
    (composite-read c.args.ctx.now c.args.node.now c.index_of-index.result x.field-0
    c.index_of-index.ensures c.requires.fits x.collector x.field-2 x.is c.as_slice.result.now
    c.as_slice.ensures c.index-as_slice-index.result c.index-as_slice-index.is).0

-- whatever the composite answers, its steps are few, and none is taken back
composite-bounds : (g : given.Over) (c : After-take_in_composite g)
    → TakesMost c.args.ctx.now (pairs_in c.args.call) (held_of c.args.node.now)
    c.args.steps.now c.take_in_composite.new.steps
    × (c.args.steps.now ≤ c.take_in_composite.new.steps)
composite-bounds g c =
    let x = c.in-Composite in
    node-bounds-composite c.args.ctx.now (pairs_in c.args.call) c.args.node.now x.field-0
    c.index-as_slice-index.result (composite-at g c) c.requires.fits c.requires.meant x.collector
    x.field-2 x.is _ c.take_in_composite.new.collector c.args.steps.now
    c.take_in_composite.new.steps c.take_in_composite.result
    (λ segment after fits. c.take_in_composite.ensures segment after fits)

pub returns-in_err-take_in_composite-in-Composite-clause-refused :
    goal.returns-in_err-take_in_composite-in-Composite-clause-refused
returns-in_err-take_in_composite-in-Composite-clause-refused g c =
    let x = c.in-Composite in
    let error = c.in_err-take_in_composite-in-Composite.field-0.0 in
    let point = goal.at.returns-in_err-take_in_composite-in-Composite-clause-refused g c in
    let here = composite-at g point.After-take_in_composite in
    error-passed (λ r. IfErr r (IsRefused c.args.ctx.now (pairs_in c.args.call)
    (parents_in c.args.call) (held_of c.args.node.now))) c.from_residual.result error
    c.from_residual.ensures.1
    (node-refused-composite c.args.ctx.now (pairs_in c.args.call) (parents_in c.args.call)
    c.args.node.now x.field-0 c.index-as_slice-index.result here c.requires.meant x.collector
    x.field-2 x.is _ x.collector-is c.take_in_composite.new.collector c.args.steps.now
    c.take_in_composite.new.steps error
    (λ segment after fits. c.in_err-take_in_composite-in-Composite.ensures segment after fits))

pub returns-then-not-due-clause-ok : goal.returns-then-not-due-clause-ok
returns-then-not-due-clause-ok g c =
    let x = c.in-Composite in
    let here = composite-at g (goal.at.returns-then-not-due-clause-ok g c).After-take_in_composite
    in
    rw (x.is, outs-Composite x.field-0 x.collector x.field-2)
    (node-keeps-composite c.args.ctx.now (pairs_in c.args.call) (parents_in c.args.call)
    (is_flush c.args.call) x.field-0 c.index-as_slice-index.result here
    c.requires.meant x.collector _ x.collector-is c.take_in_composite.new.collector
    c.args.steps.now c.take_in_composite.new.steps
    (λ segment after fits.
    (c.in_ok-take_in_composite-in-Composite.ensures segment after fits).ok)
    (sym c.is_flush.ensures ∙ c.if-not-is_flush.true) x.field-2)

pub returns-in_ok-take-in-Composite-clause-ok : goal.returns-in_ok-take-in-Composite-clause-ok
returns-in_ok-take-in-Composite-clause-ok g c =
    let x = c.in-Composite in
    let ctx = c.args.ctx.now in
    let done = c.in_ok-take-in-Composite in
    let point = goal.at.returns-in_ok-take-in-Composite-clause-ok g c in
    let here = composite-at g point.After-take_in_composite in
    rw (x.is, outs-Composite x.field-0 x.collector x.field-2)
    (node-hands-composite ctx (pairs_in c.args.call) (parents_in c.args.call) (is_flush c.args.call)
    x.field-0 c.index-as_slice-index.result here
    c.requires.meant x.collector _ x.collector-is c.take_in_composite.new.collector
    c.args.steps.now c.take_in_composite.new.steps
    (λ segment after fits.
    (c.in_ok-take_in_composite-in-Composite.ensures segment after fits).ok)
    done.field-0 done.ensures.filled c.take.new.self done.ensures.ok c.take.ensures.rest x.field-2
    (subst (λ (n : Tree). Fits ctx (held_of n)) x.is c.requires.fits))

pub returns-in_err-take_in_composite-in-Composite-clause-most :
    goal.returns-in_err-take_in_composite-in-Composite-clause-most
returns-in_err-take_in_composite-in-Composite-clause-most g c =
    let point = goal.at.returns-in_err-take_in_composite-in-Composite-clause-most g c in
    (composite-bounds g point.After-take_in_composite).0

pub returns-in_err-take_in_composite-in-Composite-clause-later :
    goal.returns-in_err-take_in_composite-in-Composite-clause-later
returns-in_err-take_in_composite-in-Composite-clause-later g c =
    let point = goal.at.returns-in_err-take_in_composite-in-Composite-clause-later g c in
    (composite-bounds g point.After-take_in_composite).1

pub returns-then-not-due-clause-most : goal.returns-then-not-due-clause-most
returns-then-not-due-clause-most g c =
    (composite-bounds g (goal.at.returns-then-not-due-clause-most g c).After-take_in_composite).0

pub returns-then-not-due-clause-later : goal.returns-then-not-due-clause-later
returns-then-not-due-clause-later g c =
    (composite-bounds g (goal.at.returns-then-not-due-clause-later g c).After-take_in_composite).1

pub returns-in_err-take-in-Composite-clause-most : goal.returns-in_err-take-in-Composite-clause-most
returns-in_err-take-in-Composite-clause-most g c =
    let call = (goal.at.returns-in_err-take-in-Composite-clause-most g c).After-take_in_composite in
    (composite-bounds g call).0

pub returns-in_err-take-in-Composite-clause-later :
    goal.returns-in_err-take-in-Composite-clause-later
returns-in_err-take-in-Composite-clause-later g c =
    let point = goal.at.returns-in_err-take-in-Composite-clause-later g c in
    (composite-bounds g point.After-take_in_composite).1

pub returns-in_ok-take-in-Composite-clause-most : goal.returns-in_ok-take-in-Composite-clause-most
returns-in_ok-take-in-Composite-clause-most g c =
    let call = (goal.at.returns-in_ok-take-in-Composite-clause-most g c).After-take_in_composite in
    (composite-bounds g call).0

pub returns-in_ok-take-in-Composite-clause-later : goal.returns-in_ok-take-in-Composite-clause-later
returns-in_ok-take-in-Composite-clause-later g c =
    let call = (goal.at.returns-in_ok-take-in-Composite-clause-later g c).After-take_in_composite in
    (composite-bounds g call).1

-- ---- filters

pub bounds-as_slice-index-in-Filter : goal.bounds-as_slice-index-in-Filter
bounds-as_slice-index-in-Filter g c =
    let x = c.in-Filter in
    let d = filter-data c.args.ctx.now c.args.node.now c.index_of-index.result x.field-0
    c.index_of-index.ensures c.requires.fits x.collector x.field-2 x.is in
    let within = slice_get_within c.args.ctx.now.filter_req_data c.index_of-index.result d.0 d.1 in
    omega (arith, within, ap length c.as_slice-in-Filter.ensures)

pub offset_bounds-as_slice-index-in-Filter : goal.offset_bounds-as_slice-index-in-Filter
offset_bounds-as_slice-index-in-Filter g c =
    let within = bounds-as_slice-index-in-Filter g c in
    omega (arith, within, c.as_slice-in-Filter.type_inv)

-- what was read is the data of the filter
filter-at : (g : given.Over) (c : After-take_in_filter g)
    → slice_get c.args.ctx.now.filter_req_data c.in-Filter.field-0
    ≡ Some c.index-as_slice-index-in-Filter.result
filter-at g c =
    let x = c.in-Filter in
    filter-read c.args.ctx.now c.args.node.now c.index_of-index.result x.field-0
    c.index_of-index.ensures c.requires.fits x.collector x.field-2 x.is
    c.as_slice-in-Filter.result.now c.as_slice-in-Filter.ensures
    c.index-as_slice-index-in-Filter.result c.index-as_slice-index-in-Filter.is

pub returns-in_err-take_in_filter-in-Filter-clause-refused :
    goal.returns-in_err-take_in_filter-in-Filter-clause-refused
returns-in_err-take_in_filter-in-Filter-clause-refused g c =
    let x = c.in-Filter in
    let error = c.in_err-take_in_filter-in-Filter.field-0.0 in
    let back = c.from_residual-in_err-take_in_filter-in-Filter in
    let point = goal.at.returns-in_err-take_in_filter-in-Filter-clause-refused g c in
    let here = filter-at g point.After-take_in_filter in
    error-passed (λ r. IfErr r (IsRefused c.args.ctx.now (pairs_in c.args.call)
    (parents_in c.args.call) (held_of c.args.node.now))) back.result error back.ensures.1
    (node-refused-filter c.args.ctx.now (pairs_in c.args.call) (parents_in c.args.call)
    c.args.node.now x.field-0 c.index-as_slice-index-in-Filter.result here c.requires.meant
    x.collector x.field-2 x.is _ x.collector-is c.take_in_filter.new.collector error
    (λ tree segment marks. c.in_err-take_in_filter-in-Filter.ensures tree segment marks))

pub returns-then-not-due-2-clause-ok : goal.returns-then-not-due-2-clause-ok
returns-then-not-due-2-clause-ok g c =
    let x = c.in-Filter in
    let here = filter-at g (goal.at.returns-then-not-due-2-clause-ok g c).After-take_in_filter in
    rw (x.is, outs-Filter x.field-0 x.collector x.field-2)
    (node-keeps-filter c.args.ctx.now (pairs_in c.args.call) (parents_in c.args.call)
    (is_flush c.args.call) x.field-0 c.index-as_slice-index-in-Filter.result here
    c.requires.meant x.collector _ x.collector-is c.take_in_filter.new.collector
    c.args.steps.now
    (λ tree segment marks. (c.in_ok-take_in_filter-in-Filter.ensures tree segment marks).ok)
    (sym c.is_flush-in-Filter.ensures ∙ c.if-not-is_flush-2.true) x.field-2)

pub returns-in_ok-take-in-Filter-clause-ok : goal.returns-in_ok-take-in-Filter-clause-ok
returns-in_ok-take-in-Filter-clause-ok g c =
    let x = c.in-Filter in
    let ctx = c.args.ctx.now in
    let done = c.in_ok-take-in-Filter in
    let point = goal.at.returns-in_ok-take-in-Filter-clause-ok g c in
    let here = filter-at g point.After-take_in_filter in
    rw (x.is, outs-Filter x.field-0 x.collector x.field-2)
    (node-hands-filter ctx (pairs_in c.args.call) (parents_in c.args.call) (is_flush c.args.call)
    x.field-0 c.index-as_slice-index-in-Filter.result here
    c.requires.meant x.collector _ x.collector-is c.take_in_filter.new.collector
    c.args.steps.now
    (λ tree segment marks. (c.in_ok-take_in_filter-in-Filter.ensures tree segment marks).ok)
    done.field-0 done.ensures.filled c.take-in-Filter.new.self done.ensures.ok
    c.take-in-Filter.ensures.rest x.field-2
    (subst (λ (n : Tree). Fits ctx (held_of n)) x.is c.requires.fits))

pub returns-in_err-take_in_filter-in-Filter-clause-most :
    goal.returns-in_err-take_in_filter-in-Filter-clause-most
returns-in_err-take_in_filter-in-Filter-clause-most g c =
    no-steps c.args.ctx.now (pairs_in c.args.call) (held_of c.args.node.now) c.requires.fits
    c.args.steps.now

pub returns-then-not-due-2-clause-most : goal.returns-then-not-due-2-clause-most
returns-then-not-due-2-clause-most g c =
    no-steps c.args.ctx.now (pairs_in c.args.call) (held_of c.args.node.now) c.requires.fits
    c.args.steps.now

pub returns-in_err-take-in-Filter-clause-most : goal.returns-in_err-take-in-Filter-clause-most
returns-in_err-take-in-Filter-clause-most g c =
    no-steps c.args.ctx.now (pairs_in c.args.call) (held_of c.args.node.now) c.requires.fits
    c.args.steps.now

pub returns-in_ok-take-in-Filter-clause-most : goal.returns-in_ok-take-in-Filter-clause-most
returns-in_ok-take-in-Filter-clause-most g c =
    no-steps c.args.ctx.now (pairs_in c.args.call) (held_of c.args.node.now) c.requires.fits
    c.args.steps.now

-- ---- metrics, and several

pub returns-in_ok-take_in_metric-in-Metric-clause-ok :
    goal.returns-in_ok-take_in_metric-in-Metric-clause-ok
returns-in_ok-take_in_metric-in-Metric-clause-ok g c =
    let x = c.in-Metric in
    rw (x.is, outs-Metric x.field-0 x.collector)
    (rw (held-metric x.field-0 x.collector, held-metric x.field-0 c.take_in_metric.new.collector)
    (metric-takes c.args.ctx.now (pairs_in c.args.call) (is_flush c.args.call) x.field-0 x.collector
    c.take_in_metric.new.collector c.args.steps.now
    (subst (λ o. MetricTakes (pairs_in c.args.call) o c.take_in_metric.new.collector)
    x.collector-is c.in_ok-take_in_metric-in-Metric.ensures.ok)))

pub returns-in_err-take_in_metric-in-Metric-clause-refused :
    goal.returns-in_err-take_in_metric-in-Metric-clause-refused
returns-in_err-take_in_metric-in-Metric-clause-refused g c =
    let x = c.in-Metric in
    let call = c.in_err-take_in_metric-in-Metric in
    let back = c.from_residual-in_err-take_in_metric-in-Metric in
    error-passed (λ r. IfErr r (IsRefused c.args.ctx.now (pairs_in c.args.call)
    (parents_in c.args.call) (held_of c.args.node.now))) back.result call.field-0.0
    back.ensures.1
    (node-refused-metric c.args.ctx.now (pairs_in c.args.call) (parents_in c.args.call)
    c.args.node.now c.requires.fits x.field-0 x.collector x.is _ x.collector-is
    c.take_in_metric.new.collector
    call.field-0.0 call.ensures)

pub returns-in-Group-clause-most : goal.returns-in-Group-clause-most
returns-in-Group-clause-most g c =
    no-steps c.args.ctx.now (pairs_in c.args.call) (held_of c.args.node.now) c.requires.fits
    c.args.steps.now
