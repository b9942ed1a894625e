use Rattle.std.proofs.Common.{length}
use Rattle.agg_composite.specs.Visits.{visits_past}
use Rattle.agg_composite.proofs.CollectorAnswers.{collected-all, collected-error, holds}
use Rattle.agg_composite.proofs.CollectorAnswers.{many-visits}
use Rattle.agg_composite.proofs.collector.SegmentCompositeCollector.collect_uncharged.Goals as goal

pub collect_in_range-requires-clause-in_range : goal.collect_in_range-requires-clause-in_range
collect_in_range-requires-clause-in_range g c =
    let fits = c.requires.fits in (
      fits.0,
      fits.1,
      fits.2,
      holds c.are_starts_in_range.result _ _ c.if-not-are_starts_in_range.false
          (c.are_starts_in_range.ensures fits.0 fits.1 fits.2),
    )

pub returns-in_err-collect_in_range-clause-visits :
    goal.returns-in_err-collect_in_range-clause-visits
returns-in_err-collect_in_range-clause-visits g c = λ segment after fit.
    let req = c.args.req.now in
    let typed = visits_past req.req.now.sources segment after c.args.parent_bucket_id
    c.args.docs.now in
    collected-error g.C.SubAggCache.waiting req typed c.args.self.now c.collect_in_range.new.self
    c.args.steps.now c.collect_in_range.new.steps c.in_err-collect_in_range.field-0.0
    c.from_residual.result (c.in_err-collect_in_range.ensures.visits segment after fit)
    c.from_residual.ensures.1

pub returns-in_err-collect_in_range-clause-many :
    goal.returns-in_err-collect_in_range-clause-many
returns-in_err-collect_in_range-clause-many g c = λ segment after fit visited given f e.
    let req = c.args.req.now in
    let typed = visits_past req.req.now.sources segment after c.args.parent_bucket_id
    c.args.docs.now in
    let answers = returns-in_err-collect_in_range-clause-visits g c segment after fit in
    many-visits g.C.SubAggCache.waiting req c.args.self.now visited given (length typed) f
    (answers.too_many e)

pub returns-clause-visits : goal.returns-clause-visits
returns-clause-visits g c = λ segment after fit.
    let req = c.args.req.now in
    let typed = visits_past req.req.now.sources segment after c.args.parent_bucket_id
    c.args.docs.now in
    collected-all g.C.SubAggCache.waiting req typed c.args.self.now c.collect_in_range.new.self
    c.args.steps.now c.collect_in_range.new.steps
    (c.in_ok-collect_in_range.ensures.visits segment after fit)
