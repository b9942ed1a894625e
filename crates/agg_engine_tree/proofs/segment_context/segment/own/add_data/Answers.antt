use Rattle.std.proofs.Common.{refl, subst, sym}
use Rattle.agg_metric.specs.declared.request_data.StatsType.TheVariants as stats
use Rattle.agg_engine_tree.proofs.lemmas.segment_context.Own.{IsStats, own-composite, own-filter}
use Rattle.agg_engine_tree.proofs.lemmas.segment_context.Own.{own-metric, sound-own}
use Rattle.agg_engine_tree.proofs.segment_context.segment.own.add_data.Goals as goal

pub add_composite-requires : goal.add_composite-requires
add_composite-requires g c =
    sound-own c.args.from.now c.args.name.now c.args.agg.now c.args.ctx.now c.args.ctx.now
    c.in-Composite.composite c.in-Composite.is c.requires.sound

pub returns-in_ok-add_filter-in-Filter-clause-ok :
    goal.returns-in_ok-add_filter-in-Filter-clause-ok
returns-in_ok-add_filter-in-Filter-clause-ok g c =
    own-filter c.args.from.now c.args.name.now c.args.agg.now c.args.ctx.now c.add_filter.new.ctx
    c.in-Filter.field-0 c.in_ok-add_filter-in-Filter.field-0 c.in-Filter.is
    c.in_ok-add_filter-in-Filter.ensures.ok

pub returns-in_ok-add_composite-in-Composite-clause-ok :
    goal.returns-in_ok-add_composite-in-Composite-clause-ok
returns-in_ok-add_composite-in-Composite-clause-ok g c =
    own-composite c.args.from.now c.args.name.now c.args.agg.now c.args.ctx.now
    c.add_composite.new.ctx c.in-Composite.composite c.in_ok-add_composite-in-Composite.field-0
    c.in-Composite.is c.in_ok-add_composite-in-Composite.ensures.ok c.requires.sound

pub returns-in-Count-clause-ok : goal.returns-in-Count-clause-ok
returns-in-Count-clause-ok g c =
    own-metric c.args.from.now c.args.name.now c.args.agg.now c.args.ctx.now
    c.add_stats.new.ctx stats.Count c.in-Count.a.field c.add_stats.result
    (subst (λ x. IsStats x stats.Count c.in-Count.a.field) (sym c.in-Count.is) refl)
    c.add_stats.ensures.kind c.add_stats.ensures.ok

pub returns-in-Max-clause-ok : goal.returns-in-Max-clause-ok
returns-in-Max-clause-ok g c =
    own-metric c.args.from.now c.args.name.now c.args.agg.now c.args.ctx.now
    c.add_stats-in-Max.new.ctx stats.Max c.in-Max.a.field c.add_stats-in-Max.result
    (subst (λ x. IsStats x stats.Max c.in-Max.a.field) (sym c.in-Max.is) refl)
    c.add_stats-in-Max.ensures.kind c.add_stats-in-Max.ensures.ok

pub returns-in-Min-clause-ok : goal.returns-in-Min-clause-ok
returns-in-Min-clause-ok g c =
    own-metric c.args.from.now c.args.name.now c.args.agg.now c.args.ctx.now
    c.add_stats-in-Min.new.ctx stats.Min c.in-Min.a.field c.add_stats-in-Min.result
    (subst (λ x. IsStats x stats.Min c.in-Min.a.field) (sym c.in-Min.is) refl)
    c.add_stats-in-Min.ensures.kind c.add_stats-in-Min.ensures.ok

pub returns-in-Sum-clause-ok : goal.returns-in-Sum-clause-ok
returns-in-Sum-clause-ok g c =
    own-metric c.args.from.now c.args.name.now c.args.agg.now c.args.ctx.now
    c.add_stats-in-Sum.new.ctx stats.Sum c.in-Sum.a.field c.add_stats-in-Sum.result
    (subst (λ x. IsStats x stats.Sum c.in-Sum.a.field) (sym c.in-Sum.is) refl)
    c.add_stats-in-Sum.ensures.kind c.add_stats-in-Sum.ensures.ok
