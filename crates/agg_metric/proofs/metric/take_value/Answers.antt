use Rattle.std.proofs.Common.{◌∙◌, rules, FitsSigned}
use Rattle.std.proofs.lemmas.Int.{to_z-of_z}
use mir.Syntax.{w128}
use Rattle.agg_results.proofs.lemmas.metric_results.Exits.{on_err}
use Rattle.agg_metric.proofs.TakenValues.{many-count, many-sum, takes-max, takes-min, takes-sum}
use Rattle.agg_metric.proofs.metric.take_value.Goals as goal

pub returns-in_err-metric-in-Count-clause-err : goal.returns-in_err-metric-in-Count-clause-err
returns-in_err-metric-in-Count-clause-err c key told =
    on_err c.from_residual.result
    (many-count c.args.metric.now c.in-Count.metric key c.in-Count.is
    c.in_err-metric-in-Count.ensures.err)

pub returns-in-Max-clause-ok : goal.returns-in-Max-clause-ok
returns-in-Max-clause-ok c key told =
    takes-max c.args.metric.now key c.args.number told c.in-Max.metric c.in-Max.is _ (search rules)

pub returns-in-Min-clause-ok : goal.returns-in-Min-clause-ok
returns-in-Min-clause-ok c key told =
    takes-min c.args.metric.now key c.args.number told c.in-Min.metric c.in-Min.is _ (search rules)

pub returns-in_ok-metric-in-Sum-clause-ok : goal.returns-in_ok-metric-in-Sum-clause-ok
returns-in_ok-metric-in-Sum-clause-ok c key told =
    let fits : FitsSigned w128 c.in-Sum.metric.sum = search rules in
    let added = simp to_z-of_z at c.in_ok-metric-in-Sum.ensures.ok in
    let both_fit : FitsSigned w128 c.in_ok-metric-in-Sum.field-0 = search rules in
    takes-sum c.args.metric.now key c.args.number told c.in-Sum.metric c.in-Sum.is _
    (to_z-of_z w128 c.in_ok-metric-in-Sum.field-0 both_fit ∙ added)

pub returns-in_err-metric-in-Sum-clause-err : goal.returns-in_err-metric-in-Sum-clause-err
returns-in_err-metric-in-Sum-clause-err c key told =
    let fits : FitsSigned w128 c.in-Sum.metric.sum = search rules in
    let passes = simp to_z-of_z at c.in_err-metric-in-Sum.ensures.err in
    on_err c.from_residual-in_err-metric-in-Sum.result
    (many-sum c.args.metric.now key c.args.number told c.in-Sum.metric c.in-Sum.is passes)
