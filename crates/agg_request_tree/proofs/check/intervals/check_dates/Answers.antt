use Rattle.std.proofs.Common.{Err, List, Option, ap, subst, ℕ}
use Rattle.agg_calendar.specs.Interval.{division}
use Rattle.agg_calendar.specs.Refusal.{HasText, IsAnswer}
use Rattle.agg_request_tree.specs.Faults.{IsIntervalCause}
use Rattle.agg_request_tree.specs.declared.source as declared
use declared.CompositeAggregationSource.TheVariants.{DateHistogram}
use Rattle.agg_request_tree.proofs.Checks.{dates-cause, passed_on}
use Rattle.agg_request_tree.proofs.check.intervals.check_dates.Goals as goal

pub returns-in_err-date_division-clause-err : goal.returns-in_err-date_division-clause-err
returns-in_err-date_division-clause-err c =
    let source = c.args.source.now in
    let unit = source.calendar_interval in
    let refusal = c.in_err-date_division.field-0.0 in
    let told = c.in_err-date_division.ensures in
    passed_on (IsIntervalCause (DateHistogram source)) refusal c.from_residual.result
    c.from_residual.ensures.1
    (dates-cause source refusal
    (subst (λ (p : Option (List ℕ) × Option (List ℕ)). IsAnswer (division p.0 unit p.1)
    (Err refusal)) (λ i. (c.as_ref.ensures.value i, c.as_ref-2.ensures.value i)) told.value)
    (λ is. subst (λ (p : Option (List ℕ) × Option (List ℕ)). HasText (division p.0 unit p.1))
    (λ i. (c.as_ref.ensures.value i, c.as_ref-2.ensures.value i))
    (told.memory (ap Err is))))
