use Rattle.std.proofs.Common.{◌∙◌, ◌≤◌, ◌^◌, ap, subst, sym}
use Rattle.agg_composite.specs.declared.buckets.visit_error.VisitError.TheVariants.{TooMany}
use Rattle.agg_composite.proofs.lemmas.buckets.Errors.{error-kept}
use Rattle.agg_composite.proofs.lemmas.tuple_counts.CountSums.{total-counted, total_of}
use Rattle.agg_composite.proofs.tuple_counts.tuple_counts.TupleCounts.into_ascending.Goals as goal

pub returns-in_err-lowest-clause-too_many : goal.returns-in_err-lowest-clause-too_many
returns-in_err-lowest-clause-too_many g c = λ e.
    subst (λ n. 2 ^ 64 ≤ n)
    (sym (total-counted g.S.Ord.cmp c.self.inside.counts.items) ∙ ap total_of c.self.view_is)
    (c.in_err-lowest.ensures.too_many
    (error-kept c.from_residual.result c.in_err-lowest.field-0.0 TooMany
    c.from_residual.ensures.1 e))
