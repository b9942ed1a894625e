use Rattle.std.proofs.Common.{◌∙◌, ◌≤◌, ◌^◌, ap, subst, sym}
use Rattle.agg_composite.specs.declared.buckets.visit_error.VisitError.TheVariants.{TooMany}
use Rattle.agg_composite.proofs.lemmas.buckets.Errors.{error-kept}
use Rattle.agg_composite.specs.tuple_counts.Counted.{counted}
use Rattle.agg_composite.proofs.lemmas.tuple_counts.CountSums.{total-counted, total_of}
use Rattle.agg_composite.proofs.tuple_counts.tuple_counts.TupleCounts.group.Goals as goal

pub returns-clause-ok : goal.returns-clause-ok
returns-clause-ok g c =
    c.in_ok-self-inside.ensures.again ∙ c.in_ok-self-inside.ensures.ok
    ∙ ap (λ v. counted g.S.Ord.cmp v.items) c.replace-counts.ensures.value ∙ c.self.view_is

pub returns-in_err-self-inside-clause-too_many : goal.returns-in_err-self-inside-clause-too_many
returns-in_err-self-inside-clause-too_many g c = λ e.
    subst (λ n. 2 ^ 64 ≤ n)
    (ap (λ v. total_of v.items) c.replace-counts.ensures.value
    ∙ sym (total-counted g.S.Ord.cmp c.self.inside.counts.items) ∙ ap total_of c.self.view_is)
    (c.in_err-self-inside.ensures.too_many
    (error-kept c.from_residual.result c.in_err-self-inside.field-0.0 TooMany
    c.from_residual.ensures.1 e))
