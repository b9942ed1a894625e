use Rattle.std.proofs.Common.{sym, ap, ◌∙◌, subst}
use Rattle.std.specs.Bool.{MatchBool}
use Rattle.agg_results.specs.intermediate_results.Intermediate.{parts_of}
use Rattle.agg_results.specs.intermediate_results.Refusals.{IsOther}
use Rattle.agg_results.proofs.lemmas.intermediate_results.ResultParts.{parts-composite}
use Rattle.agg_results.proofs.intermediate_results.final_results.other_shapes.is_other.Goals as goal

pub returns-in-Composite : goal.returns-in-Composite
returns-in-Composite g c =
    subst (λ parts. MatchBool c.is_other_composite.result (IsOther c.args.asked.now parts)
    (¬ (IsOther c.args.asked.now parts)))
    (sym (ap parts_of c.in-Bucket.is
    ∙ parts-composite c.in-Bucket.bucket c.in-Composite.buckets c.in-Composite.is))
    c.is_other_composite.ensures
