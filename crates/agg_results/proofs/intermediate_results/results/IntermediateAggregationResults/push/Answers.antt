use Rattle.std.proofs.Common.{[], ap, ◌∙◌}
use Rattle.agg_values.specs.Names.{put}
use Rattle.agg_results.specs.declared.metric_results.error.MergeError.TheVariants.{Mismatch}
use Rattle.agg_results.specs.declared.metric_results.error.MergeError.TheVariants.{TooMany}
use Rattle.agg_results.proofs.lemmas.metric_results.Exits.{error-kept}
use Rattle.agg_results.specs.intermediate_results.Merging.{CountsPass, ShapesDiffer}
use Rattle.agg_results.proofs.lemmas.intermediate_results.ToldNames.{first_told, nothing_told}
use Rattle.agg_results.proofs.lemmas.intermediate_results.ToldNames.{passes_alone, past_first}
use Rattle.agg_results.proofs.lemmas.intermediate_results.ToldNames.{pushed-absent, pushed-merged}
use Rattle.agg_results.proofs.intermediate_results as proofs
use proofs.results.IntermediateAggregationResults.push.Goals as goal

pub returns-in_err-value-clause-mismatch : goal.returns-in_err-value-clause-mismatch
returns-in_err-value-clause-mismatch c = λ is.
    let was = error-kept c.from_residual.result c.in_err-value.field-0.0 Mismatch
    c.from_residual.ensures.1 is in
    first_told ShapesDiffer c.args.self.now.results c.args.key c.args.value [] c.remove.result
    c.remove.ensures.value (c.in_err-value.ensures.mismatch was)

pub returns-in_err-value-clause-too_many : goal.returns-in_err-value-clause-too_many
returns-in_err-value-clause-too_many c = λ is.
    let was = error-kept c.from_residual.result c.in_err-value.field-0.0 TooMany
    c.from_residual.ensures.1 is in
    passes_alone c.args.self.now.results c.args.key c.args.value c.remove.result
    c.remove.ensures.value (c.in_err-value.ensures.too_many was)

pub returns-clause-ok : goal.returns-clause-ok
returns-clause-ok c =
    pushed-merged c.args.self.now.results c.insert.new.self c.args.key c.args.value
    c.in_ok-value.value c.remove.result c.remove.ensures.value
    (c.in_ok-insert.ensures.ok
    ∙ ap (put c.args.key c.in_ok-value.value) c.remove.ensures.rest) c.in_ok-value.ensures.ok

pub returns-clause-absent : goal.returns-clause-absent
returns-clause-absent c =
    pushed-absent c.args.self.now.results c.insert.new.self c.args.key c.args.value
    c.in_ok-value.value c.remove.result c.remove.ensures.value
    (c.in_ok-insert.ensures.ok
    ∙ ap (put c.args.key c.in_ok-value.value) c.remove.ensures.rest) c.in_ok-value.ensures.ok

pub returns-clause-shapes : goal.returns-clause-shapes
returns-clause-shapes c =
    let held = c.args.self.now.results in
    λ some. nothing_told ShapesDiffer held
    (past_first ShapesDiffer held c.args.key c.args.value [] c.remove.result
    c.remove.ensures.value c.in_ok-value.ensures.shapes some)

pub returns-clause-counts : goal.returns-clause-counts
returns-clause-counts c =
    let held = c.args.self.now.results in
    λ some. nothing_told CountsPass held
    (past_first CountsPass held c.args.key c.args.value [] c.remove.result
    c.remove.ensures.value c.in_ok-value.ensures.counts some)
