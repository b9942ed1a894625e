use Rattle.std.proofs.Common.{◌≡◌, Bor, Option, Some, Err, sym, ap, ◌∙◌}
use Rattle.std.specs.Prelude.{option_map}
use Rattle.agg_values.specs.Names.{put, without}
use Rattle.agg_results.specs.intermediate_results.Empty.{empty_results}
use Rattle.agg_results.specs.declared.metric_results.error.MergeError.TheVariants.{OutOfMemory}
use Rattle.agg_results.specs.declared.intermediate_results.results.IntermediateAggregationResults
    as held
use held.{IntermediateAggregationResults}
use Rattle.agg_engine_tree.specs.segment_context.Pages.{paged}
use Rattle.agg_engine_tree.specs.declared.segment_context.params.Page.{Page}
use Rattle.agg_engine.proofs.lemmas.collectors.Halves.{err-kept}
use Rattle.agg_engine.proofs.lemmas.collectors.NamedEmpties.{only-memory, taken-out}
use Rattle.agg_engine.proofs.lemmas.collectors.PagedEmpties.{paged-composite, paged-none}
use Rattle.agg_engine.proofs.lemmas.collectors.PagedEmpties.{paged-other}
use Rattle.agg_engine.proofs.collectors.empty.empty_paged.Goals as goal
use goal.{in-Composite+in_ok-value+in_ok-try_clone+in_ok-push, in_default-agg}

-- the page that is set
page-here : (page : Option (Bor Page)) (set : Bor Page) → page ≡ Some set
    → option_map (λ (p : Bor Page). p.now) page ≡ Some set.now
page-here page set is = ap (option_map (λ (p : Bor Page). p.now)) is

pub returns-in_default-get-clause-ok : goal.returns-in_default-get-clause-ok
returns-in_default-get-clause-ok g c =
    c.in_ok-empty.ensures.empty
    ∙ paged-none c.in-Some.page.now c.args.request.now (sym c.in_default-get.ensures.value)
    ∙ sym (ap (λ (o : Option Page). empty_results (paged o c.args.request.now))
    (page-here c.args.page c.in-Some.page c.in-Some.is))

pub returns-in_err-push-clause-err : goal.returns-in_err-push-clause-err
returns-in_err-push-clause-err g c =
    err-kept (λ error. error ≡ OutOfMemory) c.from_residual-in_err-push.result
    c.in_err-push.field-0.0 c.from_residual-in_err-push.ensures.1
    (only-memory c.in_err-push.field-0.0 c.remove.new.self.results c.in_ok-try_clone.field-0
    c.in_ok-value.value
    (taken-out c.args.request.now c.in-Some.page.now.name c.in_ok-try_clone.field-0
    c.in_ok-empty.empty.results c.remove.new.self.results c.in_ok-empty.ensures.ascending
    c.in_ok-empty.ensures.empty c.remove.ensures.rest c.in_ok-try_clone.ensures)
    (λ was. c.in_err-push.ensures.mismatch (ap Err was))
    (λ was. (c.in_err-push.ensures.too_many (ap Err was)).1))

pub returns-clause-ok : goal.returns-clause-ok
returns-clause-ok g c =
    let request = c.args.request.now in
    let page = c.in-Some.page.now in
    let a = c.in-Some-get.aggregation.now in
    let up = c.in_ok-empty.ensures.ascending in
    let found = sym c.in-Some-get.ensures.value in
    let set = sym (ap (λ (o : Option Page). empty_results (paged o request))
    (page-here c.args.page c.in-Some.page c.in-Some.is)) in
    elim c.match-aggregation.branch [
      | in-Composite+in_ok-value+in_ok-try_clone+in_ok-push w ↦
          let left : w.remove.new.self.results ≡ without page.name (empty_results request)
          = w.remove.ensures.rest ∙ ap (without page.name) c.in_ok-empty.ensures.empty in
          let none = taken-out request page.name w.in_ok-try_clone.field-0
          c.in_ok-empty.empty.results w.remove.new.self.results up c.in_ok-empty.ensures.empty
          w.remove.ensures.rest w.in_ok-try_clone.ensures in
          ap (λ (r : IntermediateAggregationResults). r.results) w.empty-is
          ∙ w.in_ok-push.ensures.absent none
          ∙ (λ i. put (w.in_ok-try_clone.ensures i) (w.in_ok-value.ensures i) (left i))
          ∙ paged-composite page request a up found w.in-Composite.composite w.in-Composite.is
          ∙ set
      | in_default-agg w ↦
          ap (λ (r : IntermediateAggregationResults). r.results) w.empty-is
          ∙ c.in_ok-empty.ensures.empty
          ∙ paged-other page request a up found w.in_default-agg.not-Composite
          ∙ set
    ]
