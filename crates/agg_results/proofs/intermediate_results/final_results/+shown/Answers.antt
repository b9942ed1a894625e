use Rattle.std.proofs.Common.{◌≡◌, subst, arith, ◌∙◌, IfOk}
use Rattle.agg_request_tree.proofs.RequestTrees.{height-out}
use Rattle.agg_results.specs.declared.final_results.types.AggregationResult.{AggregationResult}
use Rattle.agg_results.proofs.lemmas.intermediate_results.FinalByName.{AreNamedBefore-more}
use Rattle.agg_results.proofs.lemmas.intermediate_results.FinalByName.{AreNamedBefore-none}
use Rattle.agg_results.proofs.lemmas.intermediate_results.FinalByName.{AreShownAfter-height}
use Rattle.agg_results.proofs.lemmas.intermediate_results.FinalByName.{AreShownAfter-more}
use Rattle.agg_results.proofs.lemmas.intermediate_results.FinalByName.{AreShownAfter-none, popped}
use Rattle.agg_results.proofs.lemmas.intermediate_results.FinalLayers.{held-composite, held-filter}
use Rattle.agg_results.proofs.lemmas.intermediate_results.FinalLayers.{nothing-filter}
use Rattle.agg_results.proofs.intermediate_results.final_results.+shown.Goals as goal

pub by_name::shown_by_name-loop-name-init : goal.by_name::shown_by_name-loop-name-init
by_name::shown_by_name-loop-name-init g t c =
    AreNamedBefore-none c.args.req.now c.into_iter-name-iterator.result c.args.held.results
    c.in_ok-last_first.last_first.items c.new-results.result
    (c.into_iter-name-iterator.ensures.into_iter_gives ∙ c.iter-name-items.ensures.entries)
    c.in_ok-last_first.ensures c.new-results.ensures

pub by_name::shown_by_name-loop-name-preserved-in-Continue-branch-2 :
    goal.by_name::shown_by_name-loop-name-preserved-in-Continue-branch-2
by_name::shown_by_name-loop-name-preserved-in-Continue-branch-2 g t c =
    AreNamedBefore-more c.args.req.now c.args.held.results c.loop-name.name-iterator
    c.next.new.self c.loop-name.last_first.items c.pop.new.self.items c.loop-name.results
    c.put.new.results c.in-Some.name.now c.in-Some.field-0-1.now c.in-Some-pop.shown
    c.iter-name-items.ensures.ascending c.loop-name.invariant c.in-Some.ensures.steps
    c.in-Some-pop.ensures.items c.in_ok-put.ensures

pub by_name::shown_last_first-loop-name-init : goal.by_name::shown_last_first-loop-name-init
by_name::shown_last_first-loop-name-init g t c =
    AreShownAfter-none c.args.req.now _ c.args.held.results c.in_ok-last_first.last_first.items
    c.in_ok-wanted.ensures.entries c.in_ok-last_first.ensures.items c.in_ok-wanted.ensures.ascending

pub by_name::shown_last_first-shown_result-requires :
    goal.by_name::shown_last_first-shown_result-requires
by_name::shown_last_first-shown_result-requires g t c κs within =
    let lower = AreShownAfter-height c.args.req.now c.args.held.results c.loop-name.held.results _ _
    c.loop-name.last_first.items c.in-Some.name.now c.in-Some.aggregation.now
    c.loop-name.invariant
    (popped _ c.loop-name.wanted.items c.pop.new.self.items (c.in-Some.name, c.in-Some.aggregation)
    c.in-Some.ensures.items) in
    (omega (arith, c.decreases, lower, height-out c.in-Some.aggregation.now), within)

pub by_name::shown_last_first-loop-name-preserved :
    goal.by_name::shown_last_first-loop-name-preserved
by_name::shown_last_first-loop-name-preserved g t c =
    AreShownAfter-more c.args.req.now c.args.held.results c.loop-name.held.results
    c.remove.new.self _ _ c.loop-name.last_first.items c.push.new.self.items
    c.in-Some.name.now c.in-Some.aggregation.now c.remove.result c.in_ok-shown_result.field-0
    c.loop-name.invariant
    (popped _ c.loop-name.wanted.items c.pop.new.self.items (c.in-Some.name, c.in-Some.aggregation)
    c.in-Some.ensures.items)
    c.remove.ensures.value c.remove.ensures.rest c.in_ok-shown_result.ensures
    c.in_ok-push.ensures.items

pub shown::shown_bucket-returns-in-Filter-agg : goal.shown::shown_bucket-returns-in-Filter-agg
shown::shown_bucket-returns-in-Filter-agg g t c =
    subst (λ (x : AggregationResult). IfOk c.shown_filter.result (λ s. s ≡ x))
    (held-filter c.args.asked.now c.in-Filter-agg.field-0 c.args.held c.in-Filter.doc_count
    c.in-Filter.sub_aggregations c.in-Filter-agg.is c.in-Filter.is)
    c.shown_filter.ensures

pub shown::shown_bucket-returns-in-Composite-agg :
    goal.shown::shown_bucket-returns-in-Composite-agg
shown::shown_bucket-returns-in-Composite-agg g t c =
    subst (λ (x : AggregationResult). IfOk c.shown_page.result (λ s. s ≡ x))
    (held-composite c.args.asked.now c.in-Composite-agg.composite c.args.held
    c.in-Composite.buckets c.as_slice-sources.result.now c.in-Composite-agg.is c.in-Composite.is
    c.as_slice-sources.ensures)
    c.shown_page.ensures

pub shown::shown_nothing-returns-in-Filter : goal.shown::shown_nothing-returns-in-Filter
shown::shown_nothing-returns-in-Filter g t c =
    subst (λ (x : AggregationResult). IfOk c.shown_filter.result (λ s. s ≡ x))
    (nothing-filter c.args.asked.now c.in-Filter.field-0 c.new-none.result.results c.in-Filter.is
    c.new-none.ensures)
    c.shown_filter.ensures
