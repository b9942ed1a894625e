use Rattle.std.proofs.Common.{◌≡◌, ◌∙◌, Option, IfOk, length, sym, subst, arith}
use Rattle.std.proofs.lemmas.Bool.Decides.{nat_tests}
use Rattle.std.proofs.lemmas.List.{nil_from_length}
use Rattle.std.proofs.lemmas.Result.{IfOk-weaker}
use Rattle.agg_request_tree.specs.Request.{with_builders}
use Rattle.agg_results.specs.intermediate_results.Empty.{empty_results}
use Rattle.agg_engine_tree.specs.segment_context.Pages.{paged}
use Rattle.agg_engine_tree.specs.declared.segment_context.params.Page.{Page}
use Rattle.agg_engine.proofs.lemmas.collectors.BuiltEmpties.{nothing-stands}
use Rattle.agg_engine.proofs.collectors.distributed.DistributedAggregationCollector as collector
use collector.merge_fruits.Goals as goal

pub returns-then-is_empty-clause-empty : goal.returns-then-is_empty-clause-empty
returns-then-is_empty-clause-empty g c none =
    subst (λ (page : Option Page). IfOk c.empty_paged.result
    (λ whole. whole.results ≡ empty_results (paged page c.args.self.now.agg.now))) c.page.ensures
    c.empty_paged.ensures.ok

pub returns-then-is_empty-clause-ok : goal.returns-then-is_empty-clause-ok
returns-then-is_empty-clause-ok g c =
    let page = c.args.self.now.context.page in
    let request = c.args.self.now.agg.now in
    let few : length c.as_slice.result.now ≡ 0 = grind (arith, nat_tests, c.if-is_empty.ensures) in
    let none = sym c.as_slice.ensures ∙ nil_from_length c.as_slice.result.now few in
    IfOk-weaker c.empty_paged.result _ _ (λ whole is made up lists all.
    nothing-stands made page request (up none) c.args.fruits lists whole none is all)
    (subst (λ (page : Option Page). IfOk c.empty_paged.result
    (λ whole. whole.results ≡ empty_results (paged page request))) c.page.ensures
    c.empty_paged.ensures.ok)

pub returns-clause-ok : goal.returns-clause-ok
returns-clause-ok g c =
    IfOk-weaker c.merged.result _ _ (λ whole stands made up.
    stands (paged c.args.self.now.context.page (with_builders made c.args.self.now.agg.now)))
    c.merged.ensures.ok
