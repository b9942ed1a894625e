-- Results by name.
use Rattle.std.proofs.Common.{refl, sym, ap, ◌∙◌, subst, arith}
use Rattle.agg_values.specs.Names.{put}
use Rattle.agg_results.proofs.lemmas.metric_results.Exits.{ended}
use Rattle.agg_results.proofs.lemmas.intermediate_results.Levels.{height-found}
use Rattle.agg_results.proofs.lemmas.intermediate_results.Names.{pushed_none, pushed_some}
use Rattle.agg_results.proofs.lemmas.intermediate_results.Names.{pushing-start}
use Rattle.agg_results.proofs.lemmas.intermediate_results.Names as names
use Rattle.agg_results.proofs.lemmas.intermediate_results.PutResults.{put-none, put-some}
use Rattle.agg_results.proofs.intermediate_results.+merging.Goals as goal
use goal.{results::IntermediateAggregationResults::put_over-in-Some+in_ok-value-in-Some}
use goal.{results::IntermediateAggregationResults::put_over-in-None}

pub init : goal.results::IntermediateAggregationResults::merge_all-loop-name-init
init t c =
    let named = c.in_ok-names in
    pushing-start c.args.self.now.results c.args.other.results c.args.passed.now named.names.items
    named.ensures.names named.ensures.ascending

pub put-requires : goal.results::IntermediateAggregationResults::merge_all-put_over-requires
put-requires t c =
    let found = height-found c.loop-name.others c.in-Some.name c.in-Some-remove.value
    (sym c.in-Some-remove.ensures.value) in
    let fewer = c.loop-name.invariant.depth in
    omega (arith, found, fewer, c.decreases)

pub put-preserved :
    goal.results::IntermediateAggregationResults::merge_all-loop-name-preserved-in-Continue-branch-2
put-preserved t c =
    let first = c.args.self.now.results in
    let others = c.args.other.results in
    let before = c.loop-name in
    let put = c.in_ok-put_over.ensures.ok in
    pushed_some first others c.args.passed.now before.self.results before.others
    c.put_over.new.self.results c.remove.new.self c.in-Some.name c.in-Some-remove.value put.0
    c.pop.new.self.items
    before.passed c.put_over.new.passed
    (subst (λ ns. names.Now first others c.args.passed.now before.self.results before.others ns
    before.passed) c.in-Some.ensures.items before.invariant)
    (sym c.in-Some-remove.ensures.value) c.in-Some-remove.ensures.rest put.1 put.2

pub none-preserved : goal.results::IntermediateAggregationResults::merge_all-loop-name-preserved
none-preserved t c =
    let first = c.args.self.now.results in
    let others = c.args.other.results in
    let before = c.loop-name in
    pushed_none first others c.args.passed.now before.self.results before.others c.remove.new.self
    c.in-Some.name
    c.pop.new.self.items before.passed
    (subst (λ ns. names.Now first others c.args.passed.now before.self.results before.others ns
    before.passed) c.in-Some.ensures.items before.invariant)
    (sym (sym c.in_default-remove.is ∙ c.remove.ensures.value)) c.remove.ensures.rest

pub all-merged : goal.results::IntermediateAggregationResults::merge_all-returns-clause-merged
all-merged t c =
    let first = c.args.self.now.results in
    let others = c.args.other.results in
    let before = c.loop-name in
    names.all_joined first others c.args.passed.now before.self.results before.others
    before.names.items before.passed before.invariant
    (ended before.names.items before.names.len before.names.ok.0 c.in_default.ensures.variant.1)

pub put-ok : goal.results::IntermediateAggregationResults::put_over-returns-clause-ok
put-ok t c =
    let held = c.args.self.now.results in (
      c.match-remove.value,
      c.in_ok-insert.ensures.ok
          ∙ ap (put c.args.name c.match-remove.value) c.remove.ensures.rest,
      elim c.match-remove.branch [
        | results::IntermediateAggregationResults::put_over-in-Some+in_ok-value-in-Some w ↦
            put-some c.args.passed.now _ _ c.args.name c.args.value held _ _ w.passed-is
            w.value-is w.in-Some.held (sym c.remove.ensures.value ∙ w.in-Some.is)
            w.in_ok-value-in-Some.ensures.ok w.in_ok-value-in-Some.ensures.merged
        | results::IntermediateAggregationResults::put_over-in-None w ↦
            put-none c.args.passed.now _ _ c.args.name c.args.value held _ _ w.passed-is
            w.value-is refl refl (sym c.remove.ensures.value ∙ w.in-None.is)
      ],
    )
