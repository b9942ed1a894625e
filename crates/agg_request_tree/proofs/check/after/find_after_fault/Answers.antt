use Rattle.std.proofs.Common.{subst, sym}
use Rattle.std.proofs.lemmas.Bool.{false≢true}
use Rattle.agg_request_tree.specs.Faults.{HasInterval, IsNullAfter, IsOtherAfter, IsSoundSource}
use Rattle.agg_request_tree.specs.Source.{after_of}
use Rattle.agg_request_tree.specs.declared.source as declared
use declared.CompositeAggregationSource.{CompositeAggregationSource}
use Rattle.agg_request_tree.proofs.Checks.{All-next, All-whole}
use Rattle.agg_request_tree.proofs.Faults.{IsSoundSource-parts}
use Rattle.agg_request_tree.proofs.check.after.find_after_fault.Goals as goal

pub loop-source-preserved : goal.loop-source-preserved
loop-source-preserved c =
    let source = c.source-item.result in
    All-next (λ (s : CompositeAggregationSource). HasInterval s
    → IsSoundSource s (after_of c.args.after.now s)) c.args.sources.now
    c.loop-source.source-index source c.loop-source-test.true c.source-item.is
    c.loop-source.invariant
    (λ has. IsSoundSource-parts source (after_of c.args.after.now source)
    (λ null. false≢true (c.if-is_null_after.ensures.1 (subst (λ after. IsNullAfter source after)
    (sym c.after_value-value.ensures) null))) has
    (subst (λ after. ¬ (IsOtherAfter source after)) c.after_value-value.ensures
    c.if-is_other_after.ensures))

pub returns-clause-none : goal.returns-clause-none
returns-clause-none c =
    All-whole (λ (s : CompositeAggregationSource). HasInterval s
    → IsSoundSource s (after_of c.args.after.now s)) c.args.sources.now
    c.loop-source.source-index c.loop-source-test.false c.loop-source.invariant
