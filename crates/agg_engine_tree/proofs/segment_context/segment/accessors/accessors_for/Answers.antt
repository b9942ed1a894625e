use Rattle.std.proofs.Common.{option_map, subst, sym, arith}
use Rattle.agg_request_tree.specs.Faults.{IsSoundSource}
use Rattle.agg_request_tree.specs.Source.{after_of}
use Rattle.agg_composite.specs.accessor.Accessors.{AreAccessorsOf}
use Rattle.agg_engine_tree.proofs.lemmas.segment_context.Accessors.{AllZip-one_more}
use Rattle.agg_engine_tree.proofs.lemmas.segment_context.Accessors.{only-memory}
use Rattle.agg_engine_tree.proofs.segment_context.segment.accessors.accessors_for.Goals as goal

pub loop-source-preserved : goal.loop-source-preserved
loop-source-preserved c =
    let segment = c.args.segment.now in
    let after = c.args.after.now in
    let source = c.source-item.result in
    let built = c.in_ok-built.built in
    AllZip-one_more (λ s a. AreAccessorsOf segment s (after_of after s) a) c.args.sources.now
    c.loop-source.source-index c.loop-source.accessors c.push.new.self source built
    c.loop-source.invariant (omega arith) c.source-item.is
    (subst (λ value. AreAccessorsOf segment source value built) c.after_value-value.ensures
    c.in_ok-built.ensures.ok)
    c.in_ok-push.ensures.ok

pub returns-in_err-built-clause-err : goal.returns-in_err-built-clause-err
returns-in_err-built-clause-err c =
    let after = c.args.after.now in
    let source = c.source-item.result in
    let sound = subst (λ s. IsSoundSource s (after_of after s)) (sym c.source-item.is)
    (c.requires.sound c.loop-source.source-index source c.loop-source-test.true) in
    let value = option_map (λ k. k.now) c.after_value-value.result in
    only-memory c.from_residual.result source value c.in_err-built.field-0.0
    (subst (IsSoundSource source) (sym c.after_value-value.ensures) sound)
    c.in_err-built.ensures.err c.from_residual.ensures.1
