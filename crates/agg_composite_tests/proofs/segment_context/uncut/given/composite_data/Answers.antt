use Rattle.std.proofs.Common.{[], arith}
use Rattle.agg_request_tree.specs.Source.{after_of}
use Rattle.agg_composite.specs.accessor.Accessors.{AreAccessorsOf}
use Rattle.agg_composite_tests.proofs.lemmas.segment_context.OneMore.{one_more}
use Rattle.agg_composite_tests.proofs.segment_context.uncut.given.composite_data.Goals as goal

pub loop-source-preserved : goal.loop-source-preserved
loop-source-preserved c =
    let segment = c.args.segment.now in
    one_more (λ s a. AreAccessorsOf segment s (after_of [] s) a) _ c.loop-source.source-index
    c.loop-source.accessors c.push.new.self c.source-item.result c.in_ok-built.built
    c.loop-source.invariant (omega arith) c.source-item.is c.in_ok-built.ensures.ok
    c.in_ok-push.ensures.ok
