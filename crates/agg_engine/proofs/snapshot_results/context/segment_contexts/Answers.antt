use Rattle.std.proofs.Common.{arith}
use Rattle.agg_engine.specs.snapshot_results.Contexts.{IsContextOf}
use Rattle.agg_engine.proofs.lemmas.snapshot_results.Contexts.{zipped-more}
use Rattle.agg_engine.proofs.snapshot_results.context.segment_contexts.Goals as goal

pub loop-segment-preserved : goal.loop-segment-preserved
loop-segment-preserved g c = λ request asked.
    zipped-more (IsContextOf request c.args.page.now.query.now) c.args.segments.now
    c.loop-segment.segment-index c.loop-segment.contexts c.push.new.self c.segment-item.result
    c.in_ok-context_in.field-0 (c.loop-segment.invariant request asked) (omega arith)
    c.segment-item.is (c.in_ok-context_in.ensures.ok request asked) c.in_ok-push.ensures.ok
