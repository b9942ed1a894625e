use Rattle.std.proofs.Common.{◌≡◌, ◌*◌, map}
use Rattle.std.specs.List.{range_with_len}
use Rattle.agg_segment.specs.Segment.{documents_of}
use Rattle.agg_pages.specs.generator.Draws.{state_after}
use Rattle.agg_pages.specs.generator.Documents.{generated_segment}
use Rattle.agg_pages.proofs.generator.snapshots.generated_segments.Given as goal

-- the segments so far
abbrev pub invariant-loop : goal.invariant-loop
invariant-loop l = record {
  segments : map documents_of l.segments
      ≡ map (generated_segment l.fn.seed) (range_with_len 0 l.counter);
  state : l.generator ≡ state_after (3 * (1_024 * l.counter)) l.fn.seed;
}
