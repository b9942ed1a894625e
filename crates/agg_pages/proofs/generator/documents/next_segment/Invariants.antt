use Rattle.std.proofs.Common.{◌≡◌, ◌*◌}
use Rattle.agg_segment.specs.Segment.{gathered_documents}
use Rattle.agg_pages.specs.generator.Draws.{state_after}
use Rattle.agg_pages.specs.generator.Documents.{generated_documents}
use Rattle.agg_pages.proofs.generator.documents.next_segment.Given as goal

-- the documents so far
abbrev pub invariant-loop : goal.invariant-loop
invariant-loop l = record {
  documents : gathered_documents l.builder ≡ generated_documents l.fn.generator 0 l.counter;
  state : l.generator ≡ state_after (3 * l.counter) l.fn.generator;
}
