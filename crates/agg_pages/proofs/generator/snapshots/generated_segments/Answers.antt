use Rattle.std.proofs.Common.{◌*◌, ◌∷◌, ◌++◌, List, [], map, ap, sym, ◌∙◌, arith}
use Rattle.std.specs.List.{range_with_len}
use Rattle.std.proofs.lemmas.List.{map-append}
use Rattle.std.proofs.lemmas.List.FromFn.{map-range_with_len_more}
use Rattle.agg_segment.specs.storage.Document.{Fields}
use Rattle.agg_segment.specs.Segment.{documents_of}
use Rattle.agg_pages.specs.generator.Draws.{state_after}
use Rattle.agg_pages.specs.generator.Documents.{generated_segment}
use Rattle.agg_pages.proofs.lemmas.generator.DrawnDocuments.{generated_segment_state}
use Rattle.agg_pages.proofs.lemmas.generator.States.{state_after-state_after}
use Rattle.agg_pages.proofs.generator.snapshots.generated_segments.Goals as goal

pub loop-init : goal.loop-init
unfolding state_after
loop-init c = record {
  segments = ap (map documents_of) c.new-segments.ensures;
  state = c.new-generator.ensures;
}

pub loop-preserved : goal.loop-preserved
loop-preserved c =
    let seed = c.args.seed in
    let place = c.loop.counter in
    let segment = c.in_ok-segment.segment in
    let before = map (generated_segment seed) (range_with_len 0 place) in
    let drawn = c.in_ok-segment.ensures.documents
    ∙ generated_segment_state seed place c.loop.generator c.loop.invariant.state in
    record {
      segments = ap (map documents_of) c.in_ok-push.ensures.ok
          ∙ map-append documents_of c.loop.segments (segment ∷ [])
          ∙ ap (λ ds. ds ++ documents_of segment ∷ []) c.loop.invariant.segments
          ∙ ap (λ (ds : List Fields). before ++ ds ∷ []) drawn
          ∙ sym (map-range_with_len_more (generated_segment seed) 0 place place (omega arith));
      state = c.in_ok-segment.ensures.state
          ∙ ap (state_after 3_072) c.loop.invariant.state
          ∙ state_after-state_after 3_072 (3 * (1_024 * place)) seed
          ∙ ap (λ n. state_after n seed) (omega arith);
    }
