use Rattle.std.proofs.Common.{◌≡◌, ◌<◌, length, vec_len}
use Rattle.std.specs.List.{All}
use Rattle.agg_segment.specs.storage.Signs.{without_signs}
use Rattle.agg_segment.proofs.signs.take_back.Given as goal

abbrev pub decreases-loop-field : goal.decreases-loop-field
decreases-loop-field l = vec_len l.given

abbrev pub invariant-loop-field : goal.invariant-loop-field
invariant-loop-field l = record {
  rest : without_signs l.given.items l.signs ≡ without_signs l.fn.given.items l.initial.signs;
  within : All (λ f. f < length l.signs) l.given.items;
}
