use Rattle.std.proofs.Common.{◌≡◌, ◌<◌, ◌++◌, ℕ, List, length, take, map}
use Rattle.std.specs.List.{All}
use Rattle.agg_segment.specs.storage.Signs.{run_mark, AreSigns, without_signs}
use Rattle.agg_segment.specs.declared.storage.sign.Sign.{Sign}
use Rattle.agg_segment.proofs.signs.give_signs.Given as goal

abbrev pub invariant-loop-run : goal.invariant-loop-run
invariant-loop-run l = record {
  so_far : (before : List (ℕ × Sign)) → AreSigns l.initial.signs before
      → AreSigns l.signs (before ++ map run_mark (take l.run-index l.runs));
  undone : without_signs l.given.items l.signs ≡ l.initial.signs;
  within : All (λ f. f < length l.initial.signs) l.given.items;
}
