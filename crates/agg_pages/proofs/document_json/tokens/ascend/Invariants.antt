use Rattle.std.proofs.Common.{◌+◌, ◌-◌, ◌<◌, ℕ, length}
use Rattle.std.specs.Prelude.{slice_index}
use Rattle.agg_pages.proofs.document_json.tokens.ascend.Given as goal

-- the numbers before this place ascend
abbrev pub invariant-loop-i : goal.invariant-loop-i
invariant-loop-i l =
    (0 < l.i) × ((k : ℕ) → k + 1 < l.i → k + 1 < length l.numbers
    → slice_index l.numbers k < slice_index l.numbers (k + 1))

abbrev pub decreases-loop-i : goal.decreases-loop-i
decreases-loop-i l = length l.numbers - l.i
