use Rattle.std.proofs.Common.{◌≡◌, ◌++◌, ◌-◌, ◌<◌, ◌≤◌, drop, decimal, length}
use Rattle.agg_pages.proofs.document_json.plain.digits.digits_from.Given as goal

-- the digits so far are those of the number, which isn't zero
abbrev pub invariant-loop-i : goal.invariant-loop-i
invariant-loop-i l =
    (drop l.from l.bytes ≡ decimal l.n ++ drop l.i l.bytes) × (0 < l.n) × (l.i ≤ length l.bytes)

abbrev pub decreases-loop-i : goal.decreases-loop-i
decreases-loop-i l = length l.bytes - l.i
