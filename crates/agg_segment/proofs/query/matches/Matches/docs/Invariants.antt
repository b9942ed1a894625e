use Rattle.std.proofs.Common.{◌≡◌}
use Rattle.std.specs.List.{filter, range_with_len}
use Rattle.agg_segment.specs.Marks.{mark_at}
use Rattle.agg_segment.proofs.query.matches.Matches.docs.Given as goal

abbrev pub invariant-loop-doc : goal.invariant-loop-doc
invariant-loop-doc l = l.docs.items ≡ filter (mark_at l.self) (range_with_len 0 l.doc)
