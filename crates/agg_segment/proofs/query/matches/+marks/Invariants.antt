use Rattle.std.proofs.Common.{take}
use Rattle.agg_segment.specs.Marks.{AreMarks}
use Rattle.agg_segment.specs.Query.{all_match, matches, some_matches}
use Rattle.agg_segment.proofs.query.matches.+marks.Given as goal

abbrev pub invariant-each_marks-loop-tree : goal.invariant-each_marks-loop-tree
invariant-each_marks-loop-tree l =
    AreMarks (all_match matches (take l.tree-index l.trees)) l.segment l.marks.items

abbrev pub invariant-any_marks-loop-tree : goal.invariant-any_marks-loop-tree
invariant-any_marks-loop-tree l =
    AreMarks (some_matches matches (take l.tree-index l.trees)) l.segment l.marks.items
