use Rattle.std.proofs.Common.{rules}
use Rattle.agg_segment.proofs.query.marks.take_marks.Goals as goal

pub loop-doc-preserved : goal.loop-doc-preserved
loop-doc-preserved c = search rules
