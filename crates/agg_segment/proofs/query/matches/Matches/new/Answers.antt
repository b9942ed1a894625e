use Rattle.agg_segment.specs.Query.{matches}
use Rattle.agg_segment.proofs.Marks.{marks_in_order}
use Rattle.agg_segment.proofs.query.matches.Matches.new.Goals as goal

pub returns : goal.returns
returns c = marks_in_order (matches c.args.tree.now) c.args.segment.now c.in_ok-marks.marks.items
    c.in_ok-marks.ensures
