use Rattle.agg_segment.proofs.Marks.{none_found, nothing_added}
use Rattle.agg_segment.specs.storage.Columns.{numbers_at}
use Rattle.agg_segment.specs.Marks.{mark_at, passes, has_key}
use Rattle.agg_segment.proofs.query.marks.mark_passing.Goals as goal

pub returns-in_default-clause-told : goal.returns-in_default-clause-told
returns-in_default-clause-told c doc l =
    let column = c.args.column.now in
    nothing_added (mark_at c.args.marks.now doc) (has_key (passes c.args.test) doc column)
    (none_found column.keys (passes c.args.test) c.in_default.ensures (numbers_at column.cells doc))
