use Rattle.agg_segment.proofs.DocumentKeys.{nothing_gathered}
use Rattle.agg_segment.proofs.builder.SegmentBuilder.new.Goals as goal

pub returns-clause-opened : goal.returns-clause-opened
returns-clause-opened c = rw (c.new-3.ensures, c.new-4.ensures) (nothing_gathered c.new.result 0 0)
