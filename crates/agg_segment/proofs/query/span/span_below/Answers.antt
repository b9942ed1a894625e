use Rattle.std.proofs.Common.{rules}
use Rattle.agg_segment.proofs.query.span.span_below.Goals as goal

pub returns-in_ok-hit_of-in-Excluded : goal.returns-in_ok-hit_of-in-Excluded
returns-in_ok-hit_of-in-Excluded c = search rules
