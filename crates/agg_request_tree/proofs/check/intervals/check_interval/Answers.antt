use Rattle.std.proofs.Common.{rules}
use Rattle.agg_request_tree.proofs.check.intervals.check_interval.Goals as goal

pub returns-then-histogram-lt1-clause-ok : goal.returns-then-histogram-lt1-clause-ok
returns-then-histogram-lt1-clause-ok c = search rules
