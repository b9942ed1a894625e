use Rattle.std.proofs.Common.{rules}
use Rattle.agg_request_tree.proofs.source.CompositeAggregationSource.is_null_after.Goals as goal

pub returns-in-Some-Null : goal.returns-in-Some-Null
returns-in-Some-Null c = search rules
