use Rattle.agg_engine_tree.proofs.lemmas.collector_tree.MetricCalls.{answers-none}
use Rattle.agg_engine_tree.proofs.collector_tree.metric.take_in_metric.Goals as goal

pub returns-in-Flush : goal.returns-in-Flush
returns-in-Flush c = rw c.in-Flush.is (answers-none c.args.collector.now tt)
