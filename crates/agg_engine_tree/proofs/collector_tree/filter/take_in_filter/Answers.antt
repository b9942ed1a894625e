use Rattle.std.proofs.Common.{sym, subst}
use Rattle.agg_filter.specs.Matching.{is_matching}
use Rattle.agg_engine_tree.specs.collector_tree.Call.{pairs_in, parents_in}
use Rattle.agg_engine_tree.specs.collector_tree.Took.{FilterAnswers}
use Rattle.agg_engine_tree.specs.declared.collector_tree.call.Call.{Call}
use Rattle.agg_engine_tree.proofs.lemmas.collector_tree.FilterCalls.{answers-none}
use Rattle.agg_engine_tree.proofs.collector_tree.filter.take_in_filter.Goals as goal

pub returns-in-Collect : goal.returns-in-Collect
returns-in-Collect c = λ tree segment marks.
    subst (λ (x : Call). FilterAnswers (is_matching tree segment) (pairs_in x) (parents_in x)
    c.args.collector.now c.collect_under.new.collector c.collect_under.result)
    (sym c.in-Collect.is) (c.collect_under.ensures tree segment marks)

pub returns-in-Flush : goal.returns-in-Flush
returns-in-Flush c = λ tree segment marks.
    rw c.in-Flush.is (answers-none (is_matching tree segment) c.args.collector.now tt)
