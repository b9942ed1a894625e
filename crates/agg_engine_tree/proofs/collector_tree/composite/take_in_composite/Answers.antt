use Rattle.std.proofs.Common.{◌∙◌, ap, subst}
use Rattle.agg_composite.specs.accessor.Ranges.{AreAllInRange}
use Rattle.agg_composite.specs.buckets.Visits.{docs_in}
use Rattle.agg_engine_tree.specs.collector_tree.Call.{pairs_in}
use Rattle.agg_engine_tree.proofs.lemmas.collector_tree.CompositeCalls.{answers-none, docs_in-under}
use Rattle.agg_engine_tree.proofs.collector_tree.composite.take_in_composite.Goals as goal

pub collect_under-requires-clause-range : goal.collect_under-requires-clause-range
collect_under-requires-clause-range g c checked =
    let (segment, after, fits, all) = c.requires.range checked in (
      segment,
      after,
      fits,
      subst (AreAllInRange segment c.args.req.now.req.now.sources)
          (ap (λ call. docs_in (pairs_in call)) c.in-Collect.is
          ∙ docs_in-under c.in-Collect.parent c.in-Collect.docs.now) all,
    )

pub returns-in-Flush : goal.returns-in-Flush
returns-in-Flush g c = λ segment after fits.
    rw c.in-Flush.is
    (answers-none c.args.req.now segment after c.args.collector.now c.args.steps.now tt)
