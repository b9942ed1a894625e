use Rattle.std.proofs.Common.{refl, subst, sym}
use Rattle.agg_engine_tree.specs.segment_context.Context as context
use Rattle.agg_engine.proofs.snapshot_results.context.context_in.Goals as goal

pub returns-in-Ok-clause-ok : goal.returns-in-Ok-clause-ok
returns-in-Ok-clause-ok g c = λ request asked.
    let meant = c.in-Ok.ensures.ok asked.made asked.trees in
    record {
      reader = refl;
      docs = c.in_ok-docs.ensures.documents;
      within = c.in_ok-docs.ensures.within;
      numbers = c.in_ok-docs.ensures.numbers;
      meaning = meant.0;
      means = record {
        same = meant.1;
        aggregations = subst (context.IsContextOf meant.0 c.in-Ok.aggregations.per_request)
            (sym asked.is) meant.2;
      };
    }
