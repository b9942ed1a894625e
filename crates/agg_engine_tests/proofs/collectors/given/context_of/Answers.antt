use Rattle.agg_engine_tests.proofs.collectors.given.context_of.Goals as goal

pub returns : goal.returns
returns g c = rw c.set_page.ensures.trees c.in_ok-context.ensures.of
