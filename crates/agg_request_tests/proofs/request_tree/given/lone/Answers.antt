use Rattle.std.proofs.Common.{◌∙◌}
use Rattle.agg_request_tree.proofs.RequestTrees.{agg-made, below-made}
use Rattle.agg_request_tree.specs.declared.aggregation.AggregationVariants as variants
use variants.TheVariants.{Composite}
use Rattle.agg_request_tests.proofs.request_tree.given.lone.Goals as goal

pub returns-clause-agg : goal.returns-clause-agg
returns-clause-agg g c = agg-made (Composite c.args.composite) c.new.result

pub returns-clause-below : goal.returns-clause-below
returns-clause-below g c =
    below-made (Composite c.args.composite) c.new.result ∙ c.new.ensures
