use Rattle.std.proofs.Common.{◌∙◌}
use Rattle.agg_values.specs.Names.{put}
use Rattle.agg_request_tree.specs.Request.{aggregation_of}
use Rattle.agg_request_tree.specs.declared.aggregation.AggregationVariants.TheVariants.{Filter}
use Rattle.agg_pages.proofs.header_text.filter_request.Goals as goal

pub returns : goal.returns
returns g c =
    c.in_ok-insert.ensures.ok
    ∙ (λ i. put (c.in_ok-name.ensures i)
    (aggregation_of (Filter (record { query = c.of-by_query.ensures i })) (c.new.ensures i))
    (c.new-request.ensures i))
