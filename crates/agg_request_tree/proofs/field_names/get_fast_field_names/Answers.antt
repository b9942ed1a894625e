use Rattle.std.proofs.Common.{subst}
use Rattle.agg_request_tree.specs.FieldNames.{HasMore}
use Rattle.agg_request_tree.specs.Request.{fields_of}
use Rattle.agg_request_tree.proofs.FieldNames.{has-just}
use Rattle.agg_request_tree.proofs.field_names.get_fast_field_names.Goals as goal

pub returns : goal.returns
returns g c =
    has-just c.add_request.new.names (fields_of c.args.aggs.now)
    (subst (λ before. HasMore before c.add_request.new.names (fields_of c.args.aggs.now))
    c.new-names.ensures c.in_ok-add_request.ensures)
