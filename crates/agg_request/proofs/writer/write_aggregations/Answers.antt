use Rattle.serde_json.specs.View.{members_view, view}
use Rattle.agg_request.proofs.WrittenRequests.{request-reads, request-written}
use Rattle.agg_request.proofs.writer.write_aggregations.Goals as goal

pub returns : goal.returns
returns g c =
    let members = members_view c.in_ok-write_request.field-0.entries in
    let request = c.args.request.now in
    let each = c.in_ok-write_request.ensures in
    record {
      written = request-written (λ b. b.name) (view c.from.result) members request c.from.ensures
          each;
      back = request-reads (λ b. b.name) (view c.from.result) members request c.from.ensures each;
    }
