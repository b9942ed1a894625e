use Rattle.std.proofs.Common.{◌≡◌, rules}
use Rattle.serde_json.specs.View.{view}
use Rattle.agg_request.specs.reading.OrderJson.{data_of_order}
use Rattle.agg_request.proofs.lemmas.reading.Orders.{reads-back}
use Rattle.agg_request.proofs.reading.custom_order.CustomOrder.write.Goals as goal

pub returns-clause-back : goal.returns-clause-back
returns-clause-back c =
    let written : view c.from.result ≡ data_of_order c.args.self.now = search rules in
    reads-back (view c.from.result) c.args.self.now written
