use Rattle.std.proofs.Common.{◌≡◌, None, Some, rules}
use Rattle.serde_json.specs.View.{view}
use Rattle.agg_request.specs.json_values.Json.{only_item}
use Rattle.agg_request.proofs.lemmas.reading.Orders.{order-of_item, order-of_pair}
use Rattle.agg_request.proofs.reading.custom_order.CustomOrder.read.Goals as goal

pub returns-in-Some : goal.returns-in-Some
returns-in-Some c =
    let found : only_item (view c.args.value.now) ≡ Some (view c.in-Some.item.now) = search rules in
    order-of_item (view c.args.value.now) (view c.in-Some.item.now) c.read_pair.result found
    c.read_pair.ensures

pub returns-in-None : goal.returns-in-None
returns-in-None c =
    let none : only_item (view c.args.value.now) ≡ None = search rules in
    order-of_pair (view c.args.value.now) c.read_pair-in-None.result none
    c.read_pair-in-None.ensures
