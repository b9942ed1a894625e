use Rattle.std.proofs.Common.{take}
use Rattle.serde_json.specs.View.{items_view}
use Rattle.agg_request.specs.json_values.Json.{EachIs}
use Rattle.agg_request.specs.ReadBack.{IsWritten, SaysFilter}
use Rattle.agg_request.specs.WrittenJson.{data_of_query}
use Rattle.agg_request.proofs.writer.query.+filters.Given as goal

abbrev pub invariant-write_trees-loop-tree : goal.invariant-write_trees-loop-tree
invariant-write_trees-loop-tree l =
    EachIs (IsWritten data_of_query SaysFilter) (items_view l.items.items)
    (take l.tree-index l.tree-items)
