use Rattle.std.proofs.Common.{false, take}
use Rattle.serde_json.specs.View.{items_view}
use Rattle.agg_request.specs.reading.CompositeJson.{IsSourceJson}
use Rattle.agg_request.specs.json_values.Json.{EachIs}
use Rattle.agg_request.proofs.reading.composite.sources.read_items.Given as goal

-- the items so far are read
abbrev pub invariant-loop-item : goal.invariant-loop-item
invariant-loop-item l =
    EachIs (IsSourceJson false) (items_view (take l.item-index l.items)) l.sources
