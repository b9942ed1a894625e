use Rattle.std.proofs.Common.{false, take}
use Rattle.serde_json.specs.View.{items_view}
use Rattle.agg_request.specs.reading.CompositeJson.{IsSourceJson}
use Rattle.agg_request.specs.json_values.Json.{EachIs}
use Rattle.agg_request.specs.ReadBack.{IsWritten}
use Rattle.agg_request.specs.WrittenJson.{data_of_source}
use Rattle.agg_request.proofs.writer.sources.write_sources.Given as goal

abbrev pub invariant-loop-source : goal.invariant-loop-source
invariant-loop-source l =
    EachIs (IsWritten data_of_source (IsSourceJson false)) (items_view l.items.items)
    (take l.source-index l.sources)
