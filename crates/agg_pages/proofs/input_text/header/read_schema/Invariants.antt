use Rattle.std.proofs.Common.{◌≡◌, drop}
use Rattle.serde_json.specs.Find.{as_str}
use Rattle.serde_json.specs.View.{items_view}
use Rattle.agg_request.specs.json_values.Json.{each_item}
use Rattle.agg_request.proofs.lemmas.json_values.JsonLemmas.{onward}
use Rattle.agg_pages.proofs.input_text.header.read_schema.Given as goal

abbrev pub invariant-loop-name : goal.invariant-loop-name
invariant-loop-name l =
    each_item as_str (items_view l.name-items) ≡ onward l.schema
    (each_item as_str (items_view (drop l.name-index l.name-items)))
