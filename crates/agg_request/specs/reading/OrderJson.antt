-- Orders of buckets as JSON: an object of one pair, a target's text with the word for a direction.
use Rattle.std.specs.Prelude.{◌≡◌, ◌⊎◌, ℕ, List, Some}
use Rattle.serde_json.specs.Data.{Data, string}
use Rattle.serde_json.specs.Find.{as_str}
use Rattle.agg_values.specs.OrderTarget.{target_of, target_text}
use Rattle.agg_request.specs.reading.CompositeJson.{order_word}
use Rattle.agg_request.specs.json_values.Json.{alone, only_item, only_member}
use Rattle.agg_request.specs.declared.reading.custom_order.CustomOrder.{CustomOrder}

-- an object of one pair says an order
abbrev pub IsPair : Data → CustomOrder → Type 0
IsPair d order =
    (text : List ℕ) × (value : Data) × (only_member d ≡ Some (text, value))
    × (as_str value ≡ Some (order_word order.order)) × (order.target ≡ target_of text)

-- an object of one pair, or an array of one such object, says an order
abbrev pub IsOrderJson : Data → CustomOrder → Type 0
IsOrderJson d order =
    IsPair d order ⊎ ((item : Data) × (only_item d ≡ Some item) × IsPair item order)

-- the object that is written for an order
abbrev pub data_of_order : CustomOrder → Data
data_of_order order =
    alone (target_text order.target) (string (order_word order.order))

-- the order as it is read back: a sub-aggregation of the name `_key` or `_count` is the key or the
-- count
abbrev pub read_back : CustomOrder → CustomOrder
read_back order = record order { target = target_of (target_text order.target) }
