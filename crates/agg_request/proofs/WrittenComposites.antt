-- Composites as they are written.
use Rattle.std.proofs.Common.{[], ◌∷◌, codes, false, map, refl}
use Rattle.serde_json.specs.Data.{object, array, number, unsigned, Items, no_members, member}
use Rattle.serde_json.specs.View.{items_of}
use Rattle.agg_values.specs.Names.{Named}
use Rattle.agg_values.specs.declared.after_key.AfterKey.{AfterKey}
use Rattle.agg_request.specs.reading.CompositeJson.{IsCompositeJson, IsSourceJson}
use Rattle.agg_request.specs.json_values.Json.{EachIs, IsWhole, small_number}
use Rattle.agg_request.specs.ReadBack.{AreKeysReadBack}
use Rattle.agg_request.specs.WrittenJson.{data_of_composite, data_of_key, data_of_source}
use Rattle.agg_request.specs.WrittenJson.{members_of, with_after}
use Rattle.agg_request_tree.specs.declared.aggregation.CompositeAggregation.{CompositeAggregation}

-- what is written of a composite says it
pub is-composite : (composite : CompositeAggregation)
    → IsWhole small_number false (number (unsigned composite.size)) composite.size
    → EachIs (IsSourceJson false) (items_of (map data_of_source composite.sources))
    composite.sources
    → AreKeysReadBack composite.after
    → IsCompositeJson false (data_of_composite composite) composite
is-composite composite sized each told = by_after composite.after told
  where
    items : Items
    items = items_of (map data_of_source composite.sources)

    by_after : (after : Named AfterKey) → AreKeysReadBack after
        → IsCompositeJson false (object (with_after after
        (member (codes "size") (number (unsigned composite.size))
        (member (codes "sources") (array items) no_members)))) (record composite { after = after })
    by_after [] told =
        record { sources = (items, refl, each); size = (_, refl, sized); after = refl }
    by_after (key ∷ keys) told = record {
      sources = (items, refl, each);
      size = (_, refl, sized);
      after = (members_of data_of_key (key ∷ keys), refl, told);
    }
