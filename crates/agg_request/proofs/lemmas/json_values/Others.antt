-- The only member of another name, found from the front.
use Rattle.std.proofs.Common.{ℕ, List, ◌∷◌, Option, None, Some, Bor, option_map}
use Rattle.serde_json.specs.Data.{Data, Members}
use Rattle.serde_json.specs.View.{view}
use Rattle.serde_json.specs.declared.value.Value.{Value}
use Rattle.agg_request.specs.json_values.Json.{others, the_only}

-- the one that was seen, if any, before the members to come
abbrev pub other_onward : List ℕ → Option (List ℕ × Data) → Members → Option (List ℕ × Data)
other_onward name None ms = the_only (others name ms)
other_onward name (Some m) ms = the_only (m ∷ others name ms)

-- the one that was seen, as it is viewed
abbrev pub seen : Option (Bor (List ℕ) × Bor Value) → Option (List ℕ × Data)
seen found = option_map (λ m. (m.0.now, view m.1.now)) found
