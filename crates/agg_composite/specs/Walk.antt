-- The tuples of a document's choices that a walk visits.
use Rattle.std.specs.Prelude.{ℕ, List, [], ◌∷◌, ◌++◌, Bool, true, false, Option, None, Some}
use Rattle.std.specs.Prelude.{drop, take}
use Rattle.std.specs.List.{flat_map}
use Rattle.std.specs.Option.{option_map_or}
use Rattle.std.specs.declared.cmp.Ordering.{Ordering}
use Rattle.std.specs.declared.cmp.Ordering.TheVariants.{Less, Equal, Greater}
use Rattle.agg_composite.specs.accessor.Encoding.{EncodedTuple}
use Rattle.agg_composite.specs.declared.walk.choice.Choice.{Choice}

-- a list cut into parts of these sizes
abbrev pub parts : {A : Type 0} → List ℕ → List A → List (List A)
parts [] xs = []
parts (size ∷ sizes) xs = take size xs ∷ parts sizes (drop size xs)

-- whether a tuple is above the bound with one more key, None where it is below
abbrev pub next_standing : Bool → Ordering → Option Bool
next_standing true side = Some true
next_standing false Less = None
next_standing false Equal = Some false
next_standing false Greater = Some true

-- a whole tuple is visited where it is above the bound
abbrev pub if_above : EncodedTuple → Bool → List EncodedTuple
if_above tuple true = tuple ∷ []
if_above tuple false = []

-- the tuples that a walk visits after the first keys of a tuple: none after a key that is below
-- the bound
abbrev pub walked : List (List Choice) → EncodedTuple → Bool → List EncodedTuple
walked [] front above = if_above front above
walked (choices ∷ rest) front above =
    flat_map (λ c.
    option_map_or (walked rest (front ++ c.value ∷ [])) (next_standing above c.side) [])
    choices
