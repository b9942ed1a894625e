-- Names of fields.
use Rattle.std.specs.Prelude.{◌↔◌, ◌⊎◌, ℕ, List, Contains, ⊤}
use Rattle.std.specs.Map.{keys_of}
use Rattle.agg_values.specs.Names.{Named}

-- a map has just these fields as its names
abbrev pub HasJust : List (List ℕ) → Named ⊤ → Type 0
HasJust fields names = (name : List ℕ) → Contains (keys_of names) name ↔ Contains fields name

-- a map has the names that it had before, and these fields, and no more
abbrev pub HasMore : Named ⊤ → Named ⊤ → List (List ℕ) → Type 0
HasMore before now fields =
    (name : List ℕ)
    → Contains (keys_of now) name ↔ Contains (keys_of before) name ⊎ Contains fields name
