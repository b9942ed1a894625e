-- Whether a walk of bytes goes on to its pages.
use Rattle.std.specs.Prelude.{ℕ, List, [], ◌∷◌, codes}
use Rattle.agg_engine.specs.Walk.{MayBeAsked}
use Rattle.agg_pages.specs.input_text.Input.{Input, IsInput}
use Rattle.agg_pages.specs.AnyField.{any_field}
use Rattle.agg_check.specs.declared.verdict.BuilderName.{BuilderName}

-- the builders of the program: the one that asks for a value in any field
abbrev pub known_builders : List BuilderName
known_builders = record { name = codes "any_field" } ∷ []

-- the request of an input may be asked, and each of its pages has room
abbrev pub MayBeWalked : Input BuilderName → Type 0
MayBeWalked i =
    MayBeAsked (λ builder. any_field i.header.schema) i.header.name i.header.request i.snapshots

-- a walk of the bytes goes on to its pages: they are an input that may be walked
abbrev pub GoesOn : List ℕ → Type 0
GoesOn bytes =
    (i : Input BuilderName) × IsInput known_builders (λ b. b.name) bytes i × MayBeWalked i
