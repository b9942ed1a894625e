-- The commands of the program, by its arguments.
use Rattle.std.specs.Prelude.{◌≡◌, ◌<◌, ◌^◌, ℕ, List, [], ◌∷◌, codes}
use Rattle.std.specs.Str.Parse.{IsNumeral, digits_value}
use Rattle.agg_pages.specs.declared.command.Command.{Command}
use Rattle.agg_pages.specs.declared.command.Command.TheVariants.{Make, Walk}

-- the arguments of the walk of what a source has left
abbrev pub walk_arguments : List (List ℕ)
walk_arguments = codes "walk" ∷ []

-- the arguments of the walk of a generated input, with the digits of its seed
abbrev pub make_arguments : List ℕ → List (List ℕ)
make_arguments digits = codes "make" ∷ digits ∷ []

-- the digits, one or more from 0 to 9 and nothing else, write the seed, a number of 64 bits
pub record IsSeed (digits : List ℕ) (seed : ℕ) : Type 0 where
  pub numeral : IsNumeral 10 digits
  pub value : seed ≡ digits_value 10 digits
  pub fits : seed < 2 ^ 64

-- the arguments ask for a command
abbrev pub AskFor : List (List ℕ) → Command → Type 0
AskFor arguments Walk = arguments ≡ walk_arguments
AskFor arguments (Make seed) =
    (digits : List ℕ) × (arguments ≡ make_arguments digits) × IsSeed digits seed
