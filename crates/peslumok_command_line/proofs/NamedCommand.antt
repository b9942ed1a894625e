-- The command that the words name.
use Rattle.std.proofs.Common.{◌≡◌, List, Option, Some, None, ap₂, option_map, refl}
use Rattle.std.proofs.lemmas.Option.{none-some, same_Some}
use Rattle.clap.specs.Words.{Row, Text}

-- the first of what a map gives
pub first-option_map : {X Y : Type 0} (f : X → Text × Y) (o : Option X)
    → option_map (λ p. p.0) (option_map f o) ≡ option_map (λ x. (f x).0) o
first-option_map f None = refl
first-option_map f (Some x) = refl

-- a command of this name was found, with these rows
pub found_command : (o : Option (Text × List Row)) (name : Text) (rows : List Row)
    → option_map (λ p. p.0) o ≡ Some name → option_map (λ p. p.1) o ≡ Some rows
    → o ≡ Some (name, rows)
found_command None name rows is_name is_rows = absurd (none-some _ is_name)
found_command (Some (word, found)) name rows is_name is_rows =
    ap₂ (λ (n : Text) (r : List Row). Some (n, r)) (same_Some _ _ is_name) (same_Some _ _ is_rows)
