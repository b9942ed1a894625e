-- Each of a list once.
use Rattle.std.specs.Prelude.{Bool, List, [], ◌∷◌, if◌then◌else◌}
use Rattle.std.specs.List.{list_any}

-- each of a list once, by a test of which are the same
abbrev pub distinct : {X : Type 0} → (X → X → Bool) → List X → List X
distinct same [] = []
distinct same (x ∷ xs) = if list_any (same x) xs then distinct same xs else x ∷ distinct same xs
