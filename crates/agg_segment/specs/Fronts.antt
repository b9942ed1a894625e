-- Places with the first bytes of their texts, as numbers that are compared before the texts.
use Rattle.std.specs.Prelude.{◌≡◌, ◌<◌, ℕ, zero, suc, List, [], ◌∷◌, ◌+◌, ◌*◌, ◌^◌}
use Rattle.std.specs.declared.cmp.Ordering.{Ordering}
use Rattle.std.specs.List.{All}
use Rattle.std.specs.Ordering.{nat_cmp, ordering_then}
use Rattle.agg_values.specs.Names.{name_cmp}
use Rattle.agg_segment.specs.storage.Dictionary.{text_at}
use Rattle.agg_segment.specs.declared.gatherings.by_text.KeyedPlace.{KeyedPlace}

-- numbers that are bytes
abbrev pub AreBytes : List ℕ → Type 0
AreBytes bytes = All (λ byte. byte < 256) bytes

-- the first n bytes as a number of n digits to the base 256, with a byte that is missing as 0
abbrev pub front_number : ℕ → List ℕ → ℕ
front_number zero bytes = 0
front_number (suc n) [] = 0
front_number (suc n) (byte ∷ bytes) = byte * 256 ^ n + front_number n bytes

-- a place has the first eight bytes of its text
abbrev pub IsKeyed : List (List ℕ) → KeyedPlace → Type 0
IsKeyed texts k =
    AreBytes (text_at texts k.place) × (k.front ≡ front_number 8 (text_at texts k.place))

-- places are ordered by their fronts, and where these are equal by their texts
abbrev pub keyed_cmp : List (List ℕ) → KeyedPlace → KeyedPlace → Ordering
keyed_cmp texts a b = ordering_then (nat_cmp a.front b.front)
    (name_cmp (text_at texts a.place) (text_at texts b.place))
