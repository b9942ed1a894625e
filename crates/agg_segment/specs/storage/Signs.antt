-- Signs of numbers: whether one is below zero, or above those of an i64.
use Rattle.std.specs.Prelude.{◌≡◌, ◌≢◌, ◌<◌}
use Rattle.std.specs.Prelude.{ℕ, List, [], ◌∷◌, length, get_or, set}
use Rattle.std.specs.List.{All, Contains}
use Rattle.agg_segment.specs.SegmentLimits.{sign_of}
use Rattle.agg_segment.specs.declared.storage.run.Run.{Run}
use Rattle.agg_segment.specs.declared.storage.run.RunKind.{RunKind}
use Rattle.agg_segment.specs.declared.storage.sign.Sign.{Sign}
use Rattle.agg_segment.specs.declared.storage.sign.Sign.TheVariants.{Small, Negative, Large}
use Rattle.agg_segment.specs.storage.Cells.{Placed}

-- the field and sign of numbers of one kind
abbrev pub kind_mark : RunKind → ℕ × Sign
kind_mark kind = (kind.field, kind.sign)

-- those of a run
abbrev pub run_mark : Run → ℕ × Sign
run_mark run = kind_mark run.kind

-- a key's field and sign
abbrev pub key_mark : Placed → ℕ × Sign
key_mark p = (p.field, sign_of p.key)

-- some field has both
abbrev pub HasBoth : List (ℕ × Sign) → Type 0
HasBoth marks = (field : ℕ) × Contains marks (field, Negative) × Contains marks (field, Large)

-- a sign is its field's, if it says something
abbrev pub IsFieldSign : List Sign → ℕ × Sign → Type 0
IsFieldSign signs mark = mark.1 ≢ Small → get_or signs mark.0 Small ≡ mark.1

-- the signs of fields are those of their numbers
abbrev pub AreSigns : List Sign → List (ℕ × Sign) → Type 0
AreSigns signs marks =
    All (IsFieldSign signs) marks
    × ((field : ℕ) → field < length signs → get_or signs field Small ≢ Small
    → Contains marks (field, get_or signs field Small))

-- the signs of fields taken away
abbrev pub without_signs : List ℕ → List Sign → List Sign
without_signs [] signs = signs
without_signs (field ∷ fields) signs = set (without_signs fields signs) field Small
