-- Texts that begin as another encoding does.
use Rattle.std.specs.Prelude.{◌||◌, ◌∷◌, [], ℕ, List, Bool, nat_eq}
use Rattle.std.specs.List.{starts_with}

-- whether bytes begin with a byte order mark of UTF-16
abbrev pub begins_as_utf16 : List ℕ → Bool
begins_as_utf16 bytes =
    starts_with nat_eq bytes (0xFF ∷ 0xFE ∷ []) || starts_with nat_eq bytes (0xFE ∷ 0xFF ∷ [])

-- whether bytes begin as gzip does
abbrev pub begins_as_gzip : List ℕ → Bool
begins_as_gzip bytes = starts_with nat_eq bytes (0x1F ∷ 0x8B ∷ [])
