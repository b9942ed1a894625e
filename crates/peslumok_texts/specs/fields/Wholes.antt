-- Texts that are exactly how a whole number is written.
use Rattle.std.specs.Prelude.{ℕ, ℤ, pos, neg_ℤ, ◌^◌, int_lt, List, [], ◌∷◌, Option, Some, None}
use Rattle.std.specs.Prelude.{Bool, false, ◌==◌, ◌&&◌, ◌||◌, not, if◌then◌else◌}
use Rattle.std.specs.Char.{is_ascii_digit}
use Rattle.std.specs.Fmt.{signed_decimal}
use Rattle.std.specs.Int.{is_in_range}
use Rattle.std.specs.Str.{bytes_eq}
use Rattle.std.specs.Str.Parse.{signed_digits_value}

-- whether a number has 64 bits, with a sign or without one
abbrev pub has_64_bits : ℤ → Bool
has_64_bits n = not (int_lt n (neg_ℤ (pos (2 ^ 63)))) && int_lt n (pos (2 ^ 64))

-- the number that a sign and digits are, where a number of 64 bits is written exactly so
abbrev pub whole_of : List ℕ → Option ℤ
whole_of text =
    let n = signed_digits_value 10 text in
    if bytes_eq text (signed_decimal n) && has_64_bits n then Some n else None

-- whether a text begins as a number is written: with no plus, no zero before a digit, and no minus
-- before a zero
abbrev pub begins_bare : List ℕ → Bool
begins_bare [] = false
begins_bare (c ∷ []) = is_ascii_digit c
begins_bare (c ∷ d ∷ rest) = is_in_range 49 57 c || ((c == 45) && is_in_range 49 57 d)
