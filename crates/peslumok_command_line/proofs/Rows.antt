-- What the getters read, from the rows of the matches.
use Rattle.std.proofs.Common.{◌≡◌, ◌<◌, ◌^◌, ℕ, List, Option, Some, None}
use Rattle.std.proofs.Common.{unwrap_or}
use Rattle.std.specs.Str.Parse.{ParsesUnsigned, ExplainsUnsignedError, HasUnsignedDigitsIfOk}
use Rattle.std.specs.Str.Parse.{IsNumeral, digits_value, without_leading_plus}
use Rattle.std.specs.Prelude.{IfSome}
use Rattle.clap.specs.Words.{ReadsOne, Row, Text, one_of}
use Rattle.peslumok_command_line.specs.Asked.{ReadsNumber}

-- a number that was read is what the digits write
pub read_number : (text : Text) (read : Option ℕ) (other : ℕ)
    → ReadsOne (λ bs r. ParsesUnsigned 32 10 bs r × ExplainsUnsignedError 10 bs r
    × HasUnsignedDigitsIfOk bs r) text read
    → IsNumeral 10 (without_leading_plus text)
    → digits_value 10 (without_leading_plus text) < 2 ^ 32
    → unwrap_or read other ≡ digits_value 10 (without_leading_plus text)
read_number text (Some n) other gives is_numeral fits = gives.0.1
read_number text None other gives is_numeral fits = absurd (gives.1.0 (is_numeral, fits))

-- a number that an option may have is the one that its digits write
pub read_some : (id : Text) (rows : List Row) (read : Option ℕ)
    → ((text : Text) → one_of id rows ≡ Some text
    → ReadsOne (λ bs r. ParsesUnsigned 32 10 bs r × ExplainsUnsignedError 10 bs r
    × HasUnsignedDigitsIfOk bs r) text read)
    → IfSome read (ReadsNumber id rows)
read_some id rows None gives = tt
read_some id rows (Some n) gives =
    λ text is_text is_numeral fits. (gives text is_text).0.1
