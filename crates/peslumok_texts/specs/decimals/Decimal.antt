-- Decimal texts: what whole number of the last place each one is, and back.
use Rattle.std.specs.Prelude.{zero, suc, ◌/◌, ◌%◌, int_lt, decimal, unsigned_abs}
use Rattle.std.specs.Prelude.{ℕ, ℤ, pos, neg_ℤ, ◌+◌, ◌-◌, ◌*◌, ◌^◌, ◌++◌, List, [], ◌∷◌, length}
use Rattle.std.specs.Prelude.{Bool, true, false, ◌==◌, ◌&&◌, nat_lt, if◌then◌else◌, drop}
use Rattle.std.specs.Prelude.{take_while}
use Rattle.std.specs.Prelude.{Option, Some, None, Result, Ok, Err}
use Rattle.std.specs.List.{list_all, prefix_len}
use Rattle.std.specs.Char.{is_ascii_digit}
use Rattle.peslumok_texts.specs.declared.decimals.error.DecimalError.{DecimalError}
use Rattle.peslumok_texts.specs.declared.decimals.error.DecimalError.TheVariants as error

-- the number that digits write when they follow those of n
abbrev pub number_after : ℕ → List ℕ → ℕ
number_after n [] = n
number_after n (c ∷ cs) = number_after (n * 10 + (c - 48)) cs

-- whether a minus stands first, and what stands after it
abbrev pub sign : List ℕ → Bool × List ℕ
sign [] = (false, [])
sign (c ∷ rest) = if c == 45 then (true, rest) else (false, c ∷ rest)

-- the digits after a point: none where nothing stands there, and otherwise one at least
abbrev pub fraction : List ℕ → Option (List ℕ)
fraction [] = Some []
fraction (c ∷ ds) =
    if (c == 46) && (nat_lt 0 (length ds) && list_all is_ascii_digit ds) then Some ds else None

-- digits before and after the point as a number of the last place
abbrev pub in_places : ℕ → List ℕ → List ℕ → ℕ
in_places places whole part = number_after 0 (whole ++ part) * 10 ^ (places - length part)

-- the same, with what is wrong with it
abbrev pub counted : ℕ → List ℕ → Option (List ℕ) → Result ℕ DecimalError
counted places whole None = Err error.NotANumber
counted places whole (Some part) =
    if nat_lt places (length part) then Err error.TooManyDecimals
    else (if nat_lt (in_places places whole part) (2 ^ 63)
    then Ok (in_places places whole part) else Err error.TooLarge)

-- an unsigned decimal text
unfoldable pub magnitude : ℕ → List ℕ → Result ℕ DecimalError
magnitude places body =
    if length (take_while is_ascii_digit body) == 0 then Err error.NotANumber
    else counted places (take_while is_ascii_digit body)
    (fraction (drop (prefix_len is_ascii_digit body) body))

-- a magnitude with its sign
abbrev pub signed : Bool → Result ℕ DecimalError → Result ℤ DecimalError
signed is_minus (Ok n) = Ok (if is_minus then neg_ℤ (pos n) else pos n)
signed is_minus (Err e) = Err e

-- a decimal text as a whole number of its last place
abbrev pub decimal_of : ℕ → List ℕ → Result ℤ DecimalError
decimal_of places text = signed (sign text).0 (magnitude places (sign text).1)

-- the last k digits of a number
abbrev pub last_digits : ℕ → ℕ → List ℕ
last_digits zero n = []
last_digits (suc k) n = (48 + n / 10 ^ k % 10) ∷ last_digits k n

-- a point, and the digits after it; neither where there is no place
abbrev pub fraction_text : ℕ → ℕ → List ℕ
fraction_text places n = if places == 0 then [] else 46 ∷ last_digits places n

-- a minus before a number below zero
abbrev pub sign_text : ℤ → List ℕ
sign_text n = if int_lt n (pos 0) then 45 ∷ [] else []

-- a whole number of the last place as a decimal text
abbrev pub decimal_text : ℕ → ℤ → List ℕ
decimal_text places n =
    sign_text n ++ (decimal (unsigned_abs n / 10 ^ places) ++ fraction_text places (unsigned_abs n))
