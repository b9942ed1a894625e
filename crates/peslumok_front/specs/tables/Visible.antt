-- Texts for a terminal.
use Rattle.std.specs.Prelude.{◌++◌, ◌==◌, ◌||◌, ℕ, List, Bool, chars, codes, encode_utf8, flat_map}
use Rattle.std.specs.Prelude.{◌≡◌, false, if◌then◌else◌, not, true}
use Rattle.std.specs.Char.{is_control}
use Rattle.std.specs.Fmt.{digits}
use Rattle.std.specs.Int.{is_in_range}
use Rattle.std.specs.List.{list_all}

-- a control character, an end of a line or of a paragraph, or a mark that turns the direction
abbrev pub is_escaped : ℕ → Bool
is_escaped c = is_control c || is_in_range 0x2028 0x202E c || is_in_range 0x2066 0x2069 c

-- what shows for a character
abbrev pub visible_char : ℕ → List ℕ
visible_char c =
    if c == 10 then codes "\\n"
    else if c == 13 then codes "\\r"
    else if c == 9 then codes "\\t"
    else if is_escaped c then codes "\\u{" ++ (digits 16 false c ++ codes "}")
    else encode_utf8 c

-- what shows for a text
abbrev pub visible : List ℕ → List ℕ
visible text = flat_map visible_char (chars text)

-- no character of a text would be shown as an escape
abbrev pub IsHarmless : List ℕ → Type 0
IsHarmless text = list_all (λ c. not (is_escaped c)) (chars text) ≡ true
