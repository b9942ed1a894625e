-- The bytes that JSON is made of.
use Rattle.std.specs.Prelude.{ℕ}

-- around a text
abbrev pub quote : ℕ
quote = 34

-- before a byte of a text that stands for another
abbrev pub backslash : ℕ
backslash = 92

-- between items and between members
abbrev pub comma : ℕ
comma = 44

-- between a member's name and its value
abbrev pub colon : ℕ
colon = 58

-- around the items of an array
abbrev pub open_list : ℕ
open_list = 91

abbrev pub close_list : ℕ
close_list = 93

-- around the members of an object
abbrev pub open_object : ℕ
open_object = 123

abbrev pub close_object : ℕ
close_object = 125
