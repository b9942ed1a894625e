-- The lines of an input.
use Rattle.std.specs.Prelude.{ℕ, List, Bool, not, ◌==◌, ◌||◌, map, filter}
use Rattle.std.specs.List.{list_all, slice_split}
use Rattle.std.specs.Str.Lines.{strip_carriage_return}

-- whether a line has nothing but spaces and tabs
abbrev pub is_blank : List ℕ → Bool
is_blank line = list_all (λ b. b == 32 || b == 9) line

-- the lines: cut at each line feed, without one carriage return at the end
abbrev pub all_lines_of : List ℕ → List (List ℕ)
all_lines_of bytes = map strip_carriage_return (slice_split (λ b. b == 10) bytes)

-- the lines that say something: blank ones left out
abbrev pub lines_of : List ℕ → List (List ℕ)
lines_of bytes = filter (λ line. not (is_blank line)) (all_lines_of bytes)
