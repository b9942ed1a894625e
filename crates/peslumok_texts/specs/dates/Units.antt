-- Units of numbers that count from 1970.
use Rattle.std.specs.Prelude.{ℕ, List, Option, Some, None, if◌then◌else◌, codes}
use Rattle.std.specs.Str.{bytes_eq}
use Rattle.peslumok_texts.specs.declared.dates.unit.DateUnit.{DateUnit}
use Rattle.peslumok_texts.specs.declared.dates.unit.DateUnit.TheVariants as unit

-- the unit of a word
abbrev pub unit_of : List ℕ → Option DateUnit
unit_of word =
    if bytes_eq word (codes "seconds") then Some unit.Seconds
    else (if bytes_eq word (codes "millis") then Some unit.Millis
    else (if bytes_eq word (codes "nanos") then Some unit.Nanos else None))

-- the nanoseconds of one of a unit
abbrev pub nanos_each : DateUnit → ℕ
nanos_each unit.Seconds = 1_000_000_000
nanos_each unit.Millis = 1_000_000
nanos_each unit.Nanos = 1
