use Rattle.std.proofs.Common.{drop}
use Rattle.csv.specs.Records.{fields_of}
use Rattle.peslumok_front.proofs.lemmas.after_text.NamedKeys.{ReadFrom}
use Rattle.peslumok_front.proofs.after_text.read.keys_of.Given as goal

-- the values from here on are read
abbrev pub invariant-loop-place : goal.invariant-loop-place
invariant-loop-place l =
    ReadFrom l.types (drop l.place l.sources) (drop l.place (fields_of l.values)) l.after
