-- Lines of CSV read as the records that they were written of.
use Rattle.std.proofs.Common.{◌≡◌, ℕ, List, [], ◌∷◌, None, map, refl}
use Rattle.csv.specs.Machine.{next_record}
use Rattle.csv.specs.Reading.{Reached, default_config}
use Rattle.csv.specs.Writing.{read_back}
use Rattle.csv.specs.declared.parser.State.TheVariants as st
use Rattle.csv.proofs.RoundTrip.{read-write}
use Rattle.peslumok_front.specs.tables.Output.{ReadBack, csv_lines}

-- the records are read one after another
reached : (records : List (List (List ℕ)))
    → Reached default_config st.StartRecord (csv_lines records) (map read_back records)
    st.StartRecord []
unfolding Reached
reached [] = (refl, refl)
reached (first ∷ records) = (
  (read_back first, st.StartRecord, csv_lines records),
  read-write first (csv_lines records),
  refl,
  reached records,
)

-- after the records there are no more
at-end : next_record default_config st.StartRecord [] [] [] ≡ None
unfolding next_record
at-end = refl

pub records-read-back : (records : List (List (List ℕ))) → ReadBack records
records-read-back records = (st.StartRecord, [], reached records, at-end)
