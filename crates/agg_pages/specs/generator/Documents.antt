-- Generated documents, and the segments and snapshots that they stand in.
use Rattle.std.specs.Prelude.{ℕ, ◌+◌, ◌*◌, ◌%◌, ◌==◌, pos, List, [], ◌∷◌, ◌++◌, codes, map}
use Rattle.std.specs.Prelude.{decimal, if◌then◌else◌}
use Rattle.std.specs.List.{range_with_len}
use Rattle.agg_segment.specs.storage.Document.{Fields, meaning}
use Rattle.agg_segment.specs.declared.storage.document.FieldValue.{FieldValue}
use Rattle.agg_segment.specs.declared.storage.document.FieldValue.TheVariants as value
use Rattle.agg_segment.specs.SnapshotDocuments.{SnapshotDocuments}
use Rattle.agg_pages.specs.generator.Draws.{draw}

-- a number by its draw: one below 50
abbrev pub number_drawn : ℕ → FieldValue
number_drawn n = value.I64 (pos (n % 50))

-- a text by its draw: `t` and a number below 20
abbrev pub text_drawn : ℕ → FieldValue
text_drawn n = value.Str (codes "t" ++ decimal (n % 20))

-- a date by its draw: the start of one of the first 1,000 days, in nanoseconds
abbrev pub date_drawn : ℕ → FieldValue
date_drawn n = value.Date (pos (n % 1_000 * 86_400_000_000_000))

-- the text with the name of its field, or nothing where a multiple of 7 is drawn
abbrev pub texts_drawn : ℕ → List (List ℕ × FieldValue)
texts_drawn n = if n % 7 == 0 then [] else (codes "b", text_drawn n) ∷ []

-- the values of a document with the names of their fields, by its three draws
abbrev pub values_drawn : ℕ → ℕ → ℕ → List (List ℕ × FieldValue)
values_drawn a b d =
    (codes "a", number_drawn a) ∷ [] ++ texts_drawn b ++ (codes "d", date_drawn d) ∷ []

-- the values of the document of a place: each document takes the next three draws
abbrev pub generated_values : ℕ → ℕ → List (List ℕ × FieldValue)
generated_values seed place =
    values_drawn (draw seed (3 * place)) (draw seed (3 * place + 1)) (draw seed (3 * place + 2))

-- the document of a place
abbrev pub generated_document : ℕ → ℕ → Fields
generated_document seed place = meaning (generated_values seed place)

-- so many documents, from a place on
unfoldable pub generated_documents : ℕ → ℕ → ℕ → List Fields
generated_documents seed first count = map (generated_document seed) (range_with_len first count)

-- the segment of a place: each one has the next 1,024 documents
abbrev pub generated_segment : ℕ → ℕ → List Fields
generated_segment seed place = generated_documents seed (1_024 * place) 1_024

-- the snapshot of all documents: four segments, and pages of 100 groups
abbrev pub generated_snapshot : ℕ → SnapshotDocuments
generated_snapshot seed = record {
  segments = map (generated_segment seed) (range_with_len 0 4);
  page_size = 100;
}
