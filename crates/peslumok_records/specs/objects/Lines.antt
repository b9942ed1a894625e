-- The lines of a text, and their documents.
use Rattle.std.specs.Prelude.{◌≡◌, ◌==◌, ◌||◌, ◌+◌, ◌-◌, ◌^◌, ◌++◌, ◌∷◌, ℕ, List, Bool, false}
use Rattle.std.specs.Prelude.{filter, length, map, min, not}
use Rattle.std.specs.List.{list_all, slice_split}
use Rattle.agg_values.specs.Nothing.{NoneIs}
use Rattle.agg_segment.specs.storage.Document.{Fields}
use Rattle.peslumok_records.specs.held.Documents.{AreRead, IsRead}
use Rattle.peslumok_records.specs.declared.held.asked.AskedField.{AskedField}
use Rattle.peslumok_records.specs.objects.JsonRecords.{text_document}

-- the lines of a text: cut at each line feed
abbrev pub all_lines_of : List ℕ → List (List ℕ)
all_lines_of text = slice_split (λ b. b == 10) text

-- whether a line has nothing but spaces, tabs and carriage returns
abbrev pub is_blank : List ℕ → Bool
is_blank line = list_all (λ b. b == 32 || b == 9 || b == 13) line

-- these lines without the blank ones
abbrev pub without_blank : List (List ℕ) → List (List ℕ)
without_blank lines = filter (λ line. not (is_blank line)) lines

-- the lines of a text that aren't blank
abbrev pub lines_of : List ℕ → List (List ℕ)
lines_of text = without_blank (all_lines_of text)

-- each line is an object, and these are their documents
abbrev pub AreLineDocuments : List AskedField → List (List ℕ) → List Fields → Type 0
AreLineDocuments asked lines documents = AreRead (map (text_document asked) lines) documents

-- the first line of a text that has no document has this number, counted from 1 as far as a u64 can
pub record IsFirstFault (asked : List AskedField) (text : List ℕ) (number : ℕ) : Type 0 where
  pub before : List (List ℕ)
  pub line : List ℕ
  pub after : List (List ℕ)
  pub lines : all_lines_of text ≡ before ++ line ∷ after
  pub counted : number ≡ min (length before + 1) (2 ^ 64 - 1)
  pub documents : List Fields
  pub read : AreLineDocuments asked (without_blank before) documents
  pub filled : is_blank line ≡ false
  pub none : NoneIs (IsRead (text_document asked line))
