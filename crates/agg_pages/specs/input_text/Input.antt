-- What the bytes of an input stand for.
use Rattle.std.specs.Prelude.{◌≤◌, ℕ, List, [], ◌∷◌, IsTrue, length}
use Rattle.std.specs.Str.{is_utf8}
use Rattle.agg_segment.specs.SnapshotDocuments.{SnapshotDocuments}
use Rattle.agg_pages.specs.declared.input_text.input.Input as stored
use Rattle.agg_pages.specs.declared.input_text.header.Header.{Header}
use Rattle.agg_pages.specs.input_text.Header.{IsHeaderLine}
use Rattle.agg_pages.specs.input_text.Lines.{lines_of}
use Rattle.agg_values.specs.Nothing.{NoneIs}
use Rattle.agg_pages.specs.input_text.SnapshotLines.{AreSnapshots}

-- an input: what a walk is asked for, with such builders of queries, and over what
pub record Input (B : Type 0) : Type 0 where
  pub header : Header B
  pub snapshots : List SnapshotDocuments

-- the input of lines: a header, and then snapshots
abbrev pub IsInputOfLines : {B : Type 0} → List B → (B → List ℕ) → List (List ℕ) → Input B
    → Type 0
IsInputOfLines builders name_of [] i = ⊥
IsInputOfLines builders name_of (first ∷ lines) i =
    IsHeaderLine builders name_of first i.header × AreSnapshots lines i.snapshots

-- how many bytes an input has at most
abbrev pub max_input_bytes : ℕ
max_input_bytes = 67108864

-- the bytes are an input for a program with these builders: UTF-8, no more than the limit, and its
-- lines
pub record IsInput {B : Type 0} (builders : List B) (name_of : B → List ℕ) (bytes : List ℕ)
    (i : Input B) : Type 0 where
  pub few : length bytes ≤ max_input_bytes
  pub text : IsTrue (is_utf8 bytes)
  pub lines : IsInputOfLines builders name_of (lines_of bytes) i

-- the bytes are no input
abbrev pub AreNoInput : {B : Type 0} → List B → (B → List ℕ) → List ℕ → Type 0
AreNoInput builders name_of bytes = NoneIs (IsInput builders name_of bytes)
