-- Bytes stand for one input at most.
use Rattle.std.proofs.Common.{◌≡◌, ◌≤◌, ◌<◌, ℕ, List, [], ◌∷◌, length, sym, ap}
use Rattle.std.proofs.Common.{◌∙◌, subst, arith}
use Rattle.std.specs.Str.{IsUtf8}
use Rattle.std.proofs.lemmas.Str.{IsUtf8-from_is_utf8, is_utf8-from_IsUtf8}
use Rattle.agg_segment.specs.SnapshotDocuments.{SnapshotDocuments}
use Rattle.agg_pages.specs.input_text.Header.{IsHeaderLine}
use Rattle.agg_pages.specs.input_text.Input.{AreNoInput, Input, IsInput, IsInputOfLines}
use Rattle.agg_pages.specs.input_text.Lines.{lines_of}
use Rattle.agg_values.specs.Nothing.{NoneIs}
use Rattle.agg_pages.specs.input_text.SnapshotLines.{AreSnapshots, Says, begun_snapshots}
use Rattle.agg_pages.proofs.lemmas.document_json.Beside.{AllZip-unique}
use Rattle.agg_pages.proofs.lemmas.input_text.Headers.{IsHeaderLine-unique}
use Rattle.agg_pages.proofs.lemmas.input_text.SnapshotSteps.{Says-unique}

-- ---- one input at most

pub AreSnapshots-unique : (lines : List (List ℕ)) (a b : List SnapshotDocuments)
    → AreSnapshots lines a → AreSnapshots lines b → a ≡ b
AreSnapshots-unique lines a b (said, say, stand, is) (said_too, say_too, stand_too, is_too) =
    is ∙ ap begun_snapshots (AllZip-unique Says Says-unique lines said said_too say say_too)
    ∙ sym is_too

IsInputOfLines-unique : {B : Type 0} (builders : List B) (name_of : B → List ℕ)
    (lines : List (List ℕ)) (i j : Input B) → IsInputOfLines builders name_of lines i
    → IsInputOfLines builders name_of lines j → i ≡ j
IsInputOfLines-unique builders name_of [] i j h k = absurd h
IsInputOfLines-unique builders name_of (first ∷ lines) i j h k = λ at. record {
  header = IsHeaderLine-unique builders name_of first i.header j.header h.0 k.0 at;
  snapshots = AreSnapshots-unique lines i.snapshots j.snapshots h.1 k.1 at;
}

pub IsInput-unique : {B : Type 0} (builders : List B) (name_of : B → List ℕ) (bytes : List ℕ)
    (i j : Input B) → IsInput builders name_of bytes i → IsInput builders name_of bytes j → i ≡ j
IsInput-unique builders name_of bytes i j h k =
    IsInputOfLines-unique builders name_of (lines_of bytes) i j h.lines k.lines

-- ---- the bytes of an input

pub input_some : {B : Type 0} (builders : List B) (name_of : B → List ℕ) (bytes : List ℕ)
    (i : Input B) → length bytes ≤ 67108864 → IsUtf8 bytes
    → IsInputOfLines builders name_of (lines_of bytes) i
    → IsInput builders name_of bytes i
input_some builders name_of bytes i few utf8 lines = record {
  few = few;
  text = is_utf8-from_IsUtf8 bytes utf8;
  lines = lines;
}

pub no_text : {B : Type 0} (builders : List B) (name_of : B → List ℕ) (bytes : List ℕ)
    → ¬ (IsUtf8 bytes) → AreNoInput builders name_of bytes
no_text builders name_of bytes none i h = none (IsUtf8-from_is_utf8 bytes h.text)

pub too_long : {B : Type 0} (builders : List B) (name_of : B → List ℕ) (bytes : List ℕ)
    → 67108864 < length bytes → AreNoInput builders name_of bytes
too_long builders name_of bytes long i h = absurd (omega (arith, long, h.few))

pub no_lines : {B : Type 0} (builders : List B) (name_of : B → List ℕ) (bytes : List ℕ)
    → NoneIs (IsInputOfLines builders name_of (lines_of bytes)) → AreNoInput builders name_of bytes
no_lines builders name_of bytes none i h = none i h.lines

-- ---- lines that are no input

pub no_header_lines : {B : Type 0} (builders : List B) (name_of : B → List ℕ)
    (lines : List (List ℕ)) (first : List ℕ) (rest : List (List ℕ)) → lines ≡ first ∷ rest
    → NoneIs (IsHeaderLine builders name_of first)
    → NoneIs (IsInputOfLines builders name_of lines)
no_header_lines builders name_of lines first rest cut none =
    subst (λ l. NoneIs (IsInputOfLines builders name_of l)) (sym cut) (λ i h. none i.header h.0)

pub no_snapshot_lines : {B : Type 0} (builders : List B) (name_of : B → List ℕ)
    (lines : List (List ℕ)) (first : List ℕ) (rest : List (List ℕ)) → lines ≡ first ∷ rest
    → NoneIs (AreSnapshots rest) → NoneIs (IsInputOfLines builders name_of lines)
no_snapshot_lines builders name_of lines first rest cut none =
    subst (λ l. NoneIs (IsInputOfLines builders name_of l)) (sym cut) (λ i h. none i.snapshots h.1)
