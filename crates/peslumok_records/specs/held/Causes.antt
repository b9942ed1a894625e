-- What the cause of an error tells of a text.
use Rattle.std.specs.Prelude.{Bool, true, false}
use Rattle.peslumok_records.specs.declared.held.error.RecordCause.{RecordCause}
use Rattle.peslumok_records.specs.declared.held.error.RecordCause.TheVariants as cause

-- the text is in another encoding, or has a fault, or memory ended
pub data CauseKind : Type 0 where
  encoding : CauseKind
  fault : CauseKind
  memory : CauseKind

-- what a cause tells
abbrev pub kind_of : RecordCause → CauseKind
kind_of cause.Utf16 = encoding
kind_of cause.Gzip = encoding
kind_of cause.OutOfMemory = memory
kind_of _ = fault

-- whether it is another encoding
abbrev pub is_of_encoding : CauseKind → Bool
is_of_encoding encoding = true
is_of_encoding fault = false
is_of_encoding memory = false

-- whether it is a fault
abbrev pub is_of_fault : CauseKind → Bool
is_of_fault encoding = false
is_of_fault fault = true
is_of_fault memory = false

-- whether a cause is that the text is in another encoding
abbrev pub is_encoding : RecordCause → Bool
is_encoding why = is_of_encoding (kind_of why)

-- whether a cause is that the text, a record or a value of it can't be read
abbrev pub is_fault : RecordCause → Bool
is_fault why = is_of_fault (kind_of why)
