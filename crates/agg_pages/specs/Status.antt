-- How a run of the program ended.
use Rattle.std.specs.Prelude.{◌≡◌, ◌⊎◌, ℕ}
use Rattle.agg_pages.specs.declared.document_json.input_error.InputError.{InputError}
use Rattle.agg_pages.specs.declared.document_json.input_error.InputError.TheVariants as refused
use Rattle.agg_pages.specs.declared.source.reading.ReadAllError.{ReadAllError}
use Rattle.agg_pages.specs.declared.source.reading.ReadAllError.TheVariants as reading
use Rattle.agg_pages.specs.declared.status.Status.{Status}
use Rattle.agg_pages.specs.declared.status.Status.TheVariants.{Ok, Refused, Usage, Input, ReadFault}
use Rattle.agg_pages.specs.declared.status.Status.TheVariants.{WriteFault, OutOfMemory}

-- the exit code of a status
abbrev pub code_of : Status → ℕ
code_of Ok = 0
code_of Refused = 1
code_of Usage = 2
code_of Input = 3
code_of ReadFault = 4
code_of WriteFault = 5
code_of OutOfMemory = 6

-- a status without an answer: the bytes are no input, or reading or memory failed
abbrev pub IsUnanswered : Status → Type 0
IsUnanswered status = (status ≡ Input) ⊎ ((status ≡ ReadFault) ⊎ (status ≡ OutOfMemory))

-- the status where not all bytes were read
abbrev pub status_of_reading : ReadAllError → Status
status_of_reading reading.ReadFault = ReadFault
status_of_reading reading.TooLong = Input
status_of_reading reading.OutOfMemory = OutOfMemory

-- the status where bytes gave no input
abbrev pub status_of_input : InputError → Status
status_of_input refused.NotInput = Input
status_of_input refused.OutOfMemory = OutOfMemory
