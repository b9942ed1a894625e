-- What statuses of a run come from, and which have no answer.
use Rattle.std.proofs.Common.{◌≡◌, ◌⊎◌, inl, inr, refl}
use Rattle.agg_pages.specs.declared.document_json.input_error.InputError.{InputError}
use Rattle.agg_pages.specs.declared.document_json.input_error.InputError.TheVariants as refused
use Rattle.agg_pages.specs.declared.status.Status.{Status}
use Rattle.agg_pages.specs.declared.source.reading.ReadAllError.{ReadAllError}
use Rattle.agg_pages.specs.declared.source.reading.ReadAllError.TheVariants.{ReadFault, TooLong}
use Rattle.agg_pages.specs.declared.source.reading.ReadAllError.TheVariants.{OutOfMemory}
use Rattle.agg_pages.specs.declared.status.Status.TheVariants as status
use Rattle.agg_pages.specs.Status.{IsUnanswered, status_of_input, status_of_reading}

-- the one fault of reading that is a fault of the input
pub too_long-from_status : (error : ReadAllError) → status_of_reading error ≡ status.Input
    → error ≡ TooLong
too_long-from_status ReadFault e = cc
too_long-from_status TooLong e = refl
too_long-from_status OutOfMemory e = cc

-- the one fault of bytes that were read that is a fault of the input
pub not_input-from_status : (error : InputError) → status_of_input error ≡ status.Input
    → error ≡ refused.NotInput
not_input-from_status refused.NotInput e = refl
not_input-from_status refused.OutOfMemory e = cc

-- ---- statuses without an answer

pub no_ok : (s : Status) → IsUnanswered s → s ≡ status.Ok → ⊥
no_ok s (inl e) k = cc
no_ok s (inr (inl e)) k = cc
no_ok s (inr (inr e)) k = cc

pub no_usage : (s : Status) → IsUnanswered s → s ≡ status.Usage → ⊥
no_usage s (inl e) k = cc
no_usage s (inr (inl e)) k = cc
no_usage s (inr (inr e)) k = cc

pub no_refused : (s : Status) → IsUnanswered s → s ≡ status.Refused → ⊥
no_refused s (inl e) k = cc
no_refused s (inr (inl e)) k = cc
no_refused s (inr (inr e)) k = cc

pub no_write_fault : (s : Status) → IsUnanswered s → s ≡ status.WriteFault → ⊥
no_write_fault s (inl e) k = cc
no_write_fault s (inr (inl e)) k = cc
no_write_fault s (inr (inr e)) k = cc

-- ---- statuses of an input that is made

pub no_usage_made : (s : Status)
    → (s ≡ status.Ok) ⊎ ((s ≡ status.WriteFault) ⊎ (s ≡ status.OutOfMemory))
    → s ≡ status.Usage → ⊥
no_usage_made s (inl e) k = cc
no_usage_made s (inr (inl e)) k = cc
no_usage_made s (inr (inr e)) k = cc
