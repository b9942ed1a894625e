-- What a reading answers.
use Rattle.std.specs.Prelude.{Bool, false, List, Result, Ok, Err, ⊤}
use Rattle.agg_values.specs.Nothing.{NoneIs}
use Rattle.agg_values.specs.declared.error.KeyTextError.{KeyTextError}
use Rattle.agg_values.specs.declared.error.KeyTextError.TheVariants as key_text
use Rattle.agg_request.specs.declared.json_values.read_error.ReadError.{ReadError}
use Rattle.agg_request.specs.declared.json_values.read_error.ReadError.TheVariants.{Unsupported}
use Rattle.agg_request.specs.declared.json_values.read_error.ReadError.TheVariants.{Grammar}
use Rattle.agg_request.specs.declared.json_values.read_error.ReadError.TheVariants.{UnknownBuilder}
use Rattle.agg_request.specs.declared.json_values.read_error.ReadError.TheVariants.{OutOfMemory}

-- why nothing is read, where `Is` says what may be read, strictly and leniently: something that
-- isn't supported stands there, or nothing may be read even leniently
abbrev pub IsRefusal : {A : Type 0} → (Bool → A → Type 0) → Type 0 → ReadError → Type 0
IsRefusal Is HasUnsupported Unsupported = HasUnsupported × NoneIs (Is false)
IsRefusal Is HasUnsupported Grammar = (lenient : Bool) → NoneIs (Is lenient)
IsRefusal Is HasUnsupported UnknownBuilder = ⊥
IsRefusal Is HasUnsupported OutOfMemory = ⊤

-- what is read, or why nothing is
abbrev pub IsReading : {A : Type 0} → (Bool → A → Type 0) → Type 0 → Result A ReadError → Type 0
IsReading Is HasUnsupported (Ok x) = Is false x
IsReading Is HasUnsupported (Err error) = IsRefusal Is HasUnsupported error

-- what is read with the builders of a pool, or why nothing is: as `IsRefusal` says of whatever
-- builders, or for want of a builder in this pool
abbrev pub IsReadingWith : {A B : Type 0} → (Bool → List B → A → Type 0) → Type 0
    → (List B → Type 0) → List B → Result A ReadError → Type 0
IsReadingWith Is HasUnsupported IsWanting pool (Ok x) = Is false pool x
IsReadingWith Is HasUnsupported IsWanting pool (Err UnknownBuilder) = IsWanting pool
IsReadingWith {A = A} {B = B} Is HasUnsupported IsWanting pool (Err error) =
    IsRefusal {A = List B × A} (λ lenient x. Is lenient x.0 x.1) HasUnsupported error

-- the refusal of what holds a text that is no key's
abbrev pub refusal_of : KeyTextError → ReadError
refusal_of key_text.Unsupported = Unsupported
refusal_of key_text.OutOfMemory = OutOfMemory
refusal_of _ = Grammar
