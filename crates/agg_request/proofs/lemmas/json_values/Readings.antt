-- What a reading answers, from what the readings of its parts answer.
use Rattle.std.proofs.Common.{◌≡◌, Bool, false, Result, Ok, Err, IsErrAnd, subst, sym}
use Rattle.agg_request.specs.declared.json_values.read_error.ReadError.{ReadError}
use Rattle.agg_request.specs.declared.json_values.read_error.ReadError.TheVariants.{Unsupported}
use Rattle.agg_request.specs.declared.json_values.read_error.ReadError.TheVariants.{Grammar}
use Rattle.agg_request.specs.declared.json_values.read_error.ReadError.TheVariants.{UnknownBuilder}
use Rattle.agg_request.specs.declared.json_values.read_error.ReadError.TheVariants.{OutOfMemory}
use Rattle.agg_request.specs.json_values.Reading.{IsReading, IsRefusal}

-- a refusal of a part is one of the whole
pub refused : {A B : Type 0} (Part : Bool → B → Type 0) (HasPart : Type 0) (Is : Bool → A → Type 0)
    (Has : Type 0) (error : ReadError) → IsRefusal Part HasPart error → (HasPart → Has)
    → ((lenient : Bool) (x : A) → Is lenient x → (y : B) × Part lenient y) → IsRefusal Is Has error
refused Part HasPart Is Has Unsupported told up part = (
  up told.0,
  λ x h. told.1 (part false x h).0 (part false x h).1,
)
refused Part HasPart Is Has Grammar told up part =
    λ lenient x h. told lenient (part lenient x h).0 (part lenient x h).1
refused Part HasPart Is Has UnknownBuilder told up part = told
refused Part HasPart Is Has OutOfMemory told up part = tt

-- a reading of one relation is one of an equivalent one
pub read_as : {A : Type 0} (Part : Bool → A → Type 0) (HasPart : Type 0) (Is : Bool → A → Type 0)
    (Has : Type 0) (result : Result A ReadError) → IsReading Part HasPart result
    → ((x : A) → Part false x → Is false x) → (HasPart → Has)
    → ((lenient : Bool) (x : A) → Is lenient x → Part lenient x) → IsReading Is Has result
read_as Part HasPart Is Has (Ok x) told is up part = is x told
read_as Part HasPart Is Has (Err error) told is up part =
    refused Part HasPart Is Has error told up (λ lenient x h. (x, part lenient x h))

-- a refusal of a part that is passed on
pub refused_by : {A B : Type 0} (Part : Bool → B → Type 0) (HasPart : Type 0)
    (Is : Bool → A → Type 0) (Has : Type 0) (error : ReadError) (result : Result A ReadError)
    → IsErrAnd result (λ e. e ≡ error) → IsRefusal Part HasPart error → (HasPart → Has)
    → ((lenient : Bool) (x : A) → Is lenient x → (y : B) × Part lenient y)
    → IsReading Is Has result
refused_by Part HasPart Is Has error (Ok x) is told up part = absurd is
refused_by Part HasPart Is Has error (Err e) is told up part =
    refused Part HasPart Is Has e (subst (IsRefusal Part HasPart) (sym is) told) up part

-- a refusal that is passed on, of a part and a whole that are read strictly alone
pub refused_part : {A B : Type 0} (Part : B → Type 0) (Is : A → Type 0) (error : ReadError)
    (result : Result A ReadError) → IsErrAnd result (λ e. e ≡ error)
    → IsRefusal (λ lenient. Part) ⊥ error → ((x : A) → Is x → (y : B) × Part y)
    → IsReading (λ lenient. Is) ⊥ result
refused_part Part Is error result is told part =
    refused_by (λ lenient. Part) ⊥ (λ lenient. Is) ⊥ error result is told (λ h. h)
    (λ lenient x h. part x h)
