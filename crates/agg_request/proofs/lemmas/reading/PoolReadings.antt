-- What a reading with builders answers, from what the readings of its parts answer.
use Rattle.std.proofs.Common.{◌≡◌, Bool, false, List, Result, Ok, Err, IsErrAnd, subst, sym}
use Rattle.agg_request.specs.declared.json_values.read_error.ReadError.{ReadError}
use Rattle.agg_request.specs.declared.json_values.read_error.ReadError.TheVariants.{Unsupported}
use Rattle.agg_request.specs.declared.json_values.read_error.ReadError.TheVariants.{Grammar}
use Rattle.agg_request.specs.declared.json_values.read_error.ReadError.TheVariants.{UnknownBuilder}
use Rattle.agg_request.specs.declared.json_values.read_error.ReadError.TheVariants.{OutOfMemory}
use Rattle.agg_request.specs.json_values.Reading.{IsReadingWith, IsRefusal}

-- a refusal of a part, read with the builders that were left for it, is one of the whole
pub refused_with : {A B C : Type 0} (Part : Bool → List B → C → Type 0) (HasPart : Type 0)
    (WantsPart : List B → Type 0) (Is : Bool → List B → A → Type 0) (Has : Type 0)
    (IsWanting : List B → Type 0) (rest pool : List B) (error : ReadError)
    → IsReadingWith Part HasPart WantsPart rest (Err error) → (HasPart → Has)
    → ((lenient : Bool) (some : List B) (x : A) → Is lenient some x
    → (mid : List B) × (y : C) × Part lenient mid y)
    → (WantsPart rest → IsWanting pool)
    → IsReadingWith Is Has IsWanting pool (Err error)
refused_with Part HasPart WantsPart Is Has IsWanting rest pool Unsupported told up part want = (
  up told.0,
  λ x h.
      let found = part false x.0 x.1 h in
      told.1 (found.0, found.1) found.2,
)
refused_with Part HasPart WantsPart Is Has IsWanting rest pool Grammar told up part want =
    λ lenient x h.
    let found = part lenient x.0 x.1 h in
    told lenient (found.0, found.1) found.2
refused_with Part HasPart WantsPart Is Has IsWanting rest pool UnknownBuilder told up part want =
    want told
refused_with Part HasPart WantsPart Is Has IsWanting rest pool OutOfMemory told up part want = tt

-- a refusal of a part that is passed on
pub passed_with : {A B C : Type 0} (Part : Bool → List B → C → Type 0) (HasPart : Type 0)
    (WantsPart : List B → Type 0) (Is : Bool → List B → A → Type 0) (Has : Type 0)
    (IsWanting : List B → Type 0) (rest pool : List B) (error : ReadError)
    (result : Result A ReadError) → IsErrAnd result (λ e. e ≡ error)
    → IsReadingWith Part HasPart WantsPart rest (Err error) → (HasPart → Has)
    → ((lenient : Bool) (some : List B) (x : A) → Is lenient some x
    → (mid : List B) × (y : C) × Part lenient mid y)
    → (WantsPart rest → IsWanting pool)
    → IsReadingWith Is Has IsWanting pool result
passed_with Part HasPart WantsPart Is Has IsWanting rest pool error (Ok x) is told up part want =
    absurd is
passed_with Part HasPart WantsPart Is Has IsWanting rest pool error (Err e) is told up part want =
    refused_with Part HasPart WantsPart Is Has IsWanting rest pool e
    (subst (λ r. IsReadingWith Part HasPart WantsPart rest (Err r)) (sym is) told) up part want

-- a reading of one relation is one of an equivalent one
pub read_with : {A B : Type 0} (Part : Bool → List B → A → Type 0) (HasPart : Type 0)
    (WantsPart : List B → Type 0) (Is : Bool → List B → A → Type 0) (Has : Type 0)
    (IsWanting : List B → Type 0) (pool : List B) (result : Result A ReadError)
    → IsReadingWith Part HasPart WantsPart pool result
    → ((x : A) → Part false pool x → Is false pool x) → (HasPart → Has)
    → ((lenient : Bool) (some : List B) (x : A) → Is lenient some x → Part lenient some x)
    → (WantsPart pool → IsWanting pool)
    → IsReadingWith Is Has IsWanting pool result
read_with Part HasPart WantsPart Is Has IsWanting pool (Ok x) told is up part want = is x told
read_with Part HasPart WantsPart Is Has IsWanting pool (Err error) told is up part want =
    refused_with Part HasPart WantsPart Is Has IsWanting pool pool error told up
    (λ lenient some x h. (some, x, part lenient some x h)) want

-- a refusal of a part that takes no builder is passed on
pub passed_alone : {A B C : Type 0} (Part : Bool → C → Type 0) (HasPart : Type 0)
    (Is : Bool → List B → A → Type 0) (Has : Type 0) (IsWanting : List B → Type 0) (pool : List B)
    (error : ReadError) (result : Result A ReadError) → IsErrAnd result (λ e. e ≡ error)
    → IsRefusal Part HasPart error → (HasPart → Has)
    → ((lenient : Bool) (some : List B) (x : A) → Is lenient some x → (y : C) × Part lenient y)
    → IsReadingWith Is Has IsWanting pool result
passed_alone Part HasPart Is Has IsWanting pool error (Ok x) is told up part = absurd is
passed_alone Part HasPart Is Has IsWanting pool error (Err e) is told up part =
    alone e (subst (IsRefusal Part HasPart) (sym is) told)
  where
    alone : (e : ReadError) → IsRefusal Part HasPart e
        → IsReadingWith Is Has IsWanting pool (Err e)
    alone Unsupported told = (
      up told.0,
      λ x h.
          let found = part false x.0 x.1 h in
          told.1 found.0 found.1,
    )
    alone Grammar told =
        λ lenient x h.
        let found = part lenient x.0 x.1 h in
        told lenient found.0 found.1
    alone UnknownBuilder told = absurd told
    alone OutOfMemory told = tt
