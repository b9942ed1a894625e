-- Filters with no filters inside: their parts, and what is none.
use Rattle.std.proofs.Common.{◌≡◌, Bool, true, false, List, ℕ, Option, Some, None, is_some}
use Rattle.std.proofs.Common.{Result, IsErrAnd, codes, subst}
use Rattle.std.proofs.Common.{option_and_then, inl, inr}
use Rattle.serde_json.specs.Data.{Data}
use Rattle.serde_json.specs.Find.{as_str, get}
use Rattle.agg_segment.specs.declared.storage.document.FieldValue.{FieldValue}
use Rattle.agg_segment.specs.declared.query.RangeBound.{RangeBound}
use Rattle.agg_segment.specs.declared.query.RangeBound.TheVariants.{Unbounded, Included, Excluded}
use Rattle.agg_segment.specs.declared.query.QueryTree.{QueryTree}
use Rattle.agg_request.specs.json_values.Json.{IsField, text_at}
use Rattle.agg_request.specs.json_values.Query.{IsBound, IsExists, IsRange}
use Rattle.agg_request.specs.json_values.Query.{IsTerm, Says, SaysAt}
use Rattle.agg_request.specs.json_values.Unsupported.{HasUnsupportedAt, HasUnsupportedBound}
use Rattle.agg_request.specs.json_values.Unsupported.{HasUnsupportedEnd, IsUnsupportedText}
use Rattle.agg_request.specs.json_values.Reading.{IsReading, IsRefusal}
use Rattle.agg_request.specs.declared.json_values.read_error.ReadError.{ReadError}
use Rattle.agg_request.proofs.lemmas.json_values.Readings.{read_as, refused_by}

-- ---- a value at a member

-- what is read of the text is read of the member
pub read_at : (name : List ℕ) (body : Data) (text : List ℕ) (result : Result FieldValue ReadError)
    → text_at name body ≡ Some text
    → IsReading (λ lenient. Says lenient text) (IsUnsupportedText text) result
    → IsReading (λ lenient. SaysAt lenient name body) (HasUnsupportedAt name body) result
read_at name body text result there told =
    read_as (λ lenient. Says lenient text) (IsUnsupportedText text)
    (λ lenient. SaysAt lenient name body) (HasUnsupportedAt name body) result told
    (λ value h. (text, there, h)) (λ h. (text, there, h))
    (λ lenient value (other, found, h).
    let same : other ≡ text = cc in subst (λ t. Says lenient t value) same h)

-- ---- an end of a range

-- no value is said where no member is
nothing_at : (lenient : Bool) (name : List ℕ) (body : Data) (value : FieldValue)
    → is_some (get name body) ≡ false → ¬ (SaysAt lenient name body value)
nothing_at lenient name body value absent (text, there, h) = none (get name body) absent there
  where
    none : (d : Option Data) → is_some d ≡ false → ¬ (option_and_then as_str d ≡ Some text)
    none None e f = cc
    none (Some d) e f = cc

-- what is there is not absent
there_is_none : (d : Option Data) → is_some d ≡ true → ¬ (d ≡ None)
there_is_none None there none = cc
there_is_none (Some d) there none = cc

-- the value of an included end, where the one member alone is there
included_of : (lenient : Bool) (including excluding : List ℕ) (body : Data) (bound : RangeBound)
    → is_some (get including body) ≡ true → is_some (get excluding body) ≡ false
    → IsBound lenient including excluding body bound
    → (value : FieldValue) × SaysAt lenient including body value
included_of lenient including excluding body Unbounded there absent h =
    absurd (there_is_none (get including body) there h.0)
included_of lenient including excluding body (Included value) there absent h = (value, h.0)
included_of lenient including excluding body (Excluded value) there absent h =
    absurd (nothing_at lenient excluding body value absent h.0)

-- the value of an excluded end, where the other member alone is there
excluded_of : (lenient : Bool) (including excluding : List ℕ) (body : Data) (bound : RangeBound)
    → is_some (get including body) ≡ false → is_some (get excluding body) ≡ true
    → IsBound lenient including excluding body bound
    → (value : FieldValue) × SaysAt lenient excluding body value
excluded_of lenient including excluding body Unbounded absent there h =
    absurd (there_is_none (get excluding body) there h.1)
excluded_of lenient including excluding body (Included value) absent there h =
    absurd (nothing_at lenient including body value absent h.0)
excluded_of lenient including excluding body (Excluded value) absent there h = (value, h.0)

-- a refused value of an included end refuses the end
pub refused_included : (including excluding : List ℕ) (body : Data) (error : ReadError)
    (result : Result RangeBound ReadError) → is_some (get including body) ≡ true
    → is_some (get excluding body) ≡ false → IsErrAnd result (λ e. e ≡ error)
    → IsRefusal (λ lenient. SaysAt lenient including body) (HasUnsupportedAt including body) error
    → IsReading (λ lenient. IsBound lenient including excluding body)
    (HasUnsupportedEnd including excluding body) result
refused_included including excluding body error result there absent is told =
    refused_by (λ lenient. SaysAt lenient including body) (HasUnsupportedAt including body)
    (λ lenient. IsBound lenient including excluding body)
    (HasUnsupportedEnd including excluding body) error result is told (λ h. inl h)
    (λ lenient bound h. included_of lenient including excluding body bound there absent h)

-- a refused value of an excluded end refuses the end
pub refused_excluded : (including excluding : List ℕ) (body : Data) (error : ReadError)
    (result : Result RangeBound ReadError) → is_some (get including body) ≡ false
    → is_some (get excluding body) ≡ true → IsErrAnd result (λ e. e ≡ error)
    → IsRefusal (λ lenient. SaysAt lenient excluding body) (HasUnsupportedAt excluding body) error
    → IsReading (λ lenient. IsBound lenient including excluding body)
    (HasUnsupportedEnd including excluding body) result
refused_excluded including excluding body error result absent there is told =
    refused_by (λ lenient. SaysAt lenient excluding body) (HasUnsupportedAt excluding body)
    (λ lenient. IsBound lenient including excluding body)
    (HasUnsupportedEnd including excluding body) error result is told (λ h. inr h)
    (λ lenient bound h. excluded_of lenient including excluding body bound absent there h)

-- ---- a term

-- a refused value refuses the term
pub refused_term : (body : Data) (error : ReadError) (result : Result QueryTree ReadError)
    → IsErrAnd result (λ e. e ≡ error)
    → IsRefusal (λ lenient. SaysAt lenient (codes "value") body)
    (HasUnsupportedAt (codes "value") body) error
    → IsReading (λ lenient. IsTerm lenient body) (HasUnsupportedAt (codes "value") body) result
refused_term body error result is told =
    refused_by (λ lenient. SaysAt lenient (codes "value") body)
    (HasUnsupportedAt (codes "value") body) (λ lenient. IsTerm lenient body)
    (HasUnsupportedAt (codes "value") body) error result is told (λ h. h)
    (λ lenient tree h. (h.1, h.5))

-- ---- a range

-- a refused lower end refuses the range
pub refused_lower : (body : Data) (error : ReadError) (result : Result QueryTree ReadError)
    → IsErrAnd result (λ e. e ≡ error)
    → IsRefusal (λ lenient. IsBound lenient (codes "gte") (codes "gt") body)
    (HasUnsupportedEnd (codes "gte") (codes "gt") body) error
    → IsReading (λ lenient. IsRange lenient body) (HasUnsupportedBound body) result
refused_lower body error result is told =
    refused_by (λ lenient. IsBound lenient (codes "gte") (codes "gt") body)
    (HasUnsupportedEnd (codes "gte") (codes "gt") body) (λ lenient. IsRange lenient body)
    (HasUnsupportedBound body) error result is told (λ h. inl h)
    (λ lenient tree h. (h.1, h.6))

-- a refused upper end refuses the range
pub refused_upper : (body : Data) (error : ReadError) (result : Result QueryTree ReadError)
    → IsErrAnd result (λ e. e ≡ error)
    → IsRefusal (λ lenient. IsBound lenient (codes "lte") (codes "lt") body)
    (HasUnsupportedEnd (codes "lte") (codes "lt") body) error
    → IsReading (λ lenient. IsRange lenient body) (HasUnsupportedBound body) result
refused_upper body error result is told =
    refused_by (λ lenient. IsBound lenient (codes "lte") (codes "lt") body)
    (HasUnsupportedEnd (codes "lte") (codes "lt") body) (λ lenient. IsRange lenient body)
    (HasUnsupportedBound body) error result is told (λ h. inr h)
    (λ lenient tree h. (h.2, h.7))

-- ---- a field

-- where no field is read, nothing is read
no_field : {A : Type 0} (body : Data) (Is : Bool → A → Type 0) (Has : Type 0) (error : ReadError)
    (result : Result A ReadError) → IsErrAnd result (λ e. e ≡ error)
    → IsRefusal (λ lenient. IsField body) ⊥ error
    → ((lenient : Bool) (x : A) → Is lenient x → (field : List ℕ) × IsField body field)
    → IsReading Is Has result
no_field body Is Has error result is told part =
    refused_by (λ lenient. IsField body) ⊥ Is Has error result is told (λ h. absurd h) part

-- no term
pub no_field_of_term : (body : Data) (error : ReadError) (result : Result QueryTree ReadError)
    → IsErrAnd result (λ e. e ≡ error) → IsRefusal (λ lenient. IsField body) ⊥ error
    → IsReading (λ lenient. IsTerm lenient body) (HasUnsupportedAt (codes "value") body) result
no_field_of_term body error result is told =
    no_field body (λ lenient. IsTerm lenient body) (HasUnsupportedAt (codes "value") body) error
    result is told (λ lenient tree h. (h.0, h.4))

-- no range
pub no_field_of_range : (body : Data) (error : ReadError) (result : Result QueryTree ReadError)
    → IsErrAnd result (λ e. e ≡ error) → IsRefusal (λ lenient. IsField body) ⊥ error
    → IsReading (λ lenient. IsRange lenient body) (HasUnsupportedBound body) result
no_field_of_range body error result is told =
    no_field body (λ lenient. IsRange lenient body) (HasUnsupportedBound body) error result is told
    (λ lenient tree h. (h.0, h.5))

-- no query for any value
pub no_field_of_exists : (body : Data) (error : ReadError) (result : Result QueryTree ReadError)
    → IsErrAnd result (λ e. e ≡ error) → IsRefusal (λ lenient. IsField body) ⊥ error
    → IsReading (λ lenient. IsExists body) ⊥ result
no_field_of_exists body error result is told =
    no_field body (λ lenient. IsExists body) ⊥ error result is told
    (λ lenient tree h. (h.0, h.3))
