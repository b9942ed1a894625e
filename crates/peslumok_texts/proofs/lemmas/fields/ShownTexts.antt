-- The texts of dates as those of numbers.
use Rattle.std.proofs.Common.{◌≡◌, ◌⊎◌, inl, inr, ℕ, ℤ, List, Ok, subst, sym, arith, FitsSigned}
use Rattle.std.proofs.Common.{w64}
use Rattle.std.proofs.lemmas.Int.{ints}
use Rattle.agg_values.specs.declared.typed_key.CompositeIntermediateKey.{CompositeIntermediateKey}
use Rattle.agg_values.specs.declared.typed_key.CompositeIntermediateKey.TheVariants.{DateTime}
use Rattle.peslumok_texts.specs.dates.Dates.{IsDateText, in_range}
use Rattle.peslumok_texts.specs.declared.dates.unit.DateUnit.{DateUnit}
use Rattle.peslumok_texts.specs.fields.Shown.{IsNanosText, IsNumberText, IsValueText}
use Rattle.peslumok_texts.specs.declared.fields.field_type.FieldType.{FieldType}
use Rattle.peslumok_texts.specs.declared.fields.field_type.FieldType.TheVariants.{Date, DateNumber}

in_range-fits : (n : ℤ) → FitsSigned w64 n → in_range n ≡ Ok n
in_range-fits n fits = grind (arith, ints, fits)

-- the date of nanoseconds that have 64 bits
pub nanos_text : (n nanos : ℤ) (text : List ℕ) → nanos ≡ n → FitsSigned w64 n
    → IsDateText nanos text → IsNanosText n text
nanos_text n nanos text is fits date =
    rw (in_range-fits n fits) (subst (λ (k : ℤ). IsDateText k text) is date)

-- a number of a date field is nanoseconds
pub number_text : (of : FieldType) (n count : ℤ) (text : List ℕ)
    → (of ≡ Date) ⊎ ((unit : DateUnit) × (of ≡ DateNumber unit))
    → count ≡ n → IsNanosText count text → IsNumberText of n text
number_text of n count text (inl e) is nanos =
    subst (λ (x : FieldType). IsNumberText x n text) (sym e)
    (subst (λ (k : ℤ). IsNanosText k text) is nanos)
number_text of n count text (inr (unit, e)) is nanos =
    subst (λ (x : FieldType). IsNumberText x n text) (sym e)
    (subst (λ (k : ℤ). IsNanosText k text) is nanos)

-- a date is its nanoseconds
pub date_text : (of : FieldType) (value : CompositeIntermediateKey) (n nanos : ℤ) (text : List ℕ)
    → value ≡ DateTime n → nanos ≡ n
    → IsDateText nanos text → IsValueText of value text
date_text of value n nanos text e is date =
    subst (λ (x : CompositeIntermediateKey). IsValueText of x text) (sym e)
    (subst (λ (k : ℤ). IsDateText k text) is date)
