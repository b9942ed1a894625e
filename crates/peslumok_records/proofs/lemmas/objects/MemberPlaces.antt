-- The field that a member is of, looked for among the asked fields from the left.
use Rattle.std.proofs.Common.{◌≡◌, ◌≢◌, ◌<◌, ◌+◌, ℕ, List, length, get_or, sym, ap, ◌∙◌}
use Rattle.std.proofs.Common.{arith, inl, inr, subst}
use Rattle.std.specs.Prelude.{◌⊎◌, [], ◌∷◌, Option, Some, None, slice_get}
use Rattle.std.proofs.lemmas.Option.{none-some}
use Rattle.std.proofs.lemmas.Bool.{cases_lt}
use Rattle.std.proofs.lemmas.List.{get_or_default}
use Rattle.peslumok_records.specs.declared.held.asked.AskedField.{AskedField}
use Rattle.peslumok_records.specs.objects.Tokens.{IsOther, IsPlaceOf}
use Rattle.peslumok_records.specs.declared.objects.tokens.Place.TheVariants as place

-- the same among the fields before a place
abbrev pub IsPlaceBefore : List AskedField → List ℕ → ℕ → Option ℕ → Type 0
IsPlaceBefore asked name end None =
    (i : ℕ) (d : AskedField) → i < end → IsOther name (get_or asked i d)
IsPlaceBefore asked name end (Some at) =
    (at < end)
    × ((d : AskedField) → (get_or asked at d).name ≡ name)
    × ((i : ℕ) (d : AskedField) → i < end → i ≢ at → IsOther name (get_or asked i d))

lt_or_eq : (i n : ℕ) → i < n + 1 → (i < n) ⊎ (i ≡ n)
lt_or_eq i n less = elim (cases_lt i n) [
  | inl before ↦ inl before
  | inr not_before ↦ inr (omega (arith, less, not_before))
]

module _ (asked : List AskedField) (name : List ℕ) (end : ℕ) (field : AskedField)
    (within : end < length asked) (is : field ≡ get_or asked end field) where
  at_end : (d : AskedField) → field ≡ get_or asked end d
  at_end d = is ∙ get_or_default asked end field d within

  other_at : (i : ℕ) (d : AskedField) → IsOther name field
      → (i < end → IsOther name (get_or asked i d)) → i < end + 1 → IsOther name (get_or asked i d)
  other_at i d other rest less = elim (lt_or_eq i end less) [
    | inl before ↦ rest before
    | inr here ↦ subst (λ n. IsOther name (get_or asked n d)) (sym here)
        (subst (IsOther name) (at_end d) other)
  ]

  -- a field more that has no values of the member
  pub other_more : (found : Option ℕ) → IsOther name field
      → IsPlaceBefore asked name end found → IsPlaceBefore asked name (end + 1) found
  other_more None other before = λ i d less. other_at i d other (before i d) less
  other_more (Some at) other before = (
    omega (arith, before.0),
    before.1,
    λ i d less apart. other_at i d other (λ l. before.2 i d l apart) less,
  )

  -- the field of this name
  pub found_more : field.name ≡ name → IsPlaceBefore asked name end None
      → IsPlaceBefore asked name (end + 1) (Some end)
  found_more named before = (
    omega arith,
    λ d. ap (λ (f : AskedField). f.name) (sym (at_end d)) ∙ named,
    λ i d less apart. before i d (omega (arith, less, apart)),
  )

pub field_found : (asked : List AskedField) (name : List ℕ) (at end : ℕ) → end ≡ length asked
    → IsPlaceBefore asked name end (Some at) → IsPlaceOf asked name (place.Field at)
field_found asked name at end whole before = record {
  within = omega (arith, whole, before.0);
  named = before.1;
  others = λ i d less apart. before.2 i d (omega (arith, whole, less)) apart;
}

pub none_found : (asked : List AskedField) (name : List ℕ) (end : ℕ) → end ≡ length asked
    → IsPlaceBefore asked name end None → IsPlaceOf asked name place.Other
none_found asked name end whole before = λ i d less. before i d (omega (arith, whole, less))

-- ---- the first part of a path

pub first_part : (path : List (List ℕ)) (first : List ℕ) → Some first ≡ slice_get path 0
    → (rest : List (List ℕ)) × (path ≡ first ∷ rest)
first_part [] first is = absurd (none-some first (sym is))
first_part (part ∷ rest) first is =
    let same : part ≡ first = cc is in (rest, ap (λ p. p ∷ rest) same)
