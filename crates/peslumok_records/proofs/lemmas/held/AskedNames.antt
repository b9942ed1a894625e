-- Names among the fields that were asked for.
use Rattle.std.proofs.Common.{◌≡◌, ℕ, Bool, true, false, List, [], ◌∷◌}
use Rattle.std.proofs.Common.{sym, ap, ◌∙◌, arith, suc, zero, refl, rules}
use Rattle.std.specs.Prelude.{nat_eq, ◌||◌}
use Rattle.std.specs.List.{list_any}
use Rattle.std.specs.Cmp.Lexicographic.{other_text, pointwise, same_text}
use Rattle.peslumok_records.specs.held.Asked.{IsAsked}
use Rattle.peslumok_records.specs.declared.held.asked.AskedField.{AskedField}

-- whether a field has this name
abbrev pub is_named : List ℕ → AskedField → Bool
is_named name field = pointwise nat_eq field.name name

later : (name : List ℕ) (field : AskedField) (fields : List AskedField) → IsAsked name fields
    → IsAsked name (field ∷ fields)
later name field fields has =
    (suc has.0, has.1, omega (arith, has.2), has.3, has.4)

asked_here : (name : List ℕ) (field : AskedField) (fields : List AskedField) (here : Bool)
    → is_named name field ≡ here → (list_any (is_named name) fields ≡ true → IsAsked name fields)
    → (here || list_any (is_named name) fields) ≡ true → IsAsked name (field ∷ fields)
asked_here name field fields true same rest is =
    (0, field, omega arith, refl, same_text field.name name (sym same))
asked_here name field fields false same rest is = later name field fields (rest is)

pub asked_by_test : (name : List ℕ) (fields : List AskedField)
    → list_any (is_named name) fields ≡ true → IsAsked name fields
asked_by_test name [] is = search rules
asked_by_test name (field ∷ fields) is =
    asked_here name field fields (is_named name field) refl (asked_by_test name fields) is

unasked_here : (name : List ℕ) (first : AskedField) (fields : List AskedField) (here : Bool)
    → is_named name first ≡ here
    → (list_any (is_named name) fields ≡ false → ¬ (IsAsked name fields))
    → (here || list_any (is_named name) fields) ≡ false → ¬ (IsAsked name (first ∷ fields))
unasked_here name first fields true same rest is has = search rules
unasked_here name first fields false same rest is (zero, field, within, at, named) =
    other_text first.name name (sym same) (ap (λ (f : AskedField). f.name) at ∙ named)
unasked_here name first fields false same rest is (suc k, field, within, at, named) =
    rest is (k, field, omega (arith, within), at, named)

pub unasked_by_test : (name : List ℕ) (fields : List AskedField)
    → list_any (is_named name) fields ≡ false → ¬ (IsAsked name fields)
unasked_by_test name [] is has = absurd (omega (arith, has.2))
unasked_by_test name (first ∷ fields) is has =
    unasked_here name first fields (is_named name first) refl (unasked_by_test name fields) is has
