-- The values of a row, one field more at the end.
use Rattle.std.proofs.Common.{◌≡◌, ◌<◌, ◌+◌, ℕ, zero, suc, List, [], ◌∷◌, ◌++◌, take, get_or}
use Rattle.std.proofs.Common.{length, sym, ap, ◌∙◌, subst, arith}
use Rattle.std.specs.Prelude.{Option, None, option_map}
use Rattle.std.proofs.lemmas.List.{take_more, length-take-le}
use Rattle.agg_segment.specs.declared.storage.document.FieldValue.{FieldValue}
use Rattle.agg_segment.specs.Segment.{Gathered}
use Rattle.peslumok_records.specs.held.Values.{Gains, joined, named_values}
use Rattle.peslumok_records.specs.declared.held.asked.AskedField.{AskedField}
use Rattle.peslumok_records.proofs.lemmas.held.Gains.{gains-then, joined-nil, joined_assoc}
use Rattle.peslumok_records.proofs.lemmas.held.Gains.{some_nil}
use Rattle.peslumok_records.proofs.lemmas.held.NoDocuments.{joined-none}
use Rattle.peslumok_records.specs.cells.Cells.{cell_at, values_at, values_from, values_of_row}

-- the values of the field of a number
abbrev values_of : ℕ → AskedField → List (Option ℕ) → List (List ℕ)
    → Option (List (List ℕ × FieldValue))
values_of index field places cells =
    option_map (named_values field.name) (values_at field.of (cell_at places index cells))

values_from-more : (index : ℕ) (fields : List AskedField) (field : AskedField)
    (places : List (Option ℕ)) (cells : List (List ℕ))
    → values_from index (fields ++ field ∷ []) places cells
    ≡ joined (values_from index fields places cells)
    (values_of (index + length fields) field places cells)
values_from-more index [] field places cells =
    let same : index ≡ index + length {A = AskedField} [] = omega arith in
    joined-nil (values_of index field places cells)
    ∙ ap (λ n. values_of n field places cells) same
    ∙ sym (some_nil (values_of (index + length {A = AskedField} []) field places cells))
values_from-more index (first ∷ fields) field places cells =
    let same : (index + 1) + length fields ≡ index + length (first ∷ fields) = omega arith in
    ap (joined (values_of index first places cells))
    (values_from-more (index + 1) fields field places cells)
    ∙ sym (joined_assoc (values_of index first places cells)
    (values_from (index + 1) fields places cells)
    (values_of ((index + 1) + length fields) field places cells))
    ∙ ap (λ n. joined (values_from index (first ∷ fields) places cells)
    (values_of n field places cells)) same

-- one field more
pub gains_cell : (asked : List AskedField) (places : List (Option ℕ)) (cells : List (List ℕ))
    (at : ℕ) (field : AskedField) (old now new : Gathered) → at < length asked
    → field ≡ get_or asked at field
    → Gains (values_of_row (take at asked) places cells) old now
    → Gains (option_map (named_values field.name)
    (values_at field.of (cell_at places at cells))) now new
    → Gains (values_of_row (take (at + 1) asked) places cells) old new
gains_cell asked places cells at field old now new within is first next =
    let long : length (take at asked) ≡ at = length-take-le at asked (omega (arith, within)) in
    let here : 0 + length (take at asked) ≡ at = omega (arith, long) in
    subst (λ given. Gains given old new)
    (sym (ap (λ fields. values_of_row fields places cells)
    (take_more asked at field within ∙ ap (λ f. take at asked ++ f ∷ []) (sym is))
    ∙ values_from-more 0 (take at asked) field places cells
    ∙ ap (λ n. joined (values_of_row (take at asked) places cells)
    (values_of n field places cells)) here))
    (gains-then _ _ old now new first next)

-- a cell that can't be read
pub no_cell : (index : ℕ) (fields : List AskedField) (places : List (Option ℕ))
    (cells : List (List ℕ)) (at : ℕ) (field : AskedField) (number : ℕ) → at < length fields
    → field ≡ get_or fields at field → number ≡ index + at
    → values_at field.of (cell_at places number cells) ≡ None
    → values_from index fields places cells ≡ None
no_cell index [] places cells at field number within is counts none =
    absurd (omega (arith, within))
no_cell index (first ∷ fields) places cells zero field number within is counts none =
    let here : number ≡ index = omega (arith, counts) in
    ap (λ o. joined (option_map (named_values first.name) o)
    (values_from (index + 1) fields places cells))
    (ap (λ n. values_at first.of (cell_at places n cells)) (sym here)
    ∙ ap (λ (f : AskedField). values_at f.of (cell_at places number cells)) (sym is) ∙ none)
no_cell index (first ∷ fields) places cells (suc at) field number within is counts none =
    ap (joined (values_of index first places cells))
    (no_cell (index + 1) fields places cells at field number (omega (arith, within)) is
    (omega (arith, counts)) none)
    ∙ joined-none (values_of index first places cells)
