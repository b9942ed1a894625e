-- The values of the items of an array, and of the asked fields, one more at the end.
use Rattle.std.proofs.Common.{◌≡◌, ◌<◌, ◌+◌, ℕ, List, [], ◌∷◌, ◌++◌, take, get_or, length}
use Rattle.std.proofs.Common.{sym, ap, ◌∙◌, subst}
use Rattle.std.specs.Prelude.{Option, option_map}
use Rattle.std.proofs.lemmas.List.{take_more}
use Rattle.json.specs.Value.{items_view, value_view}
use Rattle.json.specs.declared.value.Value.{Value}
use Rattle.agg_segment.specs.declared.storage.document.FieldValue.{FieldValue}
use Rattle.peslumok_texts.specs.declared.fields.field_type.FieldType.{FieldType}
use Rattle.agg_segment.specs.Segment.{Gathered}
use Rattle.peslumok_records.specs.held.Values.{Gains, joined, named_values, values_of_fields}
use Rattle.peslumok_records.specs.declared.held.asked.AskedField.{AskedField}
use Rattle.peslumok_records.proofs.lemmas.held.Gains.{gains-then, joined-nil, joined_assoc}
use Rattle.peslumok_records.proofs.lemmas.held.Gains.{named-joined, some_nil, values_of_fields-more}
use Rattle.peslumok_records.specs.objects.Objects.{item_values, single_values}

item_values-more : {A : Type 0} (of : FieldType) (items : List (Value A)) (item : Value A)
    → item_values of (items_view (items ++ item ∷ []))
    ≡ joined (item_values of (items_view items)) (single_values of (value_view item))
item_values-more of [] item =
    joined-nil (single_values of (value_view item))
    ∙ sym (some_nil (single_values of (value_view item)))
item_values-more of (first ∷ items) item =
    ap (joined (single_values of (value_view first))) (item_values-more of items item)
    ∙ sym (joined_assoc (single_values of (value_view first))
    (item_values of (items_view items)) (single_values of (value_view item)))

-- one item more
pub gains_item : {A : Type 0} (name : List ℕ) (of : FieldType) (items : List (Value A)) (at : ℕ)
    (item : Value A) (old now new : Gathered) → at < length items → item ≡ get_or items at item
    → Gains (option_map (named_values name) (item_values of (items_view (take at items)))) old now
    → Gains (option_map (named_values name) (single_values of (value_view item))) now new
    → Gains (option_map (named_values name) (item_values of (items_view (take (at + 1) items))))
    old new
gains_item name of items at item old now new within is first next =
    subst (λ values. Gains values old new)
    (sym (ap (λ l. option_map (named_values name) (item_values of (items_view l)))
    (take_more items at item within ∙ ap (λ v. take at items ++ v ∷ []) (sym is))
    ∙ ap (option_map (named_values name)) (item_values-more of (take at items) item)
    ∙ named-joined name (item_values of (items_view (take at items)))
    (single_values of (value_view item))))
    (gains-then _ _ old now new first next)

-- one field more
pub gains_field : (values : AskedField → Option (List FieldValue)) (asked : List AskedField)
    (at : ℕ) (field : AskedField) (old now new : Gathered) → at < length asked
    → field ≡ get_or asked at field
    → Gains (values_of_fields values (take at asked)) old now
    → Gains (option_map (named_values field.name) (values field)) now new
    → Gains (values_of_fields values (take (at + 1) asked)) old new
gains_field values asked at field old now new within is first next =
    subst (λ given. Gains given old new)
    (sym (ap (values_of_fields values)
    (take_more asked at field within ∙ ap (λ f. take at asked ++ f ∷ []) (sym is))
    ∙ values_of_fields-more values (take at asked) field))
    (gains-then _ _ old now new first next)
