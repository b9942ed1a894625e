-- The fields that are read of records.
use Rattle.std.specs.Prelude.{◌≡◌, ℕ, List, map}
use Rattle.agg_values.specs.Names.{Named}
use Rattle.agg_segment.specs.declared.query.QueryTree.{QueryTree}
use Rattle.peslumok_texts.specs.declared.fields.field_type.FieldType.{FieldType}
use Rattle.peslumok_records.specs.declared.held.asked.AskedField.{AskedField}
use Rattle.peslumok_front.specs.grouping.Fields.{AreFieldsOf}
use Rattle.peslumok_front.specs.declared.grouping.grouping.Grouping.{Grouping}

-- an asked field, as its name and its type
abbrev pub named_type : AskedField → List ℕ × FieldType
named_type field = (field.name, field.of)

-- the fields of these names and types are asked for, in order
abbrev pub AskFor : Named FieldType → List AskedField → Type 0
AskFor fields asked = map named_type asked ≡ fields

-- the fields of a grouping and of its query are asked for
pub record AskAll (grouping : Grouping) (query : QueryTree) (asked : List AskedField)
    : Type 0 where
  pub fields : Named FieldType
  pub are_fields : AreFieldsOf grouping query fields
  pub asks : AskFor fields asked
