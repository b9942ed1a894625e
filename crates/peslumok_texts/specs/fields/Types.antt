-- The type of each field, by its name.
use Rattle.std.specs.Prelude.{ℕ, List, unwrap_or}
use Rattle.agg_values.specs.Names.{Named, value_of}
use Rattle.peslumok_texts.specs.declared.fields.field_type.FieldType.{FieldType}
use Rattle.peslumok_texts.specs.declared.fields.field_type.FieldType.TheVariants.{Plain}

-- the type of a field, where one that has none is plain
abbrev pub type_of : Named FieldType → List ℕ → FieldType
type_of types field = unwrap_or (value_of field types) Plain
