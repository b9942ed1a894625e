-- The fields that a grouping asks for.
use Rattle.std.specs.Prelude.{◌≡◌, ℕ, List, [], ◌∷◌, ◌++◌, map, Some, None}
use Rattle.std.specs.Prelude.{if◌then◌else◌}
use Rattle.std.specs.List.{flat_map}
use Rattle.agg_values.specs.Names.{Named, value_of}
use Rattle.agg_segment.specs.declared.query.QueryTree.{QueryTree}
use Rattle.agg_segment.specs.declared.query.QueryTree.TheOpen.{QueryTree-F, All, Empty, Term}
use Rattle.agg_segment.specs.declared.query.QueryTree.TheOpen.{Range, Exists, Boolean}
use Rattle.agg_segment.specs.declared.query.QueryTree.TheFolds.{fold-QueryTree}
use Rattle.agg_request.specs.json_values.Json.{is_among}
use Rattle.peslumok_texts.specs.fields.Types.{type_of}
use Rattle.peslumok_texts.specs.declared.fields.field_type.FieldType.{FieldType}
use Rattle.peslumok_front.specs.declared.grouping.grouping.Grouping.{Grouping}

-- the fields that the parts of a query name
abbrev pub all_of : List (List (List ℕ)) → List (List ℕ)
all_of parts = flat_map (λ fields. fields) parts

-- the fields that a query names, by those of its parts
abbrev pub fields_by : QueryTree-F (List (List ℕ)) → List (List ℕ)
fields_by All = []
fields_by Empty = []
fields_by (Term field value) = field ∷ []
fields_by (Range field lower upper) = field ∷ []
fields_by (Exists field) = field ∷ []
fields_by (Boolean must should must_not) = all_of must ++ (all_of should ++ all_of must_not)

-- the fields that a query names, at any depth
abbrev pub fields_in : QueryTree → List (List ℕ)
fields_in = fold-QueryTree (List (List ℕ)) fields_by

-- the fields of the sources, of the metrics and of a query
abbrev pub fields_asked : Grouping → QueryTree → List (List ℕ)
fields_asked grouping query =
    map (λ by. by.field.now) grouping.by.items
    ++ (map (λ metric. metric.field.now) grouping.metrics.items ++ fields_in query)

-- under each of these names stands its type, and under each other what stood there before
abbrev pub AreAdded : Named FieldType → List (List ℕ) → Named FieldType → Named FieldType → Type 0
AreAdded types names before now =
    (name : List ℕ)
    → value_of name now
    ≡ (if is_among name names then Some (type_of types name) else value_of name before)

-- under each name stands its type where it is one of those fields, and else nothing
abbrev pub AreFieldsOf : Grouping → QueryTree → Named FieldType → Type 0
AreFieldsOf grouping query fields =
    (name : List ℕ)
    → value_of name fields
    ≡ (if is_among name (fields_asked grouping query)
    then Some (type_of grouping.types name) else None)
