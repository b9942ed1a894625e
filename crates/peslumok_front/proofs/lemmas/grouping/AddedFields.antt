-- Fields that are put into a map one by one.
use Rattle.std.proofs.Common.{◌≡◌, ◌<◌, ◌+◌, ◌∙◌, refl, sym, ap, subst, ℕ, List, [], ◌∷◌, ◌++◌}
use Rattle.std.proofs.Common.{Bool, true, false, ◌||◌, cond, Some, get_or, length, map}
use Rattle.std.proofs.Common.{take}
use Rattle.std.specs.BTreeMap.{is_at}
use Rattle.std.specs.List.{flat_map}
use Rattle.std.specs.Str.{bytes_eq}
use Rattle.std.proofs.lemmas.Bool.{false≢true, false_from_ne_true}
use Rattle.std.proofs.lemmas.Cmp.{nat_list_cmp_total}
use Rattle.std.proofs.lemmas.List.{map_more}
use Rattle.std.proofs.lemmas.List.Folds.{list_any-append}
use Rattle.std.proofs.lemmas.Map.Lookups.{exact_bytes}
use Rattle.std.proofs.lemmas.Slice.Eq.{bytes_eq-Decides}
use Rattle.agg_values.specs.Names.{Named, name_cmp, put, value_of}
use Rattle.agg_values.proofs.NameValues.{other-put, same_key, value-put}
use Rattle.agg_segment.specs.declared.query.QueryTree.{QueryTree}
use Rattle.agg_segment.specs.declared.query.QueryTree.TheVariants.{Boolean, rolls-Boolean}
use Rattle.agg_segment.specs.declared.query.QueryTree.TheOpen as layer
use Rattle.agg_segment.specs.declared.query.QueryTree.TheFolds.{fold-roll-QueryTree}
use Rattle.agg_request.specs.json_values.Json.{is_among}
use Rattle.peslumok_texts.specs.fields.Types.{type_of}
use Rattle.peslumok_texts.specs.declared.fields.field_type.FieldType.{FieldType}
use Rattle.peslumok_front.specs.grouping.Fields.{AreAdded, all_of, fields_by, fields_in}

-- a type that is put stands under its name
pub added-put : (types before now : Named FieldType) (field : List ℕ)
    → now ≡ put field (type_of types field) before → AreAdded types (field ∷ []) before now
added-put types before now field is name = by_name (bytes_eq name field) refl
  where
    by_name : (b : Bool) → bytes_eq name field ≡ b
        → value_of name now
        ≡ cond (bytes_eq name field || false) (Some (type_of types name)) (value_of name before)
    by_name true e =
        let same : name ≡ field = (bytes_eq-Decides name field).0 e in
        rw (is, e, same)
        (value-put nat_list_cmp_total exact_bytes before field (type_of types field))
    by_name false e =
        let apart : is_at (name_cmp name) field ≡ false =
        false_from_ne_true (is_at (name_cmp name) field)
        (λ at. false≢true (sym e ∙ (bytes_eq-Decides name field).1
        (same_key nat_list_cmp_total exact_bytes name field at))) in
        rw (is, e)
        (other-put nat_list_cmp_total exact_bytes before field name (type_of types field) apart)

-- none more
pub added-none : (types fields : Named FieldType) → AreAdded types [] fields fields
added-none types fields name = refl

-- some, and then some others
pub added-then : (types before mid now : Named FieldType) (names others : List (List ℕ))
    → AreAdded types names before mid → AreAdded types others mid now
    → AreAdded types (names ++ others) before now
added-then types before mid now names others first then name =
    then name ∙ ap (λ o. cond (is_among name others) (Some (type_of types name)) o) (first name)
    ∙ either (is_among name names) (is_among name others)
    ∙ ap (λ b. cond b (Some (type_of types name)) (value_of name before))
    (sym (list_any-append (bytes_eq name) names others))
  where
    either : (a b : Bool)
        → cond b (Some (type_of types name))
        (cond a (Some (type_of types name)) (value_of name before))
        ≡ cond (a || b) (Some (type_of types name)) (value_of name before)
    either true true = refl
    either true false = refl
    either false true = refl
    either false false = refl

-- ---- of lists

-- the field of one item more
pub added-item : {X : Type 0} (field_of : X → List ℕ) (xs : List X) (i : ℕ) (d : X)
    (types before mid now : Named FieldType) (field : List ℕ) → i < length xs
    → AreAdded types (map field_of (take i xs)) before mid → AreAdded types (field ∷ []) mid now
    → field ≡ field_of (get_or xs i d) → AreAdded types (map field_of (take (i + 1) xs)) before now
added-item field_of xs i d types before mid now field within so_far added is =
    subst (λ names. AreAdded types names before now) (sym (map_more field_of xs i d within))
    (added-then types before mid now (map field_of (take i xs)) (field_of (get_or xs i d) ∷ [])
    so_far (subst (λ name. AreAdded types (name ∷ []) mid now) is added))

-- ---- of queries

-- the fields of the parts of a Boolean query
parts-map : (trees : List QueryTree) → all_of (map fields_in trees) ≡ flat_map fields_in trees
parts-map [] = refl
parts-map (tree ∷ trees) = ap (λ names. fields_in tree ++ names) (parts-map trees)

pub fields-Boolean : (must should must_not : List QueryTree)
    → fields_in (Boolean must should must_not)
    ≡ flat_map fields_in must ++ (flat_map fields_in should ++ flat_map fields_in must_not)
fields-Boolean must should must_not =
    ap fields_in (sym (rolls-Boolean must should must_not))
    ∙ fold-roll-QueryTree (List (List ℕ)) fields_by (layer.Boolean must should must_not)
    ∙ (λ i. parts-map must i ++ (parts-map should i ++ parts-map must_not i))

-- those of all three parts are those of the query
pub added-Boolean : (types before one two now : Named FieldType) (query : QueryTree)
    (must should must_not : List QueryTree) → query ≡ Boolean must should must_not
    → AreAdded types (flat_map fields_in must) before one
    → AreAdded types (flat_map fields_in should) one two
    → AreAdded types (flat_map fields_in must_not) two now
    → AreAdded types (fields_in query) before now
added-Boolean types before one two now query must should must_not is first second third =
    subst (λ names. AreAdded types names before now)
    (sym (ap fields_in is ∙ fields-Boolean must should must_not))
    (added-then types before one now (flat_map fields_in must)
    (flat_map fields_in should ++ flat_map fields_in must_not) first
    (added-then types one two now (flat_map fields_in should) (flat_map fields_in must_not)
    second third))
