-- Documents that gain values one after the other.
use Rattle.std.proofs.Common.{◌≡◌, ℕ, List, [], ◌∷◌, ◌++◌, refl, sym, ap, ◌∙◌}
use Rattle.std.proofs.Common.{append_assoc, append-nil}
use Rattle.std.specs.Prelude.{Option, Some, None, option_map}
use Rattle.std.proofs.lemmas.List.{map-append}
use Rattle.agg_segment.specs.storage.Document.{Fields, key_of, meaning}
use Rattle.agg_segment.specs.declared.storage.document.FieldValue.{FieldValue}
use Rattle.agg_segment.specs.Segment.{Gathered, no_fields, open_document, with_key}
use Rattle.agg_segment.proofs.AddedValues.{add_all, add_all_is}
use Rattle.peslumok_records.specs.held.Values.{Gains, joined, named_values, values_of_fields}
use Rattle.peslumok_records.specs.held.Values.{with_values}
use Rattle.peslumok_records.specs.declared.held.asked.AskedField.{AskedField}

-- ---- lists that may be missing

pub joined-nil : {A : Type 0} (first : Option (List A)) → joined first (Some []) ≡ first
joined-nil None = refl
joined-nil (Some xs) = ap Some (append-nil xs)

pub some_nil : {A : Type 0} (next : Option (List A)) → joined (Some []) next ≡ next
some_nil None = refl
some_nil (Some xs) = refl

pub joined_assoc : {A : Type 0} (a b c : Option (List A))
    → joined (joined a b) c ≡ joined a (joined b c)
joined_assoc None b c = refl
joined_assoc (Some xs) None c = refl
joined_assoc (Some xs) (Some ys) None = refl
joined_assoc (Some xs) (Some ys) (Some zs) = ap Some (append_assoc xs ys zs)

pub named-joined : (name : List ℕ) (a b : Option (List FieldValue))
    → option_map (named_values name) (joined a b)
    ≡ joined (option_map (named_values name) a) (option_map (named_values name) b)
named-joined name None b = refl
named-joined name (Some xs) None = refl
named-joined name (Some xs) (Some ys) = ap Some (map-append (λ value. (name, value)) xs ys)

-- ---- values that are added

pub with_values-append : (xs ys : List (List ℕ × FieldValue)) (document : Fields)
    → with_values (xs ++ ys) document ≡ with_values ys (with_values xs document)
with_values-append [] ys document = refl
with_values-append (x ∷ xs) ys document =
    with_values-append xs ys (with_key x.0 (key_of x.1) document)

as_added : (xs : List (List ℕ × FieldValue)) (document : Fields)
    → with_values xs document ≡ add_all xs document
as_added [] document = refl
as_added (x ∷ xs) document = as_added xs (with_key x.0 (key_of x.1) document)

-- an empty document with values is the one that they mean
pub with_values-meaning : (xs : List (List ℕ × FieldValue))
    → with_values xs no_fields ≡ meaning xs
with_values-meaning xs = as_added xs no_fields ∙ add_all_is xs

-- ---- documents that gain values

pub gains-none : (old new : Gathered) → open_document new ≡ open_document old
    → Gains (Some []) old new
gains-none old new same = record { given = []; read = refl; added = same }

pub gains-one : (name : List ℕ) (value : FieldValue) (old new : Gathered)
    → open_document new ≡ with_key name (key_of value) (open_document old)
    → Gains (option_map (named_values name) (Some (value ∷ []))) old new
gains-one name value old new is =
    record { given = (name, value) ∷ []; read = refl; added = is }

pub gains-then : (first next : Option (List (List ℕ × FieldValue))) (old now new : Gathered)
    → Gains first old now → Gains next now new → Gains (joined first next) old new
gains-then first next old now new a b = record {
  given = a.given ++ b.given;
  read = ap (λ o. joined o next) a.read ∙ ap (joined (Some a.given)) b.read;
  added = b.added ∙ ap (with_values b.given) a.added
      ∙ sym (with_values-append a.given b.given (open_document old));
}

-- the same from a document that stays the same up to there
pub gains-from : (values : Option (List (List ℕ × FieldValue))) (old now new : Gathered)
    → open_document now ≡ open_document old → Gains values now new → Gains values old new
gains-from values old now new same a = record {
  given = a.given;
  read = a.read;
  added = a.added ∙ ap (with_values a.given) same;
}

-- ---- fields, one more at the end

pub values_of_fields-more : (values : AskedField → Option (List FieldValue))
    (fields : List AskedField) (field : AskedField)
    → values_of_fields values (fields ++ field ∷ [])
    ≡ joined (values_of_fields values fields)
    (option_map (named_values field.name) (values field))
values_of_fields-more values [] field =
    joined-nil (option_map (named_values field.name) (values field))
    ∙ sym (some_nil (option_map (named_values field.name) (values field)))
values_of_fields-more values (first ∷ fields) field =
    ap (joined (option_map (named_values first.name) (values first)))
    (values_of_fields-more values fields field)
    ∙ sym (joined_assoc (option_map (named_values first.name) (values first))
    (values_of_fields values fields) (option_map (named_values field.name) (values field)))
