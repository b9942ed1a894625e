-- What can't be read has no documents.
use Rattle.std.proofs.Common.{◌≡◌, ◌<◌, ℕ, zero, suc, List, [], ◌∷◌, ◌++◌, map, length, get_or}
use Rattle.std.proofs.Common.{refl, sym, ap, ◌∙◌, arith}
use Rattle.std.specs.Prelude.{Option, Some, None, option_map}
use Rattle.std.proofs.lemmas.Option.{none-some}
use Rattle.agg_values.specs.Nothing.{NoneIs}
use Rattle.agg_segment.specs.storage.Document.{Fields}
use Rattle.agg_segment.specs.declared.storage.document.FieldValue.{FieldValue}
use Rattle.peslumok_records.specs.held.Documents.{AreRead, IsRead}
use Rattle.peslumok_records.specs.held.Values.{joined, named_values, values_of_fields}
use Rattle.peslumok_records.specs.declared.held.asked.AskedField.{AskedField}

-- ---- values

pub joined-none : {A : Type 0} (first : Option (List A)) → joined first None ≡ None
joined-none None = refl
joined-none (Some xs) = refl

pub no_field : (values : AskedField → Option (List FieldValue)) (fields : List AskedField) (at : ℕ)
    (field : AskedField) → at < length fields → field ≡ get_or fields at field
    → values field ≡ None → values_of_fields values fields ≡ None
no_field values [] at field within is none = absurd (omega (arith, within))
no_field values (first ∷ fields) zero field within is none =
    ap (λ o. joined (option_map (named_values first.name) o) (values_of_fields values fields))
    (ap values (sym is) ∙ none)
no_field values (first ∷ fields) (suc at) field within is none =
    ap (joined (option_map (named_values first.name) (values first)))
    (no_field values fields at field (omega (arith, within)) is none)
    ∙ joined-none (option_map (named_values first.name) (values first))

-- ---- documents

-- what can't be read has no document
pub unread : (read : Option Fields) → read ≡ None → (document : Fields) → IsRead read document → ⊥
unread read none document is = none-some document (sym none ∙ is.is)

pub none_first : (first : Option Fields) (rest : List (Option Fields)) → NoneIs (IsRead first)
    → (documents : List Fields) → AreRead (first ∷ rest) documents → ⊥
none_first first rest none [] are = are
none_first first rest none (d ∷ ds) are = none d are.0

pub none_later : (first : Option Fields) (rest : List (Option Fields)) → NoneIs (AreRead rest)
    → (documents : List Fields) → AreRead (first ∷ rest) documents → ⊥
none_later first rest none [] are = are
none_later first rest none (d ∷ ds) are = none ds are.1

-- one among others has no document
pub none_among : {A : Type 0} (f : A → Option Fields) (xs : List A) (x : A) (more : List A)
    → NoneIs (IsRead (f x)) → NoneIs (AreRead (map f (xs ++ x ∷ more)))
none_among f [] x more none = none_first (f x) (map f more) none
none_among f (first ∷ xs) x more none =
    none_later (f first) (map f (xs ++ x ∷ more)) (none_among f xs x more none)
