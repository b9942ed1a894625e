-- Fields that are asked for, one after another.
use Rattle.std.proofs.Common.{◌≡◌, ◌++◌, ◌∷◌, ◌∙◌, [], ℕ, zero, suc, List, Less, Greater}
use Rattle.std.proofs.Common.{ap, append_assoc, arith, map, subst, sym, inl, inr}
use Rattle.std.specs.List.{AllByRecursion}
use Rattle.std.specs.List.Sorted.{IsStrictlySortedBy}
use Rattle.std.specs.Map.{keys_of}
use Rattle.std.specs.Ordering.{ordering_reverse}
use Rattle.std.proofs.lemmas.Cmp.{nat_list_cmp_total}
use Rattle.std.proofs.lemmas.List.{map-append}
use Rattle.agg_values.specs.Names.{Named, name_cmp}
use Rattle.peslumok_texts.specs.declared.fields.field_type.FieldType.{FieldType}
use Rattle.peslumok_records.specs.held.Asked.{Asks, IsAsked, StandsLast}
use Rattle.peslumok_records.specs.declared.held.asked.AskedField.{AskedField}
use Rattle.agg_values.proofs.AscendingKeys.{below-before}
use Rattle.peslumok_front.specs.front.Asking.{named_type}

-- no name is below itself
not-below : (name other : List ℕ) → other ≡ name → name_cmp other name ≡ Less → ⊥
not-below name other same below =
    let own : name_cmp name name ≡ Less = subst (λ n. name_cmp n name ≡ Less) same below in
    let turned : Less ≡ Greater =
    sym own ∙ nat_list_cmp_total.antisymm name name ∙ ap ordering_reverse own in
    cc turned

-- a name above those that are asked for is none of them
not-asked : (name : List ℕ) (asked : List AskedField)
    → AllByRecursion (λ other. name_cmp other name ≡ Less) (keys_of (map named_type asked))
    → ¬ (IsAsked name asked)
not-asked name [] below has = absurd (omega (arith, has.2))
not-asked name (first ∷ asked) below (zero, field, within, is, named) =
    not-below name first.name (ap (λ (f : AskedField). f.name) is ∙ named) below.0
not-asked name (first ∷ asked) below (suc k, field, within, is, named) =
    not-asked name asked below.1 (k, field, omega (arith, within), is, named)

module _ (fields : Named FieldType) (old new : List AskedField) (left rest : Named FieldType)
    (name : List ℕ) (of : FieldType) (up : IsStrictlySortedBy name_cmp (keys_of fields))
    (so_far : fields ≡ map named_type old ++ left) (next : left ≡ (name, of) ∷ rest) where
  last : Asks name of old new → StandsLast name of old new
  last (inl (asked, same)) =
      absurd (not-asked name old
      (below-before name_cmp (map named_type old) (name, of) rest
      (subst (λ es. IsStrictlySortedBy name_cmp (keys_of es))
      (so_far ∙ ap (λ es. map named_type old ++ es) next) up)) asked)
  last (inr (not_asked, stands)) = stands

  -- one field more is asked for
  pub ask-more : Asks name of old new → fields ≡ map named_type new ++ rest
  ask-more asks =
      let stands = last asks in
      so_far ∙ ap (λ es. map named_type old ++ es) next
      ∙ (λ i. map named_type old ++ (sym stands.named i, sym stands.holds i) ∷ rest)
      ∙ sym (append_assoc (map named_type old) (named_type stands.field ∷ []) rest)
      ∙ ap (λ es. es ++ rest) (sym (map-append named_type old (stands.field ∷ [])))
      ∙ ap (λ (asked : List AskedField). map named_type asked ++ rest) (sym stands.added)

-- no field is asked for yet
pub ask-start : (fields items iterator : Named FieldType) (asked : List AskedField) → asked ≡ []
    → items ≡ fields → iterator ≡ items
    → fields ≡ map named_type asked ++ iterator
ask-start fields items iterator asked none are is =
    sym (ap (λ (some : List AskedField). map named_type some ++ iterator) none ∙ is ∙ are)
