-- A field that is new in a segment in the making.
use Rattle.std.proofs.Common.{◌≡◌, ◌≢◌, ◌+◌, ◌<◌, ℕ, zero, suc, List, [], ◌∷◌, ◌++◌, Some}
use Rattle.std.proofs.Common.{None, length, get_or, take, map, cond, true, false, refl, sym}
use Rattle.std.proofs.Common.{ap, ◌∙◌, inl, inr, arith, length-append}
use Rattle.std.specs.Prelude.{◌⊎◌}
use Rattle.std.specs.Option.{option_map_or}
use Rattle.std.specs.Str.{bytes_eq}
use Rattle.std.proofs.lemmas.Bool.{cases_eq, cases_lt, cases_Bool}
use Rattle.std.proofs.lemmas.List.{get_or_past}
use Rattle.std.proofs.lemmas.List.Elements.{All-weaker}
use Rattle.std.specs.Cmp.Lexicographic.{nat_list_eq_equiv}
use Rattle.agg_segment.specs.storage.Document.{by_class}
use Rattle.agg_segment.specs.storage.Cells.{Placed, keys_at, number_of}
use Rattle.agg_segment.specs.storage.Signs.{key_mark, IsFieldSign}
use Rattle.agg_segment.specs.Segment.{gathered_fields}
use Rattle.agg_segment.specs.Segment.{gathered_documents}
use Rattle.agg_segment.specs.Segment.{IsGathered}
use Rattle.agg_segment.specs.declared.storage.sign.Sign.{Sign}
use Rattle.agg_segment.specs.declared.storage.sign.Sign.TheVariants.{Small}
use Rattle.agg_segment.proofs.lemmas.storage.Places.{same_texts}
use Rattle.agg_segment.proofs.DocumentKeys.{keys_no_field, map_same}

-- a field that has no sign yet is read as small
pub padded : (signs : List Sign) (i : ℕ) → get_or (signs ++ Small ∷ []) i Small
    ≡ get_or signs i Small
padded [] zero = refl
padded [] (suc i) = refl
padded (s ∷ signs) zero = refl
padded (s ∷ signs) (suc i) = padded signs i

module _ (count : ℕ) (names : List (List ℕ × ℕ)) (cells : List Placed) (given : List Sign)
    (closed : ℕ) (inv : IsGathered (record { count = count; names = names; cells = cells }) given
    closed) where
  module _ (name : List ℕ) (named : List (List ℕ × ℕ)) (fresh : number_of names name ≡ None)
      (more : (n : List ℕ) → number_of named n ≡ cond (bytes_eq name n) (Some (length given))
      (number_of names n)) where
    pub field_new : number_of named name ≡ Some (length given)
    field_new = more name ∙ rw (nat_list_eq_equiv.refl name) refl

    differs : (n : List ℕ) (f : ℕ) → number_of names n ≡ Some f → bytes_eq name n ≡ false
    differs n f at = elim (cases_Bool (bytes_eq name n)) [
      | inl same ↦ let alike : name ≡ n = same_texts name n same in let there : None ≡ Some f =
          sym fresh ∙ ap (number_of names) alike ∙ at in cc
      | inr other ↦ other
    ]

    pub field_others : (f : ℕ) (n : List ℕ) → number_of names n ≡ Some f
        → number_of named n ≡ Some f
    field_others f n at = more n ∙ rw (differs n f at) at

    pub field_fields : (doc : ℕ)
        → gathered_fields (record { count = count; names = named; cells = cells }) doc
        ≡ gathered_fields (record { count = count; names = names; cells = cells }) doc
    field_fields doc = λ i n. each n i
      where
        none : keys_at cells (length given) doc ≡ []
        none = keys_no_field cells (length given) doc (All-weaker (λ (p : Placed).
            p.field < length given) (λ p. p.field ≢ length given) (λ p l same.
            omega (arith, l, same)) cells inv.fields)

        each : (n : List ℕ)
            → by_class (option_map_or (λ f. keys_at cells f doc) (number_of named n) [])
            ≡ by_class (option_map_or (λ f. keys_at cells f doc) (number_of names n) [])
        each n = ap by_class (ap (λ o. option_map_or (λ f. keys_at cells f doc) o []) (more n)
            ∙ elim (cases_Bool (bytes_eq name n)) [
              | inl same ↦ let alike : name ≡ n = same_texts name n same in
                  rw (same, ← alike, fresh) none
              | inr other ↦ rw other refl
            ])

    pub field_documents : gathered_documents (record {
      count = count;
      names = named;
      cells =
          cells;
    }) ≡ gathered_documents (record { count = count; names = names; cells = cells })
    field_documents = map_same (gathered_fields (record {
      count = count;
      names = named;
      cells =
          cells;
    })) (gathered_fields (record { count = count; names = names; cells = cells })) 0 count
        (λ d l. field_fields d)

    pub field_inv : IsGathered (record { count = count; names = named; cells = cells })
        (given ++ Small ∷ []) closed
    field_inv =
        let len : length (given ++ Small ∷ []) ≡ length given + 1 = length-append given (Small
        ∷ []) in
        record {
          few = inv.few;
          within = inv.within;
          before = inv.before;
          after = inv.after;
          numbered = λ n f at. by_name n f at (cases_Bool (bytes_eq name n));
          apart = λ n m f at there. both_names n m f at there (cases_Bool (bytes_eq name n))
              (cases_Bool (bytes_eq name m));
          named = λ f l. by_field f l (cases_eq f (length given));
          fields = All-weaker (λ (p : Placed). p.field < length given) (λ p.
              p.field < length (given ++ Small ∷ [])) (λ p l. omega (arith, l, len)) cells
              inv.fields;
          signs = (
            All-weaker (IsFieldSign given) (IsFieldSign (given ++ Small ∷ [])) (λ m is says.
                padded given m.0 ∙ is says) (map key_mark (take closed cells)) inv.signs.0,
            λ f l says. rw (padded given f) (inv.signs.1 f (known f (λ small. says (padded given f
                ∙ small))) (λ small. says (padded given f ∙ small))),
          );
        }
      where
        known : (f : ℕ) → get_or given f Small ≢ Small → f < length given
        known f says = elim (cases_lt f (length given)) [
          | inl low ↦ low
          | inr past ↦ absurd (says (get_or_past given f Small past))
        ]

        by_name : (n : List ℕ) (f : ℕ) → number_of named n ≡ Some f
            → (bytes_eq name n ≡ true) ⊎ (bytes_eq name n ≡ false)
            → f < length (given ++ Small ∷ [])
        by_name n f at (inl same) = let is : Some (length given) ≡ Some f =
            sym (more n ∙ rw same refl) ∙ at in let here : length given ≡ f = cc in
            omega (arith, here, length-append given (Small ∷ []))
        by_name n f at (inr other) = let is : number_of names n ≡ Some f =
            sym (more n ∙ rw other refl) ∙ at in
            omega (arith, inv.numbered n f is, length-append given (Small ∷ []))

        both_names : (n m : List ℕ) (f : ℕ) → number_of named n ≡ Some f
            → number_of named m ≡ Some f → (bytes_eq name n ≡ true) ⊎ (bytes_eq name n ≡ false)
            → (bytes_eq name m ≡ true) ⊎ (bytes_eq name m ≡ false) → n ≡ m
        both_names n m f at there (inl one) (inl two) = sym (same_texts name n one)
            ∙ same_texts name m two
        both_names n m f at there (inl one) (inr two) =
            let is : Some (length given) ≡ Some f = sym (more n ∙ rw one refl) ∙ at in
            let here : length given ≡ f = cc in
            let old : number_of names m ≡ Some f = sym (more m ∙ rw two refl) ∙ there in
            absurd (omega (arith, inv.numbered m f old, here))
        both_names n m f at there (inr one) (inl two) =
            let is : Some (length given) ≡ Some f = sym (more m ∙ rw two refl) ∙ there in
            let here : length given ≡ f = cc in
            let old : number_of names n ≡ Some f = sym (more n ∙ rw one refl) ∙ at in
            absurd (omega (arith, inv.numbered n f old, here))
        both_names n m f at there (inr one) (inr two) = inv.apart n m f (sym (more n ∙ rw one refl)
            ∙ at) (sym (more m ∙ rw two refl) ∙ there)

        by_field : (f : ℕ) → f < length (given ++ Small ∷ [])
            → (f ≡ length given) ⊎ (f ≢ length given) → (n : List ℕ) × (number_of named n ≡ Some f)
        by_field f l (inl last) = (name, field_new ∙ ap Some (sym last))
        by_field f l (inr other) = let (n, at) =
            inv.named f (omega (arith, l, other, length-append given (Small ∷ []))) in
            (n, field_others f n at)
