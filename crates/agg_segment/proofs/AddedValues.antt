-- Documents whose values are added one by one.
use Rattle.std.proofs.Common.{◌≡◌, ℕ, List, [], ◌∷◌, ◌++◌, map, cond, true, false, refl, sym, ap}
use Rattle.std.proofs.Common.{◌∙◌, inl, inr}
use Rattle.std.specs.Prelude.{Bool, ◌⊎◌}
use Rattle.std.specs.Str.{bytes_eq}
use Rattle.std.specs.Cmp.Lexicographic.{nat_list_eq_equiv}
use mathlib.Core.Bool.{true≢false}
use Rattle.std.proofs.lemmas.Bool.{cases_Bool}
use Rattle.std.proofs.lemmas.List.{append-nil, append_assoc}
use Rattle.agg_segment.specs.storage.Document.{Fields, by_class, key_of, values_in, meaning}
use Rattle.agg_segment.specs.Segment.{no_fields, with_key}
use Rattle.agg_segment.specs.declared.storage.document.FieldValue.{FieldValue}
use Rattle.agg_segment.proofs.lemmas.storage.Places.{same_texts}
use Rattle.agg_segment.proofs.lemmas.storage.Classes.{by_class_more, by_class_nil}

-- a document with these values added
abbrev pub add_all : List (List ℕ × FieldValue) → Fields → Fields
add_all [] document = document
add_all (p ∷ ps) document = add_all ps (with_key p.0 (key_of p.1) document)

turned : (a b : List ℕ) (t : Bool) → bytes_eq a b ≡ t → bytes_eq b a ≡ t
turned a b true is = let same : a ≡ b = same_texts a b is in ap (λ x. bytes_eq b x) same
    ∙ nat_list_eq_equiv.refl b
turned a b false is = elim (cases_Bool (bytes_eq b a)) [
  | inl same ↦ let alike : b ≡ a = same_texts b a same in
      absurd (true≢false (sym (ap (λ x. bytes_eq a x) alike ∙ nat_list_eq_equiv.refl a) ∙ is))
  | inr other ↦ other
]

added : (ps : List (List ℕ × FieldValue)) (document : Fields) (before : Fields)
    → ((n : List ℕ) → document n ≡ by_class (before n)) → (n : List ℕ)
    → add_all ps document n ≡ by_class (before n ++ map key_of (values_in ps n))
added [] document before is n = is n ∙ ap by_class (sym (append-nil (before n)))
added (p ∷ ps) document before is n =
    added ps (with_key p.0 (key_of p.1) document) (λ m. cond (bytes_eq p.0 m)
    (before m ++ key_of p.1 ∷ []) (before m)) (λ m. next m (cases_Bool (bytes_eq p.0 m))) n
    ∙ ap by_class (here (cases_Bool (bytes_eq p.0 n)))
  where
    next : (m : List ℕ) → (bytes_eq p.0 m ≡ true) ⊎ (bytes_eq p.0 m ≡ false)
        → with_key p.0 (key_of p.1) document m
        ≡ by_class (cond (bytes_eq p.0 m) (before m ++ key_of p.1 ∷ []) (before m))
    next m (inl same) = rw same (ap (λ ks. by_class (ks ++ key_of p.1 ∷ [])) (is m)
        ∙ by_class_more (before m) (key_of p.1 ∷ []))
    next m (inr other) = rw other (is m)

    here : (bytes_eq p.0 n ≡ true) ⊎ (bytes_eq p.0 n ≡ false)
        → cond (bytes_eq p.0 n) (before n ++ key_of p.1 ∷ []) (before n) ++ map key_of
        (values_in ps n) ≡ before n ++ map key_of (values_in (p ∷ ps) n)
    here (inl same) = rw (same, turned p.0 n true same) (append_assoc (before n) (key_of p.1 ∷ [])
        (map key_of (values_in ps n)))
    here (inr other) = rw (other, turned p.0 n false other) refl

pub add_all_is : (ps : List (List ℕ × FieldValue)) → add_all ps no_fields ≡ meaning ps
add_all_is ps = λ i n. added ps no_fields no_fields (λ m. sym by_class_nil) n i
