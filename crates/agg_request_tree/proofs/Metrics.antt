-- Metrics of two lists in a row.
use Rattle.std.proofs.Common.{◌≡◌, ℕ, ◌+◌, List, [], ◌∷◌, ◌++◌, Option, None, Some, length}
use Rattle.std.proofs.Common.{length-append, refl, sym, ap, ◌∙◌, arith, ℤ, ◌+ℤ◌}
use Rattle.std.specs.Int.{int_max, int_min}
use Rattle.std.proofs.Math.IntN.{+ℤ_assoc, +ℤ_idl}
use Rattle.std.proofs.lemmas.Int.{ints, clamps}
use Rattle.std.specs.List.{filter_map}
use Rattle.std.proofs.lemmas.List.Concat.{flat_map-append}
use Rattle.std.proofs.lemmas.List.Elements.{filter_map-append}
use Rattle.agg_segment.specs.storage.Document.{Fields}
use Rattle.agg_request_tree.specs.Metrics.{best, best_of, number_of, numbers_of, sum_of}
use Rattle.agg_request_tree.specs.Metrics.{values_of_field}

pub values-append : (field : List ℕ) (documents others : List Fields)
    → values_of_field field (documents ++ others)
    ≡ values_of_field field documents ++ values_of_field field others
values-append field documents others =
    flat_map-append (λ (d : Fields). d field) documents others

pub numbers-append : (field : List ℕ) (documents others : List Fields)
    → numbers_of field (documents ++ others) ≡ numbers_of field documents ++ numbers_of field others
numbers-append field documents others =
    ap (filter_map number_of) (values-append field documents others)
    ∙ filter_map-append number_of (values_of_field field documents) (values_of_field field others)

pub count-append : (field : List ℕ) (documents others : List Fields)
    → length (values_of_field field (documents ++ others))
    ≡ length (values_of_field field documents) + length (values_of_field field others)
count-append field documents others =
    ap length (values-append field documents others)
    ∙ length-append (values_of_field field documents) (values_of_field field others)

pub sum-append : (xs ys : List ℤ) → sum_of (xs ++ ys) ≡ sum_of xs +ℤ sum_of ys
sum-append [] ys = sym (+ℤ_idl (sum_of ys))
sum-append (x ∷ xs) ys =
    ap (λ s. x +ℤ s) (sum-append xs ys) ∙ sym (+ℤ_assoc x (sum_of xs) (sum_of ys))

pub max-assoc : (x y z : ℤ) → int_max (int_max x y) z ≡ int_max x (int_max y z)
max-assoc x y z = omega (arith, ints, clamps)

pub min-assoc : (x y z : ℤ) → int_min (int_min x y) z ≡ int_min x (int_min y z)
min-assoc x y z = omega (arith, ints, clamps)

module _ (better : ℤ → ℤ → ℤ)
    (assoc : (x y z : ℤ) → better (better x y) z ≡ better x (better y z)) where
  best-assoc : (a b c : Option ℤ)
      → best better (best better a b) c ≡ best better a (best better b c)
  best-assoc None b c = refl
  best-assoc (Some x) None c = refl
  best-assoc (Some x) (Some y) None = refl
  best-assoc (Some x) (Some y) (Some z) = ap Some (assoc x y z)

  pub best-append : (xs ys : List ℤ)
      → best_of better (xs ++ ys) ≡ best better (best_of better xs) (best_of better ys)
  best-append [] ys = refl
  best-append (x ∷ xs) ys =
      ap (best better (Some x)) (best-append xs ys)
      ∙ sym (best-assoc (Some x) (best_of better xs) (best_of better ys))
