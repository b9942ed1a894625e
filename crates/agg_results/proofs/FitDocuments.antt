-- Documents whose numbers of some fields are of 64 bits.
use Rattle.std.proofs.Common.{ℕ, List, [], ◌∷◌, ◌++◌, length, sym, subst, ◌≤◌, ◌^◌}
use Rattle.std.proofs.Common.{FitsSigned}
use mir.Syntax.{w128}
use Rattle.std.specs.List.{AllByRecursion, filter_map, flat_map}
use Rattle.std.proofs.lemmas.List.Elements.{filter_map-append}
use Rattle.agg_segment.specs.storage.Document.{Fields}
use Rattle.agg_request_tree.specs.Metrics.{number_of, numbers_of, sum_of, values_of_field}
use Rattle.agg_request_tree.proofs.Lists.{AllByRecursion-Has, AllByRecursion-append}
use Rattle.agg_request_tree.proofs.Lists.{AllByRecursion-from_Has, Has, Has-append_left}
use Rattle.agg_request_tree.proofs.Lists.{Has-append_right, Has-flat_map}
use Rattle.agg_results.proofs.SmallSums.{IsSmall, many-summed}

module _ {X : Type 0} (P : X → Type 0) (xs ys : List X) (all : AllByRecursion P (xs ++ ys)) where
  pub all-left : AllByRecursion P xs
  all-left =
      AllByRecursion-from_Has P xs
      (λ x has. AllByRecursion-Has P (xs ++ ys) x all (Has-append_left xs ys x has))

  pub all-right : AllByRecursion P ys
  all-right =
      AllByRecursion-from_Has P ys
      (λ y has. AllByRecursion-Has P (xs ++ ys) y all (Has-append_right xs ys y has))

-- what holds of each element of all parts holds of those of one
pub all-part : {X Y : Type 0} (P : Y → Type 0) (f : X → List Y) (xs : List X) (x : X) → Has x xs
    → AllByRecursion P (flat_map f xs) → AllByRecursion P (f x)
all-part P f xs x has all =
    AllByRecursion-from_Has P (f x)
    (λ y own. AllByRecursion-Has P (flat_map f xs) y all (Has-flat_map f xs x y has own))

module _ (In : List ℕ → Type 0) where
  -- the numbers of a document in such fields are small
  abbrev pub IsFit : Fields → Type 0
  IsFit document =
      (field : List ℕ) → In field → AllByRecursion IsSmall (filter_map number_of (document field))

  -- where the numbers of such a field are small in all documents, each document is fit
  pub fit-from_numbers : (documents : List Fields)
      → ((field : List ℕ) → In field → AllByRecursion IsSmall (numbers_of field documents))
      → AllByRecursion IsFit documents
  fit-from_numbers [] small = tt
  fit-from_numbers (d ∷ documents) small = (
    λ field is. all-left IsSmall (filter_map number_of (d field)) (numbers_of field documents)
        (both field is),
    fit-from_numbers documents (λ field is. all-right IsSmall (filter_map number_of (d field))
        (numbers_of field documents) (both field is)),
  )
    where
      both : (field : List ℕ) → In field
          → AllByRecursion IsSmall (filter_map number_of (d field) ++ numbers_of field documents)
      both field is =
          subst (AllByRecursion IsSmall)
          (filter_map-append number_of (d field) (values_of_field field documents)) (small field is)

  numbers-from_fit : (field : List ℕ) → In field → (documents : List Fields)
      → AllByRecursion IsFit documents → AllByRecursion IsSmall (numbers_of field documents)
  numbers-from_fit field is [] fit = tt
  numbers-from_fit field is (d ∷ documents) fit =
      subst (AllByRecursion IsSmall)
      (sym (filter_map-append number_of (d field) (values_of_field field documents)))
      (AllByRecursion-append IsSmall (filter_map number_of (d field)) (numbers_of field documents)
      (fit.0 field is) (numbers-from_fit field is documents fit.1))

  -- a sum over fit documents is outside i128 only where it adds 2^62 numbers or more
  pub many-numbers : (field : List ℕ) → In field → (documents : List Fields)
      → AllByRecursion IsFit documents → ¬ (FitsSigned w128 (sum_of (numbers_of field documents)))
      → 2 ^ 62 ≤ length (numbers_of field documents)
  many-numbers field is documents fit =
      many-summed (numbers_of field documents) (numbers-from_fit field is documents fit)
